-- `report::printing::fill_digits` meets its contract: what is left of the number, and its last digits in the room. Assumes nothing.
use Prim.Native.Nat.{◌≤◌}
use Rattle.report.proofs.Writing.{Digits}
use Rattle.report.proofs.printing.fill_digits.Given as goal

abbrev pub invariant-loop-rest : goal.invariant-loop-rest
invariant-loop-rest l = (l.i ≤ 19) × Digits l.n l.i l.rest l.room

abbrev pub decreases-loop-rest : goal.decreases-loop-rest
decreases-loop-rest l = l.rest
