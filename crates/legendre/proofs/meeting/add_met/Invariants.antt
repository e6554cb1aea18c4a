-- `legendre::meeting::add_met` meets its contract: after i turns what the squares of the numbers below i meet is gathered. Assumes nothing.
use mathlib.Core.Path.{◌≡◌}
use Prim.Native.Nat.{◌*◌, ◌%◌}
use Rattle.legendre.proofs.OnesMeet.{Gathered}
use Rattle.legendre.proofs.meeting.add_met.Given as goal

abbrev pub invariant-loop-i : goal.invariant-loop-i
invariant-loop-i l = (l.square ≡ l.i * l.i % l.p) × Gathered l.i l.p l.count l.back l.twice l.initial.sums l.sums
