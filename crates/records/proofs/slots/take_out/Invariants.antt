-- `records::slots::take_out` meets its contract: the samples passed are taken from their sums. Assumes nothing.
use Prim.Native.Nat.{◌≤◌}
use lib.IntN.{◌-ℤ◌}
use lib.ListN.{length}
use Rattle.sums.specs.Lists.{at}
use Rattle.sums.proofs.Tables.{Written}
use Rattle.records.proofs.slots.take_out.Given as goal

abbrev pub invariant-loop-j : goal.invariant-loop-j
invariant-loop-j l = (l.j ≤ length l.row) × Written l.j (λ i. at l.initial.sums i -ℤ at l.row i) l.initial.sums l.sums
