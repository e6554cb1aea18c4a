-- `samples::rows::add_in` meets its contract: the samples passed are added. Assumes nothing.
use Prim.Native.Nat.{◌≤◌}
use lib.IntN.{◌+ℤ◌}
use lib.ListN.{length}
use Rattle.sums.specs.Lists.{at}
use Rattle.sums.proofs.Tables.{Written}
use Rattle.samples.proofs.rows.add_in.Given as goal

abbrev pub invariant-loop-j : goal.invariant-loop-j
invariant-loop-j l = (l.j ≤ length l.part) × Written l.j (λ i. at l.initial.row i +ℤ at l.part i) l.initial.row l.row
