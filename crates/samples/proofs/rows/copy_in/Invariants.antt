-- `samples::rows::copy_in` meets its contract: after j turns the first j samples are those passed. Assumes nothing.
use Prim.Native.Nat.{◌≤◌}
use lib.ListN.{length}
use Rattle.sums.specs.Lists.{at}
use Rattle.sums.proofs.Tables.{Written}
use Rattle.samples.proofs.rows.copy_in.Given as goal

abbrev pub invariant-loop-j : goal.invariant-loop-j
invariant-loop-j l = (l.j ≤ length l.part) × Written l.j (at l.part) l.initial.row l.row
