-- `prediction::direct::may_be_loud` meets its contract: the sum has the sizes of the values passed. Assumes nothing.
use mathlib.Core.Path.{◌≡◌}
use Prim.Native.Nat.{◌≤◌}
use lib.IntN.{nat_abs}
use lib.ListN.{length}
use Rattle.sums.specs.Sum.{total}
use Rattle.sums.specs.Lists.{at}
use Rattle.prediction.proofs.direct.may_be_loud.Given as goal

abbrev pub invariant-loop-i : goal.invariant-loop-i
invariant-loop-i l = (l.i ≤ length l.h) × (l.sum ≡ total l.i (λ k. nat_abs (at l.h k)))
