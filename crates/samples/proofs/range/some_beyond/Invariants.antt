-- `samples::range::some_beyond` meets its contract: of the values passed it is known whether one lies beyond a bound. Assumes nothing.
use mathlib.Core.Path.{◌≡◌}
use mathlib.Core.Bool.{Bool, ◌||◌}
use mathlib.Core.List.{List}
use Prim.Native.Nat.{ℕ, ◌≤◌}
use lib.IntN.{ℤ}
use lib.ListN.{length}
use lib.Signed.{lt_z}
use Rattle.sums.specs.Lists.{at, some}
use Rattle.samples.proofs.range.some_beyond.Given as goal

abbrev pub outside : ℤ → ℤ → List ℤ → ℕ → Bool
outside low high y j = lt_z (at y j) low || lt_z high (at y j)

abbrev pub invariant-loop-x : goal.invariant-loop-x
invariant-loop-x l = (l.x-index ≤ length l.y) × (l.out ≡ some l.x-index (outside l.low l.high l.y))
