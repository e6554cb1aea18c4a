-- `prediction::direct::some_used` meets its contract: all numbers passed are 0. Assumes nothing.
use mathlib.Core.Path.{◌≡◌}
use Prim.Native.Nat.{ℕ, ◌≤◌, ◌<◌}
use lib.IntN.{pos}
use Rattle.sums.specs.Lists.{at}
use Rattle.prediction.proofs.direct.some_used.Given as goal

abbrev pub invariant-loop-i : goal.invariant-loop-i
invariant-loop-i l = (l.i ≤ l.count) × ((k : ℕ) → k < l.i → at l.room k ≡ pos 0)
