-- `register::taps::prime` meets its contract: no number passed divides q. Assumes nothing.
use mathlib.Core.Path.{◌≡◌}
use Prim.Native.Nat.{ℕ, ◌-◌, ◌%◌, ◌≤◌, ◌<◌}
use Rattle.register.proofs.taps.prime.Given as goal

abbrev pub invariant-loop-e : goal.invariant-loop-e
invariant-loop-e l = (2 ≤ l.e) × (l.e ≤ 256) × ((k : ℕ) → 2 ≤ k → k < l.e → l.q % k ≡ 0 → ⊥)

abbrev pub decreases-loop-e : goal.decreases-loop-e
decreases-loop-e l = 256 - l.e
