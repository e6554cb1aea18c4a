-- `register::returning::first_return` meets its contract: of the windows gone by none is all ones. Assumes nothing.
use mathlib.Core.Path.{◌≡◌}
use Prim.Native.Nat.{ℕ, ◌<◌}
use Rattle.register.specs.Register.{P, window as window_of}
use Rattle.register.proofs.returning.first_return.Given as goal

abbrev pub invariant-loop-k : goal.invariant-loop-k
invariant-loop-k l = (0 < l.k) × (l.window ≡ window_of l.order l.taps l.k) × ((i : ℕ) → 0 < i → i < l.k → window_of l.order l.taps i ≡ P l.order → ⊥)
