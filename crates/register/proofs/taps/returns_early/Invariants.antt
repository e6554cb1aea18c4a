-- `register::taps::returns_early` meets its contract: no divisor passed has a return. Assumes nothing.
use mathlib.Core.Path.{◌≡◌}
use mathlib.Core.Bool.{Bool, false}
use Prim.Native.Nat.{ℕ, ◌+◌, ◌-◌, ◌≤◌}
use Rattle.sums.specs.Lists.{some}
use Rattle.register.specs.Doubling.{returns_at}
use Rattle.register.proofs.taps.returns_early.Given as goal

abbrev pub test : ℕ → ℕ → ℕ → Bool
test N taps i = returns_at N taps (i + 1)

abbrev pub invariant-loop-d : goal.invariant-loop-d
invariant-loop-d l = (1 ≤ l.d) × (some (l.d - 1) (test l.order l.taps) ≡ false)
