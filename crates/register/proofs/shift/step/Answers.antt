-- `register::shift::step` meets its contract: the parity is `dot`, and the new bit above a window of at most 16 bits fits.
-- Assumes nothing.
use mathlib.Core.Path.{ap}
use Prim.Native.Nat.{ℕ, ◌+◌, ◌*◌, ◌/◌, ◌^◌, ◌≤◌}
use native.Mathlib.Nat.{mod-eq_of_lt}
use native.Mathlib.Omega.{arith}
use Rattle.register.specs.Register.{dot, step as step_of}
use Rattle.register.proofs.Dot.{dot-lt}
use Rattle.register.proofs.Windows.{bit-mul}
use Rattle.register.proofs.Word.{small}
use Rattle.register.proofs.shift.step.Goals as goal

-- the new bit, shifted up
fresh-le : (order taps window : ℕ) → order ≤ 16 → dot taps window * 2 ^ order ≤ 65536
fresh-le order taps window h = omega (arith, bit-mul (dot taps window) (2 ^ order) (dot-lt taps window), small h)

pub returns : goal.returns
unfolding step_of dot
returns c =
    ap (λ (x : ℕ). (c.args.window + x) / 2)
    (mod-eq_of_lt (omega (arith, fresh-le c.args.order c.args.taps c.args.window c.requires.order_bound)))
