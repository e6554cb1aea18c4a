-- `register::shift::tag_step` meets its contract. Assumes nothing.
use mathlib.Core.Path.{ap, ◌∙◌}
use Prim.Native.Nat.{ℕ, ◌*◌, ◌/◌, ◌^◌}
use lib.Bits.{bit_and, bit_xor, and_mask}
use Rattle.register.specs.Register.{tag-step}
use Rattle.register.proofs.shift.tag_step.Goals as goal

pub returns : goal.returns
unfolding tag-step
returns c =
    let a = c.args in
    ap (λ (x : ℕ). bit_xor x (a.tag * 2 / 2 ^ a.order * a.taps))
    (ap (bit_and (a.tag * 2)) c.full_period.ensures ∙ and_mask (a.tag * 2) a.order)
