-- `register::doubling::step_by` meets its contract: each return rewrites with the test that led there. Assumes nothing.
use mathlib.Core.Path.{◌≡◌, sym, ap, ◌∙◌}
use native.Mathlib.Omega.{arith}
use Rattle.register.specs.Doubling.{moved}
use Rattle.register.proofs.doubling.step_by.Goals as goal

pub returns-then-bit-eq0 : goal.returns-then-bit-eq0
unfolding moved
returns-then-bit-eq0 c = let a = c.args in sym (ap (λ b. moved a.order a.taps b a.tag) c.if-bit-eq0.true)

pub returns-else-bit-eq0 : goal.returns-else-bit-eq0
unfolding moved
returns-else-bit-eq0 c =
    let a = c.args in
    let e : a.bit ≡ 1 = omega arith in
    c.tag_step.ensures ∙ sym (ap (λ b. moved a.order a.taps b a.tag) e)
