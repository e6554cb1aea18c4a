-- `response::given::check_given` meets its contract: the taps check decides 1 to 4, and the length the fifth. Assumes nothing.
use mathlib.Core.Path.{refl, sym, ap, ◌∙◌}
use Rattle.refusals.proofs.Causes.{never_0, exits}
use Rattle.register.specs.Calls.{answer_of}
use Rattle.register.proofs.Answered.{took, refused_by}
use Rattle.response.proofs.Checks.{given_refused, given_five, given-none}
use Rattle.response.proofs.given.check_given.Goals as goal

pub returns-in_err-period : goal.returns-in_err-period
returns-in_err-period c =
    let a = c.args in
    let d = c.in_err-period.field-0.0 in
    let n = refused_by a.order a.taps d c.in_err-period.ensures in
    rw (exits c.from_residual.result d c.from_residual.ensures.1)
    (c.in_err-period.ensures ∙ ap (answer_of a.order a.taps) (sym n ∙ given_refused a.order a.taps a.y.now n (never_0 d)))

pub returns-then-y-period : goal.returns-then-y-period
returns-then-y-period c =
    let a = c.args in
    let t = took a.order a.taps c.in_ok-period.ensures in
    ap (answer_of a.order a.taps) (given_five a.order a.taps a.y.now (sym t.passed) refl (λ q. c.if-y-period.true (q ∙ sym t.full)))

pub returns : goal.returns
returns c =
    let a = c.args in
    let t = took a.order a.taps c.in_ok-period.ensures in
    c.in_ok-period.ensures ∙ ap (answer_of a.order a.taps) (t.passed ∙ given-none a.order a.taps a.y.now (sym t.passed) refl (c.if-y-period.false ∙ t.full))
