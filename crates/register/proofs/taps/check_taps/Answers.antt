-- `register::taps::check_taps` meets its contract: the number is told with the period. Assumes nothing.
use mathlib.Core.Path.{sym, ◌∙◌}
use Rattle.refusals.proofs.Causes.{exits}
use Rattle.register.proofs.Answered.{shape_refuses, maximal_accepted, short_refused}
use Rattle.register.proofs.Judged.{shaped}
use Rattle.register.proofs.taps.check_taps.Goals as goal

pub returns-in_err-check_shape : goal.returns-in_err-check_shape
returns-in_err-check_shape c =
    let d = c.in_err-check_shape.field-0.0 in rw (exits c.from_residual.result d c.from_residual.ensures.1) (shape_refuses c.args.order c.args.taps d c.in_err-check_shape.ensures)

pub returns-then-is_maximal : goal.returns-then-is_maximal
returns-then-is_maximal c =
    maximal_accepted c.args.order c.args.taps (sym c.in_ok-check_shape.ensures) c.full_period.result c.full_period.ensures (sym c.if-is_maximal.true ∙ c.is_maximal.ensures)

pub returns : goal.returns
returns c =
    short_refused c.args.order c.args.taps (sym c.in_ok-check_shape.ensures) c.first_return.result c.first_return.ensures (sym c.if-is_maximal.false ∙ c.is_maximal.ensures)

pub is_maximal-requires : goal.is_maximal-requires
is_maximal-requires c = shaped c.args.order c.args.taps (sym c.in_ok-check_shape.ensures)
