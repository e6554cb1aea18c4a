-- `player::clock::new_player` meets its contract. Assumes nothing.
use Rattle.std.proofs.Common.{sym, Ok, Err}
use Rattle.sums.proofs.First.{answered_refused}
use Rattle.refusals.specs.Causes.{number}
use Rattle.refusals.proofs.Causes.{never_0, exits}
use Rattle.player.specs.Calls.{fresh_player, new_outcome}
use Rattle.player.proofs.clock.new_player.Goals as goal

pub returns-in_err-check_shape : goal.returns-in_err-check_shape
unfolding new_outcome
returns-in_err-check_shape c =
    let a = c.args in
    let d = c.in_err-check_shape.field-0.0 in
    rw (exits c.from_residual.result d c.from_residual.ensures.1, ← c.in_err-check_shape.ensures)
    (sym (answered_refused Err (Ok (fresh_player a.order a.taps)) (number d) (never_0 d)))

pub returns : goal.returns
unfolding new_outcome
returns c = rw (← c.in_ok-check_shape.ensures, c.full_period.ensures)
