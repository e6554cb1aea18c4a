-- `player::clock::step_player` meets its contract. Assumes nothing.
use Rattle.std.proofs.Common.{ℕ, ◌%◌, sym, w32, Ok, Err}
use Rattle.sums.specs.Sum.{sign}
use Rattle.sums.proofs.Bound.{read}
use Rattle.sums.proofs.First.{answered_refused}
use Rattle.refusals.specs.Causes.{number}
use Rattle.refusals.proofs.Causes.{never_0}
use Rattle.player.specs.Calls.{Stepped, advanced, step_outcome}
use Rattle.player.specs.declared.Player.{Player}
use Rattle.player.proofs.clock.step_player.Goals as goal

-- what a refusal hands back, and what a step does
abbrev held : Player → ℕ → Stepped
held p n = record { tick = Err n; player = p }

abbrev stepped : Player → Stepped
stepped p = record { tick = Ok (sign (p.window % 2)); player = advanced p }

pub returns-in-Err : goal.returns-in-Err
unfolding step_outcome
returns-in-Err c =
    let p = c.args.player in
    let d = c.in-Err.refusal in
    rw (c.refused.ensures, ← c.in-Err.ensures) (sym (answered_refused (held p) (stepped p) (number d) (never_0 d)))

pub returns-in-Ok : goal.returns-in-Ok
unfolding step_outcome
returns-in-Ok c = rw (read w32 _ c.next_sign.type_inv, c.next_sign.ensures, c.next_player.ensures, ← c.in-Ok.ensures)
