-- `player::clock::play` meets its contract. Assumes nothing.
use Rattle.std.proofs.Common.{ℕ, List, length, ℤ, sym}
use Rattle.sums.specs.Lists.{table}
use Rattle.sums.proofs.First.{answered_refused}
use Rattle.refusals.specs.Causes.{number}
use Rattle.refusals.proofs.Causes.{never_0}
use Rattle.player.specs.Calls.{Played, after, sign_after, play_outcome}
use Rattle.player.specs.declared.Player.{Player}
use Rattle.player.proofs.clock.play.Goals as goal

-- what a refusal hands back, and what a block comes to
abbrev held : Player → List ℤ → ℕ → Played × List ℤ
held p signs n = (record { answer = n; player = p }, signs)

abbrev block : Player → List ℤ → Played × List ℤ
block p signs =
    (record { answer = 0; player = after p (length signs) }, table (length signs) (sign_after p))

pub returns-in-Err : goal.returns-in-Err
unfolding play_outcome
returns-in-Err c =
    let a = c.args in
    let d = c.in-Err.refusal in
    rw (← c.in-Err.ensures) (sym (answered_refused (held a.player a.signs.now) (block a.player a.signs.now) (number d) (never_0 d)))

pub returns-in-Ok : goal.returns-in-Ok
unfolding play_outcome
returns-in-Ok c =
    let f = c.fill_signs in
    rw (f.ensures.value, f.ensures.signs_after, ← c.in-Ok.ensures)
