-- `player::clock::fill_signs` meets its contract: the signs that were passed are written, and the player is as many steps on.
-- Assumes nothing.
use Rattle.std.proofs.Common.{◌≡◌}
use Rattle.sums.proofs.Tables.{Written}
use Rattle.player.specs.Calls.{after, sign_after}
use Rattle.player.proofs.clock.fill_signs.Given as goal

abbrev pub invariant-loop-k : goal.invariant-loop-k
invariant-loop-k l = (l.next ≡ after l.initial.next l.k) × Written l.k (sign_after l.initial.next) l.initial.signs l.signs
