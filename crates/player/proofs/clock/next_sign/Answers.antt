-- `player::clock::next_sign` meets its contract. Assumes nothing.
use Rattle.std.proofs.Common.{◌≡◌, ℕ, ◌%◌, mod-lt, zero-lt-suc, arith}
use Rattle.sums.specs.Sum.{sign}
use Rattle.player.proofs.clock.next_sign.Goals as goal

pub returns-then-player-eq0 : goal.returns-then-player-eq0
unfolding sign
returns-then-player-eq0 c = rw c.if-player-eq0.true

pub returns-else-player-eq0 : goal.returns-else-player-eq0
unfolding sign
returns-else-player-eq0 c =
    let w = c.args.player.window in
    let e : w % 2 ≡ 1 = one w c.if-player-eq0.false in
    rw e
  where
    one : (w : ℕ) → (w % 2 ≡ 0 → ⊥) → w % 2 ≡ 1
    one w n = omega (arith, mod-lt w (zero-lt-suc 1))
