-- `player::clock::fill_signs` meets its contract: the signs that were passed are written, and the player is as many steps on.
-- Assumes nothing.
use Rattle.std.proofs.Common.{◌≡◌, ℕ, ◌%◌, length, sym, refl, ap, ◌∙◌, add-one, arith, to_z-of_z, w8, w32, SFits, to_z, of_z}
use Rattle.sums.specs.Sum.{sign}
use Rattle.sums.proofs.Bound.{small_fits, read}
use Rattle.sums.proofs.Sign.{nat_abs-sign}
use Rattle.sums.proofs.Tables.{written_none, written_more, written_all}
use Rattle.player.specs.Calls.{advanced, after}
use Rattle.player.proofs.Playable.{playable, passes_step, after_playable}
use Rattle.player.proofs.clock.fill_signs.Goals as goal
use Rattle.player.proofs.clock.fill_signs.Goals.{After-next_sign}

-- the sign as it is handed over, and in a byte
sign-is : (c : After-next_sign) → to_z w32 (of_z w32 c.next_sign.result) ≡ sign (c.loop-k.next.window % 2)
sign-is c = read w32 _ c.next_sign.type_inv ∙ c.next_sign.ensures

small : (n : ℕ) → SFits w8 (sign n)
small n = small_fits w8 (sign n) (omega (arith, nat_abs-sign n))

pub loop-k-init : goal.loop-k-init
unfolding after
loop-k-init c = (refl, written_none)

pub overflow_cast-signs : goal.overflow_cast-signs
overflow_cast-signs c = rw (sign-is c) (small (c.loop-k.next.window % 2))

pub next_player-next-requires : goal.next_player-next-requires
next_player-next-requires c =
    let a = c.args.player in
    let l = c.loop-k in
    rw l.invariant.0 (passes_step (after a l.k) (after_playable a (playable a c.requires) l.k))

pub loop-k-preserved : goal.loop-k-preserved
unfolding after
loop-k-preserved c =
    let l = c.loop-k in (
      c.next_player-next.ensures ∙ ap advanced l.invariant.0 ∙ ap (after c.args.player) (sym (add-one l.k)),
      written_more l.invariant.1 (omega arith) (rw (sign-is (goal.at.loop-k-preserved c).After-next_sign, to_z-of_z (small (l.next.window % 2)), l.invariant.0)),
    )

pub returns : goal.returns
returns c =
    let l = c.loop-k in
    let e : l.k ≡ length c.args.signs.now = omega arith in
    record { value = l.invariant.0 ∙ ap (after c.args.player) e; signs_after = written_all l.invariant.1 e }
