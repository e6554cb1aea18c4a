-- `legendre::prediction::hear` meets its contract: after j turns the first j are written. Assumes nothing.
use mathlib.Core.Path.{◌≡◌, ap, ◌∙◌}
use Prim.Native.Nat.{◌<◌, ◌^◌}
use native.Mathlib.Omega.{arith}
use lib.IntN.{ℤ, nat_abs, pos, ◌-ℤ◌, ◌*ℤ◌}
use mir.Syntax.{w32}
use mir.Val.{SFits, of_z, to_z}
use mir.Facts.{to_z-of_z}
use Rattle.sums.specs.Lists.{at}
use Rattle.sums.proofs.Bound.{nat_abs-*, small_fits}
use Rattle.sums.proofs.Tables.{written_none, written_more, written_ahead}
use Rattle.legendre.proofs.prediction.hear.Goals as goal

-- the sum y that is read is x, as it was, and its double has room
module _ (x : ℤ) {y : ℤ} (e : y ≡ x) (low : nat_abs x < 2 ^ 30) where
  was : to_z w32 (of_z w32 y) ≡ x
  was = rw e (to_z-of_z {w = w32} (small_fits w32 x (omega arith)))

  fits : SFits w32 (pos 2 *ℤ to_z w32 (of_z w32 y))
  fits = rw was (small_fits w32 (pos 2 *ℤ x) (omega (arith, nat_abs-* (pos 2) x)))

  doubled : to_z w32 (of_z w32 (pos 2 *ℤ to_z w32 (of_z w32 y))) ≡ pos 2 *ℤ x
  doubled = to_z-of_z {w = w32} fits ∙ ap (λ z. pos 2 *ℤ z) was

pub loop-j-init : goal.loop-j-init
loop-j-init c = written_none

pub overflow_mul-sums : goal.overflow_mul-sums
overflow_mul-sums c =
    let j = c.loop-j.j in
    fits (at c.args.sums.now j) (written_ahead c.loop-j.invariant (pos 0)) (c.requires.by_index.0 j (omega arith))

pub overflow_sub-sums : goal.overflow_sub-sums
overflow_sub-sums c =
    let j = c.loop-j.j in
    rw (to_z-of_z c.ranges.whole, doubled (at c.args.sums.now j) (written_ahead c.loop-j.invariant (pos 0)) (c.requires.by_index.0 j (omega arith)))
    (small_fits w32 _ (c.requires.by_index.1 j (omega arith)))

pub loop-j-preserved : goal.loop-j-preserved
loop-j-preserved c =
    let j = c.loop-j.j in
    written_more c.loop-j.invariant (omega arith) (to_z-of_z (overflow_sub-sums c)
    ∙ ap (λ z. to_z w32 (of_z w32 c.args.whole) -ℤ z)
    (doubled (at c.args.sums.now j) (written_ahead c.loop-j.invariant (pos 0)) (c.requires.by_index.0 j (omega arith))))
