-- `legendre::recording::write_response` meets its contract: after k turns the first k are written. Assumes nothing.
use mathlib.Core.Path.{◌≡◌, ap, ◌∙◌}
use Prim.Native.Nat.{◌^◌, ◌≤◌, ◌<◌}
use native.Mathlib.Omega.{arith}
use lib.IntN.{ℤ, pos, neg_ℤ, nat_abs, ◌-ℤ◌, ◌*ℤ◌, +ℤ_idl}
use lib.Signed.{mag}
use mir.Syntax.{w32, w64}
use mir.Val.{of_z, to_z}
use mir.Facts.{to_z-of_z}
use Rattle.sums.specs.Lists.{at}
use Rattle.sums.proofs.Bound.{nat_abs-*, nat_abs-≤, nat_abs-sub, small_fits, wide}
use Rattle.sums.proofs.Tables.{written_none, written_more}
use Rattle.legendre.proofs.recording.write_response.Goals as goal

-- the sum x that is read, doubled, and what is written
module _ (x : ℤ) (h : mag x < 2 ^ 31) where
  twice-size : nat_abs (pos 2 *ℤ x) ≤ 2 ^ 32
  twice-size = omega (arith, nat_abs-* (pos 2) x, nat_abs-≤ x)

  doubled : to_z w64 (of_z w64 (pos 2 *ℤ to_z w64 (of_z w64 (to_z w32 (of_z w32 x))))) ≡ pos 2 *ℤ x
  doubled =
      to_z-of_z {w = w64} (rw (wide x h) (small_fits w64 (pos 2 *ℤ x) (omega (arith, twice-size))))
      ∙ ap (λ z. pos 2 *ℤ z) (wide x h)

  written : to_z w64 (of_z w64 (pos 0 -ℤ to_z w64 (of_z w64 (pos 2 *ℤ to_z w64 (of_z w64 (to_z w32 (of_z w32 x))))))) ≡ neg_ℤ (pos 2 *ℤ x)
  written =
      to_z-of_z {w = w64} (rw doubled (small_fits w64 (pos 0 -ℤ pos 2 *ℤ x) (omega (arith, nat_abs-sub (pos 0) (pos 2 *ℤ x), twice-size))))
      ∙ ap (λ z. pos 0 -ℤ z) doubled ∙ +ℤ_idl (neg_ℤ (pos 2 *ℤ x))

pub loop-k-init : goal.loop-k-init
loop-k-init c = written_none

pub loop-k-preserved : goal.loop-k-preserved
loop-k-preserved c =
    written_more c.loop-k.invariant (omega arith) (written (at c.args.sums.now c.loop-k.k) (omega arith))
