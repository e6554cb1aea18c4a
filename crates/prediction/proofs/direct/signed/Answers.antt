-- `prediction::direct::signed` meets its contract. Assumes nothing.
use mathlib.Core.Path.{◌≡◌, sym, ap, ◌∙◌}
use Prim.Native.Nat.{ℕ, ◌%◌, ◌^◌, ◌<◌}
use native.Mathlib.Nat.{mod-lt, zero-lt-suc}
use native.Mathlib.Omega.{arith}
use lib.IntN.{ℤ, pos, neg_ℤ, nat_abs, ◌-ℤ◌, +ℤ_idl}
use mir.Syntax.{w64}
use mir.Val.{SFits, to_z, of_z}
use mir.ValLaws.{to_z-of_z}
use Rattle.sums.specs.Sum.{sign}
use Rattle.sums.proofs.Bound.{small_fits, nat_abs-neg}
use Rattle.sums.proofs.Ring.{mul-one, *ℤ_neg}
use Rattle.prediction.proofs.direct.signed.Goals as goal
use Rattle.prediction.proofs.direct.signed.Goals.{Start}

back : (c : Start) → to_z w64 (of_z w64 c.args.x) ≡ c.args.x
back c = to_z-of_z w64 c.args.x c.ranges.x

-- `-x` is 0 - x to the machine
minus : (x : ℤ) → pos 0 -ℤ x ≡ neg_ℤ x
minus x = +ℤ_idl (neg_ℤ x)

minus-fits : (x : ℤ) → nat_abs x < 2 ^ 63 → SFits w64 (neg_ℤ x)
minus-fits x h = small_fits w64 (neg_ℤ x) (omega (arith, nat_abs-neg x))

pub returns-then-window-eq0 : goal.returns-then-window-eq0
unfolding sign
returns-then-window-eq0 c = back (goal.at.returns-then-window-eq0 c).Start ∙ rw c.if-window-eq0.true (sym (mul-one c.args.x))

pub overflow_sub-result : goal.overflow_sub-result
overflow_sub-result c =
    let x = c.args.x in
    rw (back (goal.at.overflow_sub-result c).Start, minus x) (minus-fits x (omega (arith, c.requires)))

pub returns-else-window-eq0 : goal.returns-else-window-eq0
unfolding sign
returns-else-window-eq0 c =
    let x = c.args.x in
    let one : c.args.window % 2 ≡ 1 = odd c.args.window c.if-window-eq0.false in
    to_z-of_z w64 (pos 0 -ℤ to_z w64 (of_z w64 x)) (overflow_sub-result c)
    ∙ ap (λ z. pos 0 -ℤ z) (back (goal.at.returns-else-window-eq0 c).Start) ∙ minus x
    ∙ rw one (sym (*ℤ_neg x (pos 1) ∙ ap neg_ℤ (mul-one x)))
  where
    odd : (w : ℕ) → (w % 2 ≡ 0 → ⊥) → w % 2 ≡ 1
    odd w n = omega (arith, mod-lt w (zero-lt-suc 1))
