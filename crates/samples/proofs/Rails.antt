-- The rails: what lies between them, and how large it and a sum of it is. Assumes nothing.
use mathlib.Core.Path.{◌≡◌, refl, sym, ap, ap₂, subst, ◌∙◌}
use mathlib.Core.Logic.{◌↔◌, ◌⊎◌, inl, inr}
use mathlib.Core.Bool.{true, false, ◌||◌}
use Prim.Native.Nat.{ℕ, suc, ◌+◌, ◌*◌, ◌≤◌}
use native.Mathlib.Omega.{arith}
use borrow.Author.Tests.{le-leb, le-ltb, leb-true, lt-ltb, ltb-false}
use lib.Dec.{T, ltb, leb}
use lib.IntN.{ℤ, pos, negsuc, neg_ℤ, nat_abs, ◌+ℤ◌}
use lib.Signed.{lt_z, le_z}
use Rattle.sums.specs.Equal.{eq_z}
use Rattle.sums.proofs.Diff.{diff, up, down, parts, pos_diff, diff_add, diff_neg, nat_abs_diff, le_z_diff, lt-true}
use Rattle.sums.proofs.Equal.{eq_z-same, eq_z_is}
use Rattle.sums.proofs.Everywhere.{and-true, both_true, never_true}
use Rattle.sums.proofs.First.{or-false, or_exactly}
use Rattle.samples.specs.Samples.{lowest, highest, sample_out, rail, inside, least_of, most_of, within}

-- the rails are not inside them, their neighbours are
pub rails_outside : (inside (pos 8388607) ≡ false) × (inside (pos 8388606) ≡ true) × (inside (negsuc 8388607) ≡ false) × (inside (negsuc 8388606) ≡ true)
rails_outside = (refl, refl, refl, refl)

-- a sample is at a rail where it is one of the two
pub rail_exactly : (z : ℤ) → (rail z ≡ true) ↔ ((z ≡ lowest) ⊎ (z ≡ highest))
rail_exactly z = or_exactly (eq_z z lowest) (eq_z z highest) (eq_z_is z lowest, eq_z-same) (eq_z_is z highest, eq_z-same)

-- a sample in the range that is at no rail lies between them
pub between : (z : ℤ) → sample_out z ≡ false → rail z ≡ false → inside z ≡ true
between z a b = go z (or-false (lt_z z lowest) (lt_z highest z) a) (or-false (eq_z z lowest) (eq_z z highest) b)
  where
    off : (x y : ℤ) → eq_z x y ≡ false → x ≡ y → ⊥
    off x y h e = subst T (sym (eq_z-same e) ∙ h) tt

    go : (z : ℤ) → (lt_z z lowest ≡ false) × (lt_z highest z ≡ false) → (eq_z z lowest ≡ false) × (eq_z z highest ≡ false) → inside z ≡ true
    go (pos n) a b =
        let h = ltb-false 8388607 n a.1 in
        let m : n ≡ 8388607 → ⊥ = λ e. off (pos n) highest b.1 (ap pos e) in
        both_true {b = ltb n 8388607} refl (lt-ltb n 8388607 (omega arith))
    go (negsuc n) a b =
        let h = ltb-false 8388607 n a.0 in
        let m : n ≡ 8388607 → ⊥ = λ e. off (negsuc n) lowest b.0 (ap negsuc e) in
        both_true {a = ltb n 8388607} (lt-ltb n 8388607 (omega arith)) refl

-- what lies beyond neither neighbour of the rails is at no rail
pub off_rails : (z : ℤ) → lt_z z (least_of 1) || lt_z (most_of 1) z ≡ false → rail z ≡ false
off_rails z h = never_true (rail z) (λ e. at_one ((rail_exactly z).0 e))
  where
    clash : lt_z z (least_of 1) || lt_z (most_of 1) z ≡ true → ⊥
    clash e = subst T (sym e ∙ h) tt

    at_one : (z ≡ lowest) ⊎ (z ≡ highest) → ⊥
    at_one (inl e) = clash (ap (λ x. lt_z x (least_of 1) || lt_z (most_of 1) x) e)
    at_one (inr e) = clash (ap (λ x. lt_z x (least_of 1) || lt_z (most_of 1) x) e)

-- and in the range
pub off_out : (z : ℤ) → lt_z z (least_of 1) || lt_z (most_of 1) z ≡ false → sample_out z ≡ false
off_out z h = go z (or-false (lt_z z (least_of 1)) (lt_z (most_of 1) z) h)
  where
    go : (z : ℤ) → (lt_z z (least_of 1) ≡ false) × (lt_z (most_of 1) z ≡ false) → sample_out z ≡ false
    go (pos n) h = le-ltb 8388607 n (omega (arith, ltb-false 8388606 n h.1))
    go (negsuc n) h = ap (λ b. b || false) (le-ltb 8388607 n (omega (arith, ltb-false 8388606 n h.0)))

-- ---- sums of samples

module _ (k u d : ℕ) where
  at_least : le_z (neg_ℤ (pos k)) (diff u d) ≡ leb (0 + d) (u + k)
  at_least = ap (λ z. le_z z (diff u d)) (ap neg_ℤ (pos_diff k) ∙ diff_neg k 0) ∙ le_z_diff 0 k u d

  at_most : le_z (diff u d) (pos k) ≡ leb (u + 0) (k + d)
  at_most = ap (le_z (diff u d)) (pos_diff k) ∙ le_z_diff u d k 0

-- a sum of m samples between the rails, as an order of its parts
within_parts : (m u d : ℕ) → within m (diff u d) ≡ true → (d ≤ u + 8388607 * m) × (u ≤ 8388606 * m + d)
within_parts m u d h =
    let two = and-true (le_z (least_of m) (diff u d)) (le_z (diff u d) (most_of m)) h in (
      omega (arith, leb-true (0 + d) (u + 8388607 * m) (sym (at_least (8388607 * m) u d) ∙ two.0)),
      omega (arith, leb-true (u + 0) (8388606 * m + d) (sym (at_most (8388606 * m) u d) ∙ two.1)),
    )

parts_within : (m u d : ℕ) → d ≤ u + 8388607 * m → u ≤ 8388606 * m + d → within m (diff u d) ≡ true
parts_within m u d a b =
    both_true
    (at_least (8388607 * m) u d ∙ le-leb (0 + d) (u + 8388607 * m) (omega arith))
    (at_most (8388606 * m) u d ∙ le-leb (u + 0) (8388606 * m + d) (omega arith))

-- it is small
pub within_size : (m : ℕ) (z : ℤ) → within m z ≡ true → nat_abs z ≤ 8388607 * m
within_size m z h = omega (arith, ap nat_abs (parts z) ∙ nat_abs_diff (up z) (down z), within_parts m (up z) (down z) (subst (λ x. within m x ≡ true) (parts z) h))

-- of no samples it is 0, and one sample more adds what it may
pub within_none : within 0 (pos 0) ≡ true
within_none = refl

pub within_more : (m : ℕ) (a z : ℤ) → within m a ≡ true → inside z ≡ true → within (suc m) (a +ℤ z) ≡ true
unfolding up down
within_more m a z h k =
    let one = and-true (lt_z lowest z) (lt_z z highest) k in
    let w = within_parts m (up a) (down a) (subst (λ x. within m x ≡ true) (parts a) h) in
    subst (λ x. within (suc m) x ≡ true) (sym (ap₂ ◌+ℤ◌ (parts a) (parts z) ∙ diff_add (up a) (down a) (up z) (down z)))
    (parts_within (suc m) (up a + up z) (down a + down z)
    (omega (arith, w, lt-true lowest z one.0))
    (omega (arith, w, lt-true z highest one.1)))

-- the bounds of one period are the rails' neighbours, and those of 16 are 16 times as far
pub bounds : (within 1 (pos 8388606) ≡ true) × (within 1 (pos 8388607) ≡ false) × (within 1 (negsuc 8388606) ≡ true) × (within 1 (negsuc 8388607) ≡ false)
    × (within 16 (pos 134217696) ≡ true) × (within 16 (pos 134217697) ≡ false) × (within 16 (negsuc 134217711) ≡ true) × (within 16 (negsuc 134217712) ≡ false)
bounds = (refl, refl, refl, refl, refl, refl, refl, refl)
