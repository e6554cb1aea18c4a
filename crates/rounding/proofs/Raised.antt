-- A quotient to the nearest, even at a half, by way of one that is raised by an even number and so never below zero. Assumes nothing.
use mathlib.Core.Path.{◌≡◌, refl, sym, ap, ◌∙◌}
use mathlib.Core.Bool.{Bool, true, false, cond}
use Prim.Native.Nat.{ℕ, suc, ◌+◌, ◌-◌, ◌*◌, ◌/◌, ◌^◌, ◌≤◌, ◌<◌}
use native.Mathlib.Nat.{add-mul, div-eq_of_lt-le, div-mul-le_self, mul-le-mul_right, le_of_mul-le-mul_right, lt_of_mul-lt-mul_right}
use native.Mathlib.Decide.{dec_lt, ℕ_discrete}
use native.Mathlib.Omega.{arith}
use borrow.Author.Tests.{ltb-false, eq-eqb, ne_eqb}
use lib.Dec.{eqb}
use lib.IntN.{ℤ, pos, negsuc, neg_ℤ, nat_abs, ◌+ℤ◌, ◌-ℤ◌, pos-+ℤ-pos, +ℤ-neg_ℤ_cancel}
use lib.Signed.{non_neg}
use Rattle.sums.proofs.Bound.{nat_abs-neg}
use Rattle.sums.proofs.Ring.{ring}
use Rattle.samples.proofs.Sizes.{sample_size}
use Rattle.samples.specs.Samples.{sample_out}
use Rattle.rounding.specs.Rounding.{to_even, nearest, halfway, even_of, settled, nearest_in, rounded}
use Rattle.rounding.specs.Halving.{raised_by}
use Rattle.rounding.proofs.Nearest.{near_nearest}
use Rattle.rounding.proofs.Halves.{half-told, no_half}

-- what is raised, and by how much
abbrev B : ℕ
B = 8388608

even_up : (n : ℕ) → even_of (n + B) ≡ even_of n + B
even_up n = omega arith

even_down : (n k : ℕ) → k + n ≡ B + 1 → even_of k + even_of n ≡ B
even_down n k e = omega arith

module _ (a d x : ℕ) (p : 0 < d) where
  -- of a number that is not below zero
  module _ (e : x ≡ 2 * a + d + B * (2 * d)) where
    pub raised_up : x / (2 * d) ≡ nearest a d + B
    raised_up =
        let w = near_nearest a d p in
        div-eq_of_lt-le (2 * d) (omega (arith, w.0, add-mul (nearest a d) B (2 * d))) (omega (arith, w.1, add-mul (nearest a d) B (2 * d), add-mul (nearest a d) 1 (2 * d), add-mul (nearest a d + B) 1 (2 * d)))

    pub settled_raised : settled to_even (eqb (x / (2 * d) * (2 * d)) x) (x / (2 * d)) ≡ nearest_in to_even a d + B
    unfolding nearest_in
    settled_raised = rw raised_up (ap (λ h. cond h (even_of (nearest a d + B)) (nearest a d + B)) told ∙ go (halfway a d))
      where
        told : eqb ((nearest a d + B) * (2 * d)) x ≡ halfway a d
        told = elim (ℕ_discrete (nearest a d * (2 * d)) (2 * a + d)) [
          | yes h ↦ eq-eqb ((nearest a d + B) * (2 * d)) x (omega (arith, add-mul (nearest a d) B (2 * d))) ∙ sym (eq-eqb (nearest a d * (2 * d)) (2 * a + d) h) ∙ half-told a d p
          | no h ↦ ne_eqb ((nearest a d + B) * (2 * d)) x (λ y. h (omega (arith, add-mul (nearest a d) B (2 * d)))) ∙ sym (ne_eqb (nearest a d * (2 * d)) (2 * a + d) h) ∙ half-told a d p
        ]

        go : (b : Bool) → cond b (even_of (nearest a d + B)) (nearest a d + B) ≡ cond b (even_of (nearest a d)) (nearest a d) + B
        go true = even_up (nearest a d)
        go false = refl

  -- of one that is below: what is raised less its size
  module _ (e : x + (2 * a + d) ≡ (B + 1) * (2 * d)) (small : nearest a d ≤ B + 1) where
    abbrev n : ℕ
    n = nearest a d

    -- at a half
    at : n * (2 * d) ≡ 2 * a + d → (k : ℕ) → k + n ≡ B + 1 → k * (2 * d) ≡ x
    at h k s = omega (arith, add-mul k n (2 * d), ap (λ i. i * (2 * d)) s)

    -- elsewhere
    off : (n * (2 * d) ≡ 2 * a + d → ⊥) → n < B + 1
    off h = elim (dec_lt (n * (2 * d)) (2 * a + d)) [
      | yes l ↦ lt_of_mul-lt-mul_right (2 * d) (let k : n * (2 * d) < (B + 1) * (2 * d) = omega arith in k)
      | no l ↦ absurd (h (omega (arith, (near_nearest a d p).0)))
    ]

    quotient_is : (k : ℕ) → k * (2 * d) ≤ x → x < (k + 1) * (2 * d) → x / (2 * d) ≡ k
    quotient_is k l h = div-eq_of_lt-le (2 * d) l h

    pub settled_lowered : settled to_even (eqb (x / (2 * d) * (2 * d)) x) (x / (2 * d)) + nearest_in to_even a d ≡ B
    unfolding nearest_in
    settled_lowered = elim (ℕ_discrete (n * (2 * d)) (2 * a + d)) [
      | yes h ↦
          let k = B + 1 - n in
          let s : k + n ≡ B + 1 = omega arith in
          let q = at h k s in
          let told = sym (half-told a d p) ∙ eq-eqb (n * (2 * d)) (2 * a + d) h in
          rw (quotient_is k (omega arith) (omega (arith, add-mul k 1 (2 * d)))) (simp (eq-eqb (k * (2 * d)) x q, told) (even_down n k s))
      | no h ↦
          let k = B - n in
          let s : k + n ≡ B = omega (arith, off h) in
          let m = add-mul k n (2 * d) in
          let v = ap (λ i. i * (2 * d)) s in
          let b = add-mul B 1 (2 * d) in
          let w = near_nearest a d p in
          let u = add-mul n 1 (2 * d) in
          let low : k * (2 * d) < x = omega (arith, w.1) in
          let high : x < (k + 1) * (2 * d) = omega (arith, w.0, add-mul k 1 (2 * d), h) in
          let told = sym (half-told a d p) ∙ ne_eqb (n * (2 * d)) (2 * a + d) h in
          rw (quotient_is k (omega arith) high) (simp (ne_eqb (k * (2 * d)) x (λ y. omega arith), told) s)
    ]

    -- it is at most one more than what is raised by
    pub lowered_small : x / (2 * d) ≤ B + 1
    lowered_small = let l : x / (2 * d) * (2 * d) ≤ (B + 1) * (2 * d) = omega (arith, div-mul-le_self x (2 * d)) in le_of_mul-le-mul_right {k = 2 * d} l (omega arith)

-- ---- of an integer

-- what came out odd at a half was at most the greatest sample, which is odd
small_up : (a d : ℕ) → nearest_in to_even a d ≤ 8388607 → nearest a d ≤ 8388607
unfolding nearest_in
small_up a d = go (halfway a d) (nearest a d)
  where
    go : (b : Bool) (n : ℕ) → cond b (even_of n) n ≤ 8388607 → n ≤ 8388607
    go true n h = omega arith
    go false n h = h

small_down : (a d : ℕ) → nearest_in to_even a d ≤ B → nearest a d ≤ B + 1
unfolding nearest_in
small_down a d = go (halfway a d) (nearest a d)
  where
    go : (b : Bool) (n : ℕ) → cond b (even_of n) n ≤ B → n ≤ B + 1
    go true n h = omega arith
    go false n h = omega arith

less_up : (k : ℕ) → pos (k + B) -ℤ pos B ≡ pos k
less_up k = ap (λ z. z -ℤ pos B) (sym (pos-+ℤ-pos k B)) ∙ +ℤ-neg_ℤ_cancel (pos k) (pos B)

less_down : (s k : ℕ) → s + k ≡ B → pos s -ℤ pos B ≡ neg_ℤ (pos k)
less_down s k e = ap (λ z. pos s -ℤ z) (ap pos (sym e) ∙ sym (pos-+ℤ-pos s k)) ∙ rest (pos s) (pos k)
  where
    rest : (a b : ℤ) → a -ℤ (a +ℤ b) ≡ neg_ℤ b
    rest a b = simp ring

moved : (x m k : ℕ) → pos x ≡ neg_ℤ (pos m) +ℤ pos k → x + m ≡ k
moved x m k e = ap nat_abs (sym (pos-+ℤ-pos x m) ∙ ap (λ z. z +ℤ pos m) e ∙ over (pos m) (pos k))
  where
    over : (b c : ℤ) → neg_ℤ b +ℤ c +ℤ b ≡ c
    over b c = simp ring

-- raised, a sample is not below zero
raised_enough : (a d : ℕ) → 0 < d → nearest_in to_even a d ≤ B → 2 * a + d ≤ (B + 1) * (2 * d)
raised_enough a d p h = elim (ℕ_discrete (nearest a d * (2 * d)) (2 * a + d)) [
  | yes s ↦ omega (arith, mul-le-mul_right (2 * d) (small_down a d h))
  | no s ↦
      let e = no_half a d p to_even (sym (half-told a d p) ∙ ne_eqb (nearest a d * (2 * d)) (2 * a + d) s) in
      let l : nearest a d + 1 ≤ B + 1 = omega (arith, e) in
      omega (arith, (near_nearest a d p).1, mul-le-mul_right (2 * d) l)
]

no_less : (m k : ℕ) → m ≤ k → non_neg (neg_ℤ (pos m) +ℤ pos k) ≡ true
no_less m k l = ap non_neg (ap (λ n. neg_ℤ (pos m) +ℤ pos n) (let e : k ≡ m + (k - m) = omega arith in e) ∙ ap (λ z. neg_ℤ (pos m) +ℤ z) (sym (pos-+ℤ-pos m (k - m))) ∙ rest (pos m) (pos (k - m)))
  where
    rest : (b c : ℤ) → neg_ℤ b +ℤ (b +ℤ c) ≡ c
    rest b c = simp ring

-- the size of a rounded number below zero
size_down : (a d : ℕ) → sample_out (rounded to_even (negsuc a) d) ≡ false → nearest_in to_even (suc a) d ≤ B
size_down a d h = omega (arith, sample_size (rounded to_even (negsuc a) d) h, nat_abs-neg (pos (nearest_in to_even (suc a) d)))

pub raised_nonneg : (z : ℤ) (d : ℕ) → 0 < d → sample_out (rounded to_even z d) ≡ false → non_neg (raised_by z d) ≡ true
raised_nonneg (pos a) d p h = refl
raised_nonneg (negsuc a) d p h = no_less (2 * suc a) (16777217 * d) (omega (arith, raised_enough (suc a) d p (size_down a d h)))

-- x is 2·z + d, raised
pub record Raises (z : ℤ) (d x : ℕ) : Type 0 where
  pub quotient : x / (2 * d) + 1 ≤ 2 ^ 24
  pub back : pos (settled to_even (eqb (x / (2 * d) * (2 * d)) x) (x / (2 * d))) -ℤ pos B ≡ rounded to_even z d

pub raises : (z : ℤ) (d x : ℕ) → 0 < d → pos x ≡ raised_by z d → sample_out (rounded to_even z d) ≡ false → Raises z d x
raises (pos a) d x p e h =
    let k = ltb-false 8388607 (nearest_in to_even a d) h in
    let s : x ≡ 2 * a + d + B * (2 * d) = omega (arith, ap nat_abs e) in
    record {
      quotient = omega (arith, raised_up a d x p s, small_up a d k);
      back = ap (λ n. pos n -ℤ pos B) (settled_raised a d x p s) ∙ less_up (nearest_in to_even a d);
    }
raises (negsuc a) d x p e h =
    let n = small_down (suc a) d (size_down a d h) in
    let s : x + (2 * suc a + d) ≡ (B + 1) * (2 * d) = omega (arith, moved x (2 * suc a) (16777217 * d) e) in
    let q = settled_lowered (suc a) d x p s n in
    record {
      quotient = omega (arith, lowered_small (suc a) d x p s n);
      back = less_down (settled to_even (eqb (x / (2 * d) * (2 * d)) x) (x / (2 * d))) (nearest_in to_even (suc a) d) q;
    }
