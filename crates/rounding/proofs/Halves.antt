-- Document 02, request 9: a rounded quotient. What does not depend on halves, once over both editions: it is within a half, so that no whole number is
-- nearer, and it keeps the sign and a bound. Then which neighbour a half goes to, in each. Assumes nothing.
use mathlib.Core.Path.{◌≡◌, refl, sym, ap, ap₂, ◌∙◌}
use mathlib.Core.Bool.{Bool, true, false, cond, ◌&&◌}
use Prim.Native.Nat.{ℕ, zero, suc, ◌+◌, ◌-◌, ◌*◌, ◌/◌, ◌%◌, ◌≤◌, ◌<◌}
use native.Mathlib.Nat.{add-mul, mul_left_comm, mod-lt, div-add-mod', lt_of_mul-lt-mul_right, mul-le-mul_right}
use native.Mathlib.Decide.{dec_lt, ℕ_discrete}
use native.Mathlib.Omega.{arith}
use borrow.Author.Tests.{eqb-true, eq-eqb, ne_eqb}
use lib.Dec.{eqb}
use lib.IntN.{ℤ, pos, negsuc, neg_ℤ, nat_abs, ℤ_discrete, neg_ℤ-+ℤ, neg_ℤ-neg_ℤ, +ℤ_idl, -ℤ-+ℤ_cancel, ◌+ℤ◌, ◌-ℤ◌, ◌*ℤ◌}
use Rattle.sums.proofs.Bound.{nat_abs-neg, nat_abs-*}
use Rattle.sums.proofs.Diff.{parts, pos_diff, diffs, nat_abs_diff}
use Rattle.sums.proofs.Everywhere.{and-true}
use Rattle.sums.proofs.Ring.{neg-*ℤ, +ℤ-*ℤ}
use Rattle.rounding.specs.Rounding.{away_from_zero, to_even, nearest, halfway, even_of, settled, nearest_in, rounded}
use Rattle.rounding.proofs.Nearest.{near_down, near_up, near_nearest}

-- ---- of two natural numbers

module _ (a d : ℕ) (p : 0 < d) where
  -- a half went up to exactly a half more
  at-half : 2 * (a % d) ≡ d → nearest a d * (2 * d) ≡ 2 * a + d
  at-half h =
      rw (sym (near_up a d p (omega arith)))
      (omega (arith, div-add-mod' a d, add-mul (a / d) 1 (2 * d), mul_left_comm (a / d) 2 d))

  -- and nothing else does
  only_half : nearest a d * (2 * d) ≡ 2 * a + d → 2 * (a % d) ≡ d
  only_half h = elim (dec_lt (a % d) (d - a % d)) [
    | yes l ↦ absurd (omega (arith, rw (sym (near_down a d p l)) at h, div-add-mod' a d, mul_left_comm (a / d) 2 d, mod-lt a p))
    | no l ↦
        omega (arith, rw (sym (near_up a d p (omega arith))) at h, div-add-mod' a d, add-mul (a / d) 1 (2 * d), mul_left_comm (a / d) 2 d, mod-lt a p)
  ]

  -- so a product tells a half
  pub half-told : eqb (nearest a d * (2 * d)) (2 * a + d) ≡ halfway a d
  half-told = elim (ℕ_discrete (2 * (a % d)) d) [
    | yes h ↦ eq-eqb (nearest a d * (2 * d)) (2 * a + d) (at-half h) ∙ sym (eq-eqb (2 * (a % d)) d h)
    | no h ↦ ne_eqb (nearest a d * (2 * d)) (2 * a + d) (λ e. h (only_half e)) ∙ sym (ne_eqb (2 * (a % d)) d h)
  ]

  -- where there is none the editions agree
  pub no_half : (e : ℕ) → halfway a d ≡ false → nearest_in e a d ≡ nearest a d
  unfolding nearest_in
  no_half e h = go (eqb e to_even)
    where
      go : (b : Bool) → cond (b && halfway a d) (even_of (nearest a d)) (nearest a d) ≡ nearest a d
      go true = ap (λ x. cond x (even_of (nearest a d)) (nearest a d)) h
      go false = refl

  -- by the remainder, below the half and from it on
  pub settled_down : (e : ℕ) → a % d < d - a % d → a / d ≡ nearest_in e a d
  settled_down e h = near_down a d p h ∙ sym (no_half e (ne_eqb (2 * (a % d)) d (λ x. omega arith)))

  pub settled_up : (e : ℕ) → d - a % d ≤ a % d → settled e (eqb (a % d) (d - a % d)) (a / d + 1) ≡ nearest_in e a d
  unfolding nearest_in
  settled_up e h = ap₂ (settled e) told (near_up a d p h)
    where
      told : eqb (a % d) (d - a % d) ≡ halfway a d
      told = elim (ℕ_discrete (2 * (a % d)) d) [
        | yes x ↦ eq-eqb (a % d) (d - a % d) (omega arith) ∙ sym (eq-eqb (2 * (a % d)) d x)
        | no x ↦ ne_eqb (a % d) (d - a % d) (λ y. x (omega (arith, mod-lt a p))) ∙ sym (ne_eqb (2 * (a % d)) d x)
      ]

  -- no further from a / d than a half, in either edition, and at most one below what a half went up to
  record Within (n : ℕ) : Type 0 where
    pub low : n * (2 * d) ≤ 2 * a + d
    pub high : 2 * a ≤ n * (2 * d) + d
    pub close : nearest a d ≤ n + 1

  within : (e : ℕ) → Within (nearest_in e a d)
  unfolding nearest_in
  within e = go (eqb e to_even && halfway a d) refl
    where
      half : (b : Bool) → b && halfway a d ≡ true → nearest a d * (2 * d) ≡ 2 * a + d
      half b t = at-half (eqb-true (2 * (a % d)) d (and-true b (halfway a d) t).1)

      -- one below the upper neighbour of a half is the lower
      lower : nearest a d * (2 * d) ≡ 2 * a + d → (n : ℕ) → n + 1 ≡ nearest a d → Within n
      lower h n s =
          let w = add-mul n 1 (2 * d) in
          let v = ap (λ k. k * (2 * d)) s in
          record { low = omega (arith, w, v, h); high = omega (arith, w, v, h); close = omega arith }

      same : (n : ℕ) → n ≡ nearest a d → Within n
      same n s =
          let w = near_nearest a d p in
          rw s (record { low = w.0; high = omega (arith, w.1, add-mul (nearest a d) 1 (2 * d)); close = omega arith })

      go : (b : Bool) → eqb e to_even && halfway a d ≡ b → Within (cond b (even_of (nearest a d)) (nearest a d))
      go false t = same (nearest a d) refl
      go true t = elim (ℕ_discrete (nearest a d % 2) 0) [
        | yes z ↦ same (even_of (nearest a d)) (omega arith)
        | no z ↦ lower (half (eqb e to_even) t) (even_of (nearest a d)) (omega (arith, mod-lt (nearest a d) {m = 2} (omega arith)))
      ]

  -- rounding keeps a bound
  bounded : (e B : ℕ) → a ≤ B * d → nearest_in e a d ≤ B
  bounded e B h =
      let below : nearest_in e a d * (2 * d) < suc B * (2 * d) = omega (arith, (within e).low) in
      omega (arith, lt_of_mul-lt-mul_right (2 * d) below)

  -- on an exact half, of the neighbours a / d and a / d + 1: edition 1 has the upper, edition 2 the even one
  half_up : halfway a d ≡ true → nearest_in away_from_zero a d ≡ a / d + 1
  half_up h = sym (settled_up away_from_zero (omega (arith, eqb-true (2 * (a % d)) d h)))

  half_even : halfway a d ≡ true → nearest_in to_even a d ≡ a / d + a / d % 2
  half_even h =
      let e = eqb-true (2 * (a % d)) d h in
      sym (settled_up to_even (omega arith))
      ∙ ap (λ b. settled to_even b (a / d + 1)) (eq-eqb (a % d) (d - a % d) (omega arith))
      ∙ evened (a / d)
    where
      evened : (q : ℕ) → even_of (q + 1) ≡ q + q % 2
      evened q = omega arith

-- ---- of an integer and a natural number, in any edition

some : (z : ℤ) → (z ≡ pos 0 → ⊥) → 1 ≤ nat_abs z
some (pos zero) n = absurd (n refl)
some (pos (suc a)) n = omega arith
some (negsuc a) n = omega arith

-- the way from one place to another is no longer than by a third
between : (a b c : ℤ) → nat_abs (c -ℤ b) ≤ nat_abs (a -ℤ b) + nat_abs (a -ℤ c)
between a b c = rw (parts a, parts b, parts c) (simp (diffs, nat_abs_diff) (omega arith))

pub close : (e : ℕ) (z : ℤ) (d : ℕ) → 0 < d → nearest (nat_abs z) d ≤ nearest_in e (nat_abs z) d + 1
close e z d p = (within (nat_abs z) d p e).close

pub near_high : (e : ℕ) (z : ℤ) (d : ℕ) → 0 < d → 2 * nat_abs z ≤ nearest_in e (nat_abs z) d * (2 * d) + d
near_high e z d p = (within (nat_abs z) d p e).high

-- it is within a half
within_of : (a d : ℕ) (p : 0 < d) (n : ℕ) → Within a d p n → 2 * nat_abs (pos a -ℤ pos n *ℤ pos d) ≤ d
within_of a d p n w = rw (pos_diff a, pos_diff (n * d)) (simp (diffs, nat_abs_diff) (omega (arith, w.low, w.high, mul_left_comm n 2 d)))

pub within-half : (e : ℕ) (z : ℤ) (d : ℕ) → 0 < d → 2 * nat_abs (z -ℤ rounded e z d *ℤ pos d) ≤ d
within-half e (pos a) d p = within_of a d p (nearest_in e a d) (within a d p e)
within-half e (negsuc a) d p = rw turned (within_of (suc a) d p (nearest_in e (suc a) d) (within (suc a) d p e))
  where
    turned : nat_abs (negsuc a -ℤ neg_ℤ (pos (nearest_in e (suc a) d)) *ℤ pos d) ≡ nat_abs (pos (suc a) -ℤ pos (nearest_in e (suc a) d) *ℤ pos d)
    turned =
        ap nat_abs (ap (λ z. negsuc a -ℤ z) (neg-*ℤ (pos (nearest_in e (suc a) d)) (pos d)) ∙ sym (neg_ℤ-+ℤ (pos (suc a)) (neg_ℤ (pos (nearest_in e (suc a) d) *ℤ pos d))))
        ∙ nat_abs-neg (pos (suc a) -ℤ pos (nearest_in e (suc a) d) *ℤ pos d)

-- so no whole number is nearer
pub nearest_of_all : (e : ℕ) (z : ℤ) (d : ℕ) → 0 < d → (w : ℤ) → nat_abs (z -ℤ rounded e z d *ℤ pos d) ≤ nat_abs (z -ℤ w *ℤ pos d)
nearest_of_all e z d p w = go (rounded e z d) (within-half e z d p)
  where
    -- two whole numbers lie d apart at least
    apart : (t : ℤ) → (w ≡ t → ⊥) → d ≤ nat_abs (w *ℤ pos d -ℤ t *ℤ pos d)
    apart t n =
        let s = ap nat_abs (sym (+ℤ-*ℤ w (neg_ℤ t) (pos d) ∙ ap (λ x. w *ℤ pos d +ℤ x) (neg-*ℤ t (pos d)))) ∙ nat_abs-* (w -ℤ t) (pos d) in
        rw s (omega (arith, mul-le-mul_right d (some (w -ℤ t) (λ z. n (sym (-ℤ-+ℤ_cancel w t) ∙ ap (λ x. x +ℤ t) z ∙ +ℤ_idl t)))))

    go : (t : ℤ) → 2 * nat_abs (z -ℤ t *ℤ pos d) ≤ d → nat_abs (z -ℤ t *ℤ pos d) ≤ nat_abs (z -ℤ w *ℤ pos d)
    go t h = elim (ℤ_discrete w t) [
      | yes s ↦ rw s (omega arith)
      | no s ↦ omega (arith, apart t s, between z (t *ℤ pos d) (w *ℤ pos d))
    ]

-- the sign: the rounded opposite is the opposite of the rounded, and nothing crosses zero
pub opposite : (e : ℕ) (z : ℤ) (d : ℕ) → 0 < d → rounded e (neg_ℤ z) d ≡ neg_ℤ (rounded e z d)
opposite e (pos zero) d p = let n : nearest_in e 0 d ≡ 0 = omega (arith, bounded 0 d p e 0 (omega arith)) in rw n refl
opposite e (pos (suc a)) d p = refl
opposite e (negsuc a) d p = sym (neg_ℤ-neg_ℤ (pos (nearest_in e (suc a) d)))

pub rounded_bound : (e : ℕ) (z : ℤ) (d B : ℕ) → 0 < d → nat_abs z ≤ B * d → nat_abs (rounded e z d) ≤ B
rounded_bound e (pos a) d B p h = bounded a d p e B h
rounded_bound e (negsuc a) d B p h = rw nat_abs-neg (bounded (suc a) d p e B h)

-- ---- on an exact half, and elsewhere

pub half_away : (z : ℤ) (d : ℕ) → 0 < d → halfway (nat_abs z) d ≡ true → nat_abs (rounded away_from_zero z d) ≡ nat_abs z / d + 1
half_away (pos a) d p h = half_up a d p h
half_away (negsuc a) d p h = nat_abs-neg (pos (nearest_in away_from_zero (suc a) d)) ∙ half_up (suc a) d p h

pub half_to_even : (z : ℤ) (d : ℕ) → 0 < d → halfway (nat_abs z) d ≡ true → nat_abs (rounded to_even z d) ≡ nat_abs z / d + nat_abs z / d % 2
half_to_even (pos a) d p h = half_even a d p h
half_to_even (negsuc a) d p h = nat_abs-neg (pos (nearest_in to_even (suc a) d)) ∙ half_even (suc a) d p h

pub alike : (e f : ℕ) (z : ℤ) (d : ℕ) → 0 < d → halfway (nat_abs z) d ≡ false → rounded e z d ≡ rounded f z d
alike e f (pos a) d p h = ap pos (no_half a d p e h ∙ sym (no_half a d p f h))
alike e f (negsuc a) d p h = ap (λ n. neg_ℤ (pos n)) (no_half (suc a) d p e h ∙ sym (no_half (suc a) d p f h))
