-- The largest of finitely many numbers and the smallest: each stands at a place, and no other passes it; and how far apart any two are where these
-- two are not far apart. Assumes nothing.
use mathlib.Core.Path.{◌≡◌, refl, sym, ap, subst, ◌∙◌}
use mathlib.Core.Logic.{◌↔◌}
use mathlib.Core.Bool.{Bool, true, false}
use Prim.Native.Nat.{ℕ, zero, suc, ◌+◌, ◌≤◌, ◌<◌}
use native.Mathlib.Decide.{ℕ_discrete, dec_lt}
use native.Mathlib.Omega.{arith}
use borrow.Author.Tests.{le-leb, leb-true, leb-false}
use lib.Dec.{T}
use lib.IntN.{ℤ, pos, nat_abs, ◌-ℤ◌}
use lib.Signed.{le_z}
use Rattle.sums.specs.Lists.{seek, every}
use Rattle.sums.specs.Largest.{largest_at, largest, smallest}
use Rattle.sums.proofs.Diff.{up, down, parts, diffs, ints}
use Rattle.sums.proofs.Equal.{le_z_refl, le_z_trans, le_z-turn, minus_le}
use Rattle.sums.proofs.Everywhere.{every-at, every_all}
use Rattle.sums.proofs.Seek.{First, seek-first}

-- ---- the first place of the largest

module _ (f : ℕ → ℤ) where
  -- a place of the n at which f is at least as large as at every other
  data Largest (n : ℕ) : Type 0 where
    place : (k : ℕ) → k < n → ((i : ℕ) → i < n → le_z (f i) (f k) ≡ true) → Largest n

  -- with one place more it is that place or the one before
  longer : (n : ℕ) → Largest n → Largest (suc n)
  longer n (place k l m) = go (le_z (f n) (f k)) refl
    where
      go : (b : Bool) → le_z (f n) (f k) ≡ b → Largest (suc n)
      go true e = place k (omega arith) (λ i j. elim (ℕ_discrete i n) [ yes q ↦ ap (λ x. le_z (f x) (f k)) q ∙ e | no q ↦ m i (omega arith) ])
      go false e = place n (omega arith) (λ i j. elim (ℕ_discrete i n) [
        | yes q ↦ ap (λ x. le_z (f x) (f n)) q ∙ le_z_refl (f n)
        | no q ↦ le_z_trans (f i) (f k) (f n) (m i (omega arith)) (le_z-turn (f n) (f k) e)
      ])

  there_is : (n : ℕ) → Largest (suc n)
  there_is zero = place 0 (omega arith) (λ i l. let e : i ≡ 0 = omega arith in ap (λ x. le_z (f x) (f 0)) e ∙ le_z_refl (f 0))
  there_is (suc n) = longer (suc n) (there_is n)

  sought : (n : ℕ) → First (λ k. every n (λ i. le_z (f i) (f k))) n 0 (largest_at n f)
  sought n = seek-first (λ k. every n (λ i. le_z (f i) (f k))) n 0

  -- no place before the one sought is such
  none_before : (n k : ℕ) → k < largest_at n f → ((i : ℕ) → i < n → le_z (f i) (f k) ≡ true) → ⊥
  none_before n k l m = subst T (sym (every_all n (λ i. le_z (f i) (f k)) m) ∙ (sought n).before k (omega arith) l) tt

  found : (n : ℕ) → Largest n → largest_at n f < n
  found n (place k l m) = elim (dec_lt (largest_at n f) n) [ yes h ↦ h | no h ↦ absurd (none_before n k (omega arith) m) ]

  pub largest-within : (n : ℕ) → 0 < n → largest_at n f < n
  largest-within zero p = absurd (omega arith)
  largest-within (suc n) p = found (suc n) (there_is n)

  pub largest_is : (n : ℕ) → 0 < n → (i : ℕ) → i < n → le_z (f i) (largest n f) ≡ true
  largest_is n p = every-at n (λ i. le_z (f i) (f (largest_at n f))) ((sought n).here (omega (arith, largest-within n p)))

  pub largest-first : (n : ℕ) → 0 < n → (k : ℕ) → k < largest_at n f → le_z (largest n f) (f k) ≡ true → ⊥
  largest-first n p k l e = none_before n k l (λ i h. le_z_trans (f i) (f (largest_at n f)) (f k) (largest_is n p i h) e)

-- ---- the smallest

pub smallest_is : (f : ℕ → ℤ) (n : ℕ) → 0 < n → (i : ℕ) → i < n → le_z (smallest n f) (f i) ≡ true
smallest_is f n p i l = sym (minus_le (f i) (smallest n f)) ∙ largest_is (λ k. pos 0 -ℤ f k) n p i l

-- ---- how far apart

-- no two of the n numbers are more than d apart
abbrev pub Near : ℕ → ℕ → (ℕ → ℤ) → Type 0
Near d n f = (i j : ℕ) → i < n → j < n → nat_abs (f i -ℤ f j) ≤ d

-- two of them are more than d apart
pub record Apart (d n : ℕ) (f : ℕ → ℤ) : Type 0 where
  pub one : ℕ
  pub other : ℕ
  pub one-within : one < n
  pub other_within : other < n
  pub far : d < nat_abs (f one -ℤ f other)

-- two numbers between two others are no further apart than these
between : (d : ℕ) (low high a b : ℤ) → le_z (high -ℤ low) (pos d) ≡ true
    → le_z low a ≡ true → le_z a high ≡ true → le_z low b ≡ true → le_z b high ≡ true → nat_abs (a -ℤ b) ≤ d
between d low high a b h la ah lb bh =
    let k = simp diffs at (rw (parts high, parts low) at h) in
    rw (parts a, parts b) (simp diffs (omega (ints, leb-true, k)))

apart : (d : ℕ) (a b : ℤ) → nat_abs (a -ℤ b) ≤ d → le_z (a -ℤ b) (pos d) ≡ true
apart d a b h =
    let k = simp diffs at (rw (parts a, parts b) at h) in
    rw (parts a, parts b) (simp diffs (le-leb (up a + down b + 0) (d + (down a + up b)) (omega (arith, k))))

largest_near : (d n : ℕ) (f : ℕ → ℤ) → Near d n f → nat_abs (largest n f -ℤ smallest n f) ≤ d
unfolding seek
largest_near d zero f near = rw (parts (f 0)) (simp diffs (omega arith))
largest_near d (suc n) f near = near _ _ (largest-within f (suc n) (omega arith)) (largest-within (λ k. pos 0 -ℤ f k) (suc n) (omega arith))

further : (d : ℕ) (a b : ℤ) → le_z (a -ℤ b) (pos d) ≡ false → d < nat_abs (a -ℤ b)
further d a b h =
    let k = simp diffs at (rw (parts a, parts b) at h) in
    rw (parts a, parts b) (simp diffs (omega (arith, leb-false, k)))

pub spread_exactly : (d n : ℕ) (f : ℕ → ℤ) → (le_z (largest n f -ℤ smallest n f) (pos d) ≡ true) ↔ Near d n f
spread_exactly d n f = (
  λ h i j k l.
      let p : 0 < n = omega arith in
      between d (smallest n f) (largest n f) (f i) (f j) h (smallest_is f n p i k) (largest_is f n p i k) (smallest_is f n p j l) (largest_is f n p j l),
  λ near. apart d (largest n f) (smallest n f) (largest_near d n f near),
)

-- and otherwise these two are two such
pub spread_far : (d n : ℕ) (f : ℕ → ℤ) → le_z (largest n f -ℤ smallest n f) (pos d) ≡ false → Apart d n f
spread_far d n f h = elim (dec_lt 0 n) [
  | yes p ↦ record {
    one = largest_at n f;
    other = largest_at n (λ k. pos 0 -ℤ f k);
    one-within = largest-within f n p;
    other_within = largest-within (λ k. pos 0 -ℤ f k) n p;
    far = further d (largest n f) (smallest n f) h;
  }
  | no p ↦ absurd (subst T (sym ((spread_exactly d n f).1 (λ i j k l. absurd (omega arith))) ∙ h) tt)
]
