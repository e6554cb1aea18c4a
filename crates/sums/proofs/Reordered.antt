-- The same numbers in another order: whether some number passes a test, the largest and the smallest stay. Assumes nothing.
use mathlib.Core.Path.{◌≡◌, refl, sym, ap, subst, ◌∙◌}
use mathlib.Core.Bool.{Bool, true, false}
use Prim.Native.Nat.{ℕ, ◌<◌}
use lib.IntN.{ℤ, pos, ◌-ℤ◌}
use lib.Signed.{le_z}
use Rattle.sums.specs.Lists.{some}
use Rattle.sums.specs.Largest.{largest_at, largest, smallest}
use Rattle.sums.proofs.Diff.{parts, diffs, ints}
use Rattle.sums.proofs.Equal.{eq_z_is}
use Rattle.sums.proofs.Everywhere.{both_true}
use Rattle.sums.proofs.Largest.{largest-within, largest_is}
use Rattle.sums.proofs.Perm.{Permutes, hits}
use Rattle.sums.proofs.Somewhere.{none_of, some-none}

-- place j of the second holds what `from j` of the first does
pub record Reordered (n : ℕ) (f g : ℕ → ℤ) : Type 0 where
  pub from : ℕ → ℕ
  pub permutes : Permutes n from
  pub each : (j : ℕ) → j < n → g j ≡ f (from j)

module _ {n : ℕ} {f g : ℕ → ℤ} (o : Reordered n f g) where
  -- each number of the second is one of the first
  pub taken_from : (j : ℕ) → j < n → (i : ℕ) × (i < n) × (g j ≡ f i)
  taken_from j l = (o.from j, o.permutes.within j l, o.each j l)

  -- and each of the first is one of the second
  pub is_taken : (i : ℕ) → i < n → (j : ℕ) × (j < n) × (g j ≡ f i)
  is_taken i l = let h = hits n o.from o.permutes i l in (h.0, h.1, o.each h.0 h.1 ∙ ap f h.2)

  pub some_reordered : (test : ℤ → Bool) → some n (λ j. test (g j)) ≡ some n (λ i. test (f i))
  some_reordered test = go (some n (λ i. test (f i))) refl (some n (λ j. test (g j))) refl
    where
      go : (a : Bool) → some n (λ i. test (f i)) ≡ a → (b : Bool) → some n (λ j. test (g j)) ≡ b → b ≡ a
      go true e true q = refl
      go false e b q =
          sym q ∙ some-none (λ j. test (g j)) n (λ j l. let h = taken_from j l in ap test h.2 ∙ none_of (λ i. test (f i)) n e h.0 h.1)
      go true e false q =
          sym (some-none (λ i. test (f i)) n (λ i l. let h = is_taken i l in ap test (sym h.2) ∙ none_of (λ j. test (g j)) n q h.0 h.1)) ∙ e

  -- each is one of the other's numbers, and so at most the other
  pub largest_reordered : 0 < n → largest n g ≡ largest n f
  largest_reordered a =
      let p = taken_from (largest_at n g) (largest-within g n a) in
      let q = is_taken (largest_at n f) (largest-within f n a) in
      eq_z_is (largest n g) (largest n f)
      (both_true (subst (λ z. le_z z (largest n f) ≡ true) (sym p.2) (largest_is f n a p.0 p.1))
      (subst (λ z. le_z z (largest n g) ≡ true) q.2 (largest_is g n a q.0 q.1)))

-- the numbers through a function
pub reordered_by : {n : ℕ} {f g : ℕ → ℤ} (h : ℤ → ℤ) → Reordered n f g → Reordered n (λ i. h (f i)) (λ j. h (g j))
reordered_by h o = record { from = o.from; permutes = o.permutes; each = λ j l. ap h (o.each j l) }

pub smallest_reordered : {n : ℕ} {f g : ℕ → ℤ} → Reordered n f g → 0 < n → smallest n g ≡ smallest n f
smallest_reordered {n} {f} {g} o a = same (smallest n g) (smallest n f) (largest_reordered (reordered_by (λ z. pos 0 -ℤ z) o) a)
  where
    twice : (z : ℤ) → pos 0 -ℤ (pos 0 -ℤ z) ≡ z
    twice z = rw (parts z) (simp diffs (omega ints))

    same : (u v : ℤ) → pos 0 -ℤ u ≡ pos 0 -ℤ v → u ≡ v
    same u v e = sym (twice u) ∙ ap (λ z. pos 0 -ℤ z) e ∙ twice v
