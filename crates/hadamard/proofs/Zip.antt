-- Two lists zipped, by length and by place. Assumes nothing.
use mathlib.Core.Path.{◌≡◌, refl, ap}
use mathlib.Core.List.{List, [], ◌∷◌}
use Prim.Native.Nat.{ℕ, zero, suc, ◌<◌}
use native.Mathlib.Nat.{not-suc-le-zero, le_of_suc-le-suc, suc_inj, suc-ne-zero}
use lib.ListN.{length}
use lib.IntN.{ℤ}
use Rattle.sums.specs.Lists.{at, table}
use Rattle.hadamard.specs.Butterflies.{zip}

module _ (f : ℤ → ℤ → ℤ) where
  pub length-zip : (xs ys : List ℤ) → length xs ≡ length ys → length (zip f xs ys) ≡ length xs
  unfolding zip
  length-zip [] ys e = refl
  length-zip (x ∷ xs) [] e = absurd (suc-ne-zero (length xs) e)
  length-zip (x ∷ xs) (y ∷ ys) e = ap suc (length-zip xs ys (suc_inj e))

  pub at-zip : (xs ys : List ℤ) (i : ℕ) → i < length xs → length xs ≡ length ys → at (zip f xs ys) i ≡ f (at xs i) (at ys i)
  unfolding zip
  at-zip [] ys i h e = absurd (not-suc-le-zero h)
  at-zip (x ∷ xs) [] i h e = absurd (suc-ne-zero (length xs) e)
  at-zip (x ∷ xs) (y ∷ ys) zero h e = refl
  at-zip (x ∷ xs) (y ∷ ys) (suc i) h e = at-zip xs ys i (le_of_suc-le-suc h) (suc_inj e)

  pub zip_tables : (n : ℕ) (g h : ℕ → ℤ) → zip f (table n g) (table n h) ≡ table n (λ i. f (g i) (h i))
  unfolding zip table
  zip_tables zero g h = refl
  zip_tables (suc n) g h = ap (λ l. f (g 0) (h 0) ∷ l) (zip_tables n (λ i. g (suc i)) (λ i. h (suc i)))
