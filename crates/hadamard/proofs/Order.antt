-- The transform is linear, so a level may be done after those of its halves, the narrowest first. Assumes nothing.
use mathlib.Core.Path.{◌≡◌, sym, ap₂, ap, ◌∙◌}
use mathlib.Core.List.{List, ◌++◌}
use Prim.Native.Nat.{ℕ, suc, ◌+◌, ◌^◌, ◌<◌}
use native.Mathlib.Nat.{pow-suc}
use native.Mathlib.Omega.{arith}
use lib.ListN.{length, take, drop}
use lib.Seq.{take_at, drop_at}
use lib.IntN.{ℤ, ◌*ℤ◌}
use Rattle.sums.specs.Sum.{sum, sign}
use Rattle.sums.specs.Lists.{at}
use Rattle.sums.proofs.Ring.{ring}
use Rattle.sums.proofs.Sum.{sum_ext, sum-+, sum-sub}
use Rattle.sums.proofs.Tables.{table_ext}
use Rattle.hadamard.specs.Transform.{common, transformed}
use Rattle.hadamard.specs.Butterflies.{add, sub, zip, folded, level, each_half}
use Rattle.hadamard.proofs.Zip.{at-zip, zip_tables}
use Rattle.hadamard.proofs.Folds.{length-first, length_second}
use Rattle.hadamard.proofs.Spectrum.{spectrum, length-spectrum, spectrum_halves}

-- f is a sum or a difference: the transform of f of two lists is f of their transforms
module _ (f : ℤ → ℤ → ℤ) (of_products : (s x y : ℤ) → s *ℤ f x y ≡ f (s *ℤ x) (s *ℤ y))
    (of_sums : (n : ℕ) (g h : ℕ → ℤ) → sum n (λ i. f (g i) (h i)) ≡ f (sum n g) (sum n h))
  where
    pub linear : (n : ℕ) (a b : List ℤ) → length a ≡ 2 ^ n → length b ≡ 2 ^ n → spectrum n (zip f a b) ≡ zip f (spectrum n a) (spectrum n b)
    unfolding transformed
    linear n a b la lb = table_ext (2 ^ n) each ∙ sym (zip_tables f (2 ^ n) (transformed n a) (transformed n b))
      where
        each : (u : ℕ) → u < 2 ^ n → transformed n (zip f a b) u ≡ f (transformed n a u) (transformed n b u)
        each u _ =
            sum_ext (2 ^ n) (λ w h. ap (λ z. sign (common n u w) *ℤ z) (at-zip f a b w (omega arith) (la ∙ sym lb))
            ∙ of_products (sign (common n u w)) (at a w) (at b w))
            ∙ of_sums (2 ^ n) (λ w. sign (common n u w) *ℤ at a w) (λ w. sign (common n u w) *ℤ at b w)

module _ (n : ℕ) (v : List ℤ) (len : length v ≡ 2 ^ suc n) where
  long : length v ≡ 2 ^ n + 2 ^ n
  long = omega (arith, pow-suc 2 n)

  abbrev front : List ℤ
  front = take (2 ^ n) v

  abbrev behind : List ℤ
  behind = drop (2 ^ n) v

  -- the transforms of the halves folded are those of the halves, folded
  after : (f : ℤ → ℤ → ℤ) → spectrum n (zip f front behind) ≡ zip f (spectrum n front) (spectrum n behind)
      → folded f (2 ^ n) (each_half n v) ≡ spectrum n (folded f (2 ^ n) v)
  unfolding folded
  after f e =
      ap₂ (zip f)
      (take_at (spectrum n front) (spectrum n behind) (2 ^ n) (length-spectrum n front))
      (drop_at (spectrum n front) (spectrum n behind) (2 ^ n) (length-spectrum n front))
      ∙ sym e

  -- one level done after the halves
  pub halves_first : level (2 ^ n) (each_half n v) ≡ spectrum (suc n) v
  halves_first =
      ap₂ ◌++◌
      (after add (linear add (λ s x y. simp ring) sum-+ n front behind (length-first (2 ^ n) v long) (length_second (2 ^ n) v long)))
      (after sub (linear sub (λ s x y. simp ring) sum-sub n front behind (length-first (2 ^ n) v long) (length_second (2 ^ n) v long)))
      ∙ sym (spectrum_halves n v long)
