-- The transform by halves: of the sums, and then of the differences. Assumes nothing.
use mathlib.Core.Path.{◌≡◌, sym, ap, ap₂, ◌∙◌}
use mathlib.Core.List.{List, [], ◌∷◌, ◌++◌}
use Prim.Native.Nat.{ℕ, suc, ◌+◌, ◌*◌, ◌^◌, ◌<◌}
use native.Mathlib.Nat.{pow-suc, add_comm, zero-mul, mul-zero, zero-add, one-mul, mul-one}
use native.Mathlib.Omega.{arith}
use lib.ListN.{length}
use lib.IntN.{ℤ, ◌+ℤ◌, ◌*ℤ◌}
use Rattle.sums.specs.Sum.{sum, sign}
use Rattle.sums.specs.Lists.{at, table}
use Rattle.sums.proofs.Ring.{ring, one-*ℤ}
use Rattle.sums.proofs.Sign.{sign-+}
use Rattle.sums.proofs.Sum.{sum_ext, sum_halves}
use Rattle.sums.proofs.Tables.{length-table, table_ext}
use Rattle.hadamard.specs.Transform.{common, transformed}
use Rattle.hadamard.specs.Butterflies.{add, sub, folded}
use Rattle.hadamard.proofs.Common.{common_top}
use Rattle.hadamard.proofs.Folds.{table_split, at-folded}

-- the whole transform of v
abbrev pub spectrum : ℕ → List ℤ → List ℤ
spectrum n v = table (2 ^ n) (transformed n v)

pub length-spectrum : (n : ℕ) (v : List ℤ) → length (spectrum n v) ≡ 2 ^ n
length-spectrum n v = length-table (2 ^ n) (transformed n v)

-- one number is its own transform
pub spectrum-one : (v : List ℤ) → length v ≡ 1 → spectrum 0 v ≡ v
unfolding table transformed sum sign common
spectrum-one [] len = absurd (omega arith)
spectrum-one (x ∷ []) len = ap (λ (z : ℤ). z ∷ []) (simp ring)
spectrum-one (x ∷ y ∷ v) len = absurd (omega arith)

two_powers : (n : ℕ) → 2 ^ suc n ≡ 2 ^ n + 2 ^ n
two_powers n = omega (arith, pow-suc 2 n)

-- x is the top bit of a place of the transform: the second half counts with its sign
module _ (n : ℕ) (v : List ℤ) (x u : ℕ) (hx : x < 2) (hu : u < 2 ^ n) where
  top : (y w : ℕ) → y < 2 → w < 2 ^ n → sign (common (suc n) (x * 2 ^ n + u) (y * 2 ^ n + w)) ≡ sign (x * y) *ℤ sign (common n u w)
  top y w hy hw = ap sign (common_top n x y u w hx hy hu hw) ∙ sign-+ (x * y) (common n u w)

  first : (w : ℕ) → w < 2 ^ n → sign (common (suc n) (x * 2 ^ n + u) w) ≡ sign (common n u w)
  unfolding sign
  first w h = simp (zero-mul, mul-zero, zero-add, one-*ℤ) at (top 0 w (omega arith) h)

  second : (w : ℕ) → w < 2 ^ n → sign (common (suc n) (x * 2 ^ n + u) (2 ^ n + w)) ≡ sign x *ℤ sign (common n u w)
  second w h = simp (one-mul, mul-one) at (top 1 w (omega arith) h)

  both : (w : ℕ) → w < 2 ^ n
      → sign (common (suc n) (x * 2 ^ n + u) w) *ℤ at v w +ℤ sign (common (suc n) (x * 2 ^ n + u) (2 ^ n + w)) *ℤ at v (2 ^ n + w)
      ≡ sign (common n u w) *ℤ (at v w +ℤ sign x *ℤ at v (w + 2 ^ n))
  both w h = rw (first w h, second w h, add_comm (2 ^ n) w) (simp ring)

  pub transformed_halves : transformed (suc n) v (x * 2 ^ n + u) ≡ sum (2 ^ n) (λ w. sign (common n u w) *ℤ (at v w +ℤ sign x *ℤ at v (w + 2 ^ n)))
  unfolding transformed
  transformed_halves =
      ap (λ k. sum k (λ w. sign (common (suc n) (x * 2 ^ n + u) w) *ℤ at v w)) (two_powers n)
      ∙ sum_halves (2 ^ n) (λ w. sign (common (suc n) (x * 2 ^ n + u) w) *ℤ at v w)
      ∙ sum_ext (2 ^ n) both

module _ (n : ℕ) (v : List ℤ) (len : length v ≡ 2 ^ n + 2 ^ n) where
  -- f adds the second half with the sign of x
  half_is : (f : ℤ → ℤ → ℤ) (x : ℕ) → x < 2 → ((a b : ℤ) → a +ℤ sign x *ℤ b ≡ f a b)
      → (u : ℕ) → u < 2 ^ n → transformed (suc n) v (x * 2 ^ n + u) ≡ transformed n (folded f (2 ^ n) v) u
  unfolding transformed
  half_is f x hx is u hu =
      transformed_halves n v x u hx hu
      ∙ sum_ext (2 ^ n) (λ w h. ap (λ z. sign (common n u w) *ℤ z) (is (at v w) (at v (w + 2 ^ n)) ∙ sym (at-folded f (2 ^ n) v len w h)))

  first-half : (u : ℕ) → u < 2 ^ n → transformed (suc n) v u ≡ transformed n (folded add (2 ^ n) v) u
  unfolding sign
  first-half u hu = simp (zero-mul, zero-add) at (half_is add 0 (omega arith) (λ a b. simp ring) u hu)

  second_half : (u : ℕ) → u < 2 ^ n → transformed (suc n) v (2 ^ n + u) ≡ transformed n (folded sub (2 ^ n) v) u
  unfolding sign
  second_half u hu = simp one-mul at (half_is sub 1 (omega arith) (λ a b. simp ring) u hu)

  pub spectrum_halves : spectrum (suc n) v ≡ spectrum n (folded add (2 ^ n) v) ++ spectrum n (folded sub (2 ^ n) v)
  spectrum_halves =
      ap (λ k. table k (transformed (suc n) v)) (two_powers n)
      ∙ table_split (2 ^ n) (2 ^ n) (transformed (suc n) v)
      ∙ ap₂ ◌++◌ (table_ext (2 ^ n) first-half) (table_ext (2 ^ n) second_half)
