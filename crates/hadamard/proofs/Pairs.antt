-- The loop of `butterflies`: what it has made of a list after its first i turns, and at its end. Assumes nothing.
use mathlib.Core.Path.{◌≡◌, sym, ◌∙◌}
use mathlib.Core.Logic.{◌≢◌}
use mathlib.Core.List.{List}
use Prim.Native.Nat.{ℕ, ◌+◌, ◌<◌}
use native.Mathlib.Omega.{arith}
use lib.ListN.{length, set, length-set}
use lib.IntN.{ℤ, ◌+ℤ◌, ◌-ℤ◌}
use Rattle.sums.specs.Lists.{at}
use Rattle.hadamard.specs.Butterflies.{add, sub, folded, level, PairsFit}
use Rattle.hadamard.proofs.Folds.{by_halves, length-folded, at-folded}
use Rattle.hadamard.proofs.Size.{Two}
use Rattle.hadamard.proofs.Turns.{Turned, turned_none, turned_more, first_stored, second_stored, neither_stored}

pub data Half : Type 0 where
  one two : Half

abbrev place : ℕ → Half → ℕ → ℕ
place half one k = k
place half two k = k + half

abbrev of : Half → ℤ → ℤ → ℤ
of one = add
of two = sub

-- the first i pairs are done, and the others are as they were
abbrev pub Paired : List ℤ → ℕ → ℕ → List ℤ → Type 0
Paired v₀ half i v = Turned (place half) (λ j k. of j (at v₀ k) (at v₀ (k + half))) half v₀ i v

pub paired_none : (v₀ : List ℤ) (half : ℕ) → Paired v₀ half 0 v₀
paired_none v₀ half = turned_none (place half) (λ j k. of j (at v₀ k) (at v₀ (k + half))) half v₀

module _ (v₀ : List ℤ) (half i : ℕ) (v : List ℤ) (lt : i < half) (p : Paired v₀ half i v) where
  untouched : (j : Half) → at v (place half j i) ≡ at v₀ (place half j i)
  untouched j = p.kept j i (omega arith) lt

  -- the pair of this turn fits
  pub paired_fit : PairsFit half v₀ → Two (at v i) (at v (i + half))
  paired_fit fit = rw (untouched one, untouched two) (record { small = fit i lt })

  pub paired_more : length v₀ ≡ half + half → (x y : ℤ) → x ≡ at v i +ℤ at v (i + half) → y ≡ at v i -ℤ at v (i + half)
      → Paired v₀ half (i + 1) (set (set v i x) (i + half) y)
  paired_more len x y ex ey =
      turned_more (place half) (λ j k. of j (at v₀ k) (at v₀ (k + half))) half v₀ (set (set v i x) (i + half) y) p lt (simp length-set) here others
    where
      long : length v ≡ half + half
      long = p.long ∙ len

      here : (j : Half) → at (set (set v i x) (i + half) y) (place half j i) ≡ of j (at v₀ i) (at v₀ (i + half))
      here one = first_stored v i (i + half) x y (λ e. omega arith) (omega arith) ∙ ex ∙ rw (untouched one, untouched two)
      here two = second_stored v i (i + half) x y (omega arith) ∙ ey ∙ rw (untouched one, untouched two)

      others : (j : Half) (k : ℕ) → k < half → k ≢ i → at (set (set v i x) (i + half) y) (place half j k) ≡ at v (place half j k)
      others one k h ne = neither_stored v i (i + half) x y k ne (λ e. omega arith)
      others two k h ne = neither_stored v i (i + half) x y (k + half) (λ e. omega arith) (λ e. omega arith)

pub paired_all : (v₀ : List ℤ) (half : ℕ) (v : List ℤ) → length v₀ ≡ half + half → Paired v₀ half half v → v ≡ level half v₀
paired_all v₀ half v len p =
    by_halves v (folded add half v₀) (folded sub half v₀) half (p.long ∙ len) (length-folded add half v₀ len) (length-folded sub half v₀ len)
    (λ k h. p.done one k h ∙ sym (at-folded add half v₀ len k h))
    (λ k h. p.done two k h ∙ sym (at-folded sub half v₀ len k h))
