-- The loop of `quads`: what it has made of a list after its first i turns, and at its end. Assumes nothing.
use mathlib.Core.Path.{◌≡◌, sym, ap, ap₂, ◌∙◌}
use mathlib.Core.Logic.{◌≢◌}
use mathlib.Core.List.{List}
use Prim.Native.Nat.{ℕ, ◌+◌, ◌<◌}
use native.Mathlib.Omega.{arith}
use lib.ListN.{length, set, take, drop, length-set, length-append}
use lib.IntN.{ℤ}
use Rattle.sums.specs.Lists.{at}
use Rattle.hadamard.specs.Butterflies.{add, sub, folded, level, half_levels, two_levels, FoursFit}
use Rattle.hadamard.proofs.Folds.{at_left, at_right, both_ranges, by_halves, at_first, at_second, length-first, length_second}
use Rattle.hadamard.proofs.Folds.{length-folded, at-folded, length-level, at_sums, at_differences}
use Rattle.hadamard.proofs.Size.{Four}
use Rattle.hadamard.proofs.Turns.{Turned, turned_none, turned_more, first_stored, second_stored, neither_stored}

pub data Quarter : Type 0 where
  one two three four : Quarter

abbrev place : ℕ → Quarter → ℕ → ℕ
place q one k = k
place q two k = k + q
place q three k = k + (q + q)
place q four k = k + (q + q + q)

-- what becomes of the numbers a, b, c, d of the four quarters
abbrev of : Quarter → ℤ → ℤ → ℤ → ℤ → ℤ
of one a b c d = add (add a b) (add c d)
of two a b c d = add (sub a b) (sub c d)
of three a b c d = sub (add a b) (add c d)
of four a b c d = sub (sub a b) (sub c d)

abbrev new : List ℤ → ℕ → Quarter → ℕ → ℤ
new v q j k = of j (at v k) (at v (k + q)) (at v (k + (q + q))) (at v (k + (q + q + q)))

-- the first i of each quarter are done, and the others are as they were
abbrev pub Quartered : List ℤ → ℕ → ℕ → List ℤ → Type 0
Quartered v₀ q i v = Turned (place q) (new v₀ q) q v₀ i v

pub quartered_none : (v₀ : List ℤ) (q : ℕ) → Quartered v₀ q 0 v₀
quartered_none v₀ q = turned_none (place q) (new v₀ q) q v₀

-- four stores, one in each quarter
abbrev stores : List ℤ → ℕ → ℕ → ℤ → ℤ → ℤ → ℤ → List ℤ
stores v q i x y z w = set (set (set (set v i x) (i + q) y) (i + (q + q)) z) (i + (q + q + q)) w

module _ (v₀ : List ℤ) (q i : ℕ) (v : List ℤ) (lt : i < q) (t : Quartered v₀ q i v) where
  untouched : (j : Quarter) → at v (place q j i) ≡ at v₀ (place q j i)
  untouched j = t.kept j i (omega arith) lt

  -- the four of this turn fit
  pub quartered_fit : FoursFit q v₀ → Four (at v i) (at v (i + q)) (at v (i + (q + q))) (at v (i + (q + q + q)))
  quartered_fit fit = rw (untouched one, untouched two, untouched three, untouched four) (record { small = fit i lt })

  pub quartered_more : length v₀ ≡ (q + q) + (q + q) → (x y z w : ℤ)
      → x ≡ new v q one i → y ≡ new v q two i → z ≡ new v q three i → w ≡ new v q four i
      → Quartered v₀ q (i + 1) (stores v q i x y z w)
  quartered_more len x y z w ex ey ez ew =
      turned_more (place q) (new v₀ q) q v₀ (stores v q i x y z w) t lt (simp length-set) here others
    where
      -- after the stores in the first half
      u : List ℤ
      u = set (set v i x) (i + q) y

      long : length v ≡ (q + q) + (q + q)
      long = t.long ∙ len

      long_u : length u ≡ (q + q) + (q + q)
      long_u = simp length-set long

      before : (j : Quarter) → new v q j i ≡ new v₀ q j i
      before j = rw (untouched one, untouched two, untouched three, untouched four)

      last : (k : ℕ) → k ≢ i + (q + q) → k ≢ i + (q + q + q) → at (stores v q i x y z w) k ≡ at u k
      last k a b = neither_stored u (i + (q + q)) (i + (q + q + q)) z w k a b

      here : (j : Quarter) → at (stores v q i x y z w) (place q j i) ≡ new v₀ q j i
      here one = last i (λ e. omega arith) (λ e. omega arith) ∙ first_stored v i (i + q) x y (λ e. omega arith) (omega arith) ∙ ex ∙ before one
      here two = last (i + q) (λ e. omega arith) (λ e. omega arith) ∙ second_stored v i (i + q) x y (omega arith) ∙ ey ∙ before two
      here three = first_stored u (i + (q + q)) (i + (q + q + q)) z w (λ e. omega arith) (omega (arith, long_u)) ∙ ez ∙ before three
      here four = second_stored u (i + (q + q)) (i + (q + q + q)) z w (omega (arith, long_u)) ∙ ew ∙ before four

      elsewhere : (n : ℕ) → n ≢ i → n ≢ i + q → n ≢ i + (q + q) → n ≢ i + (q + q + q) → at (stores v q i x y z w) n ≡ at v n
      elsewhere n a b c d = last n c d ∙ neither_stored v i (i + q) x y n a b

      others : (j : Quarter) (k : ℕ) → k < q → k ≢ i → at (stores v q i x y z w) (place q j k) ≡ at v (place q j k)
      others one k h ne = elsewhere k (λ e. omega arith) (λ e. omega arith) (λ e. omega arith) (λ e. omega arith)
      others two k h ne = elsewhere (k + q) (λ e. omega arith) (λ e. omega arith) (λ e. omega arith) (λ e. omega arith)
      others three k h ne = elsewhere (k + (q + q)) (λ e. omega arith) (λ e. omega arith) (λ e. omega arith) (λ e. omega arith)
      others four k h ne = elsewhere (k + (q + q + q)) (λ e. omega arith) (λ e. omega arith) (λ e. omega arith) (λ e. omega arith)

module _ (v₀ : List ℤ) (q : ℕ) (len : length v₀ ≡ (q + q) + (q + q)) where
  abbrev front : List ℤ
  front = take (q + q) v₀

  abbrev behind : List ℤ
  behind = drop (q + q) v₀

  length_front : length front ≡ q + q
  length_front = length-first (q + q) v₀ len

  length-behind : length behind ≡ q + q
  length-behind = length_second (q + q) v₀ len

  length_levels : length (half_levels q v₀) ≡ (q + q) + (q + q)
  length_levels =
      length-append (level q front) (level q behind) ∙ ap₂ ◌+◌ (length-level q front length_front) (length-level q behind length-behind)

  -- a level has g of two numbers that are q apart at `spot`, and f is of two such that meet in the next level
  module _ (g : ℤ → ℤ → ℤ) (spot : ℕ → ℕ) (within : (k : ℕ) → k < q → spot k < q + q)
      (is : (x : List ℤ) → length x ≡ q + q → (k : ℕ) → k < q → at (level q x) (spot k) ≡ g (at x k) (at x (k + q)))
    where
      meet : (f : ℤ → ℤ → ℤ) (k : ℕ) → k < q
          → f (g (at v₀ k) (at v₀ (k + q))) (g (at v₀ (k + (q + q))) (at v₀ (k + (q + q + q)))) ≡ at (folded f (q + q) (half_levels q v₀)) (spot k)
      meet f k h =
          let e : k + q + (q + q) ≡ k + (q + q + q) = omega arith in
          sym (
          at-folded f (q + q) (half_levels q v₀) length_levels (spot k) (within k h)
          ∙ ap₂ f
          (at_left (level q front) (level q behind) (spot k) (omega (arith, within k h, length-level q front length_front)) ∙ is front length_front k h)
          (at_right (level q front) (level q behind) (q + q) (spot k) (length-level q front length_front) ∙ is behind length-behind k h)
          ∙ rw (
            at_first (q + q) v₀ k (omega arith),
            at_first (q + q) v₀ (k + q) (omega arith),
            at_second (q + q) v₀ k,
            at_second (q + q) v₀ (k + q),
            e,
          )
          )

  of_sums : (f : ℤ → ℤ → ℤ) (k : ℕ) → k < q
      → f (add (at v₀ k) (at v₀ (k + q))) (add (at v₀ (k + (q + q))) (at v₀ (k + (q + q + q)))) ≡ at (folded f (q + q) (half_levels q v₀)) k
  of_sums = meet add (λ k. k) (λ k h. omega arith) (at_sums q)

  of_differences : (f : ℤ → ℤ → ℤ) (k : ℕ) → k < q
      → f (sub (at v₀ k) (at v₀ (k + q))) (sub (at v₀ (k + (q + q))) (at v₀ (k + (q + q + q)))) ≡ at (folded f (q + q) (half_levels q v₀)) (k + q)
  of_differences = meet sub (λ k. k + q) (λ k h. omega arith) (at_differences q)

  pub quartered_all : (v : List ℤ) → Quartered v₀ q q v → v ≡ two_levels q v₀
  quartered_all v t =
      by_halves v (folded add (q + q) (half_levels q v₀)) (folded sub (q + q) (half_levels q v₀)) (q + q) (t.long ∙ len)
      (length-folded add (q + q) (half_levels q v₀) length_levels) (length-folded sub (q + q) (half_levels q v₀) length_levels)
      (both_ranges (λ k. at v k ≡ at (folded add (q + q) (half_levels q v₀)) k) q
      (λ k h. t.done one k h ∙ of_sums add k h)
      (λ k h. t.done two k h ∙ of_differences add k h))
      (both_ranges (λ k. at v (k + (q + q)) ≡ at (folded sub (q + q) (half_levels q v₀)) k) q
      (λ k h. t.done three k h ∙ of_sums sub k h)
      (λ k h. ap (at v) (last k) ∙ t.done four k h ∙ of_differences sub k h))
    where
      last : (k : ℕ) → k + q + (q + q) ≡ k + (q + q + q)
      last k = omega arith
