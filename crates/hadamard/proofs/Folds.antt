-- A list in two halves: its numbers by place, and its halves folded onto each other. Assumes nothing.
use mathlib.Core.Path.{◌≡◌, sym, ap, ap₂, ◌∙◌}
use mathlib.Core.List.{List, ◌∷◌, ◌++◌}
use Prim.Native.Nat.{ℕ, zero, suc, ◌+◌, ◌-◌, ◌<◌}
use native.Mathlib.Nat.{add_comm, zero-add, suc-add}
use native.Mathlib.Omega.{arith}
use native.Mathlib.Decide.{dec_lt}
use lib.ListN.{length, take, drop, length-append, length-drop, get_or-append}
use lib.Seq.{get_or-take, get_or-drop, get_or-append-add, ext_get_or, length-take-le}
use lib.IntN.{ℤ, pos, ◌+ℤ◌, ◌-ℤ◌}
use Rattle.sums.specs.Lists.{at, table}
use Rattle.hadamard.specs.Butterflies.{add, sub, folded, level}
use Rattle.hadamard.proofs.Zip.{length-zip, at-zip}

-- ---- a list in two parts

pub at_left : (p q : List ℤ) (k : ℕ) → k < length p → at (p ++ q) k ≡ at p k
at_left p q k h = get_or-append p q (pos 0) k h

pub at_right : (p q : List ℤ) (half k : ℕ) → length p ≡ half → at (p ++ q) (k + half) ≡ at q k
at_right p q half k e =
    let i : k + half ≡ length p + k = omega arith in
    ap (λ j. at (p ++ q) j) i ∙ get_or-append-add p q k (pos 0)

pub table_split : {A : Type 0} (n m : ℕ) (f : ℕ → A) → table (n + m) f ≡ table n f ++ table m (λ i. f (n + i))
unfolding table
table_split zero m f = simp zero-add
table_split (suc n) m f = simp suc-add (ap (λ l. f 0 ∷ l) (table_split n m (λ i. f (suc i))))

-- what holds below q, and from q on below q + q
pub both_ranges : (P : ℕ → Type 0) (q : ℕ) → ((k : ℕ) → k < q → P k) → ((k : ℕ) → k < q → P (k + q)) → (k : ℕ) → k < q + q → P k
both_ranges P q l r k h = each (dec_lt k q)
  where
    each : Dec (k < q) → P k
    each (yes lt) = l k lt
    each (no ge) = let e : (k - q) + q ≡ k = omega arith in rw e at (r (k - q) (omega arith))

-- a list is p and then q where each half agrees
module _ (v p q : List ℤ) (half : ℕ) (len : length v ≡ half + half) (lp : length p ≡ half) (lq : length q ≡ half) where
  pub by_halves : ((k : ℕ) → k < half → at v k ≡ at p k) → ((k : ℕ) → k < half → at v (k + half) ≡ at q k) → v ≡ p ++ q
  by_halves l r =
      ext_get_or (pos 0) v (p ++ q) (omega (arith, length-append p q)) (λ k h. both_ranges (λ i. at v i ≡ at (p ++ q) i) half
      (λ i b. l i b ∙ sym (at_left p q i (omega arith)))
      (λ i b. r i b ∙ sym (at_right p q half i lp)) k (omega arith))

-- ---- the halves

module _ (half : ℕ) (v : List ℤ) where
  pub at_first : (k : ℕ) → k < half → at (take half v) k ≡ at v k
  at_first k h = get_or-take half v k (pos 0) h

  pub at_second : (k : ℕ) → at (drop half v) k ≡ at v (k + half)
  at_second k = get_or-drop half v k (pos 0) ∙ ap (at v) (add_comm half k)

module _ (half : ℕ) (v : List ℤ) (len : length v ≡ half + half) where
  pub length-first : length (take half v) ≡ half
  length-first = length-take-le half v (omega arith)

  pub length_second : length (drop half v) ≡ half
  length_second = length-drop half v ∙ omega arith

-- ---- the halves folded

module _ (f : ℤ → ℤ → ℤ) (half : ℕ) (v : List ℤ) (len : length v ≡ half + half) where
  same_length : length (take half v) ≡ length (drop half v)
  same_length = length-first half v len ∙ sym (length_second half v len)

  pub length-folded : length (folded f half v) ≡ half
  unfolding folded
  length-folded = length-zip f (take half v) (drop half v) same_length ∙ length-first half v len

  pub at-folded : (k : ℕ) → k < half → at (folded f half v) k ≡ f (at v k) (at v (k + half))
  unfolding folded
  at-folded k h =
      at-zip f (take half v) (drop half v) k (omega (arith, length-first half v len)) same_length
      ∙ ap₂ f (at_first half v k h) (at_second half v k)

-- ---- one level

module _ (half : ℕ) (v : List ℤ) (len : length v ≡ half + half) where
  pub length-level : length (level half v) ≡ half + half
  length-level =
      omega (arith, length-append (folded add half v) (folded sub half v), length-folded add half v len, length-folded sub half v len)

  pub at_sums : (k : ℕ) → k < half → at (level half v) k ≡ at v k +ℤ at v (k + half)
  at_sums k h =
      at_left (folded add half v) (folded sub half v) k (omega (arith, length-folded add half v len)) ∙ at-folded add half v len k h

  pub at_differences : (k : ℕ) → k < half → at (level half v) (k + half) ≡ at v k -ℤ at v (k + half)
  at_differences k h =
      at_right (folded add half v) (folded sub half v) half k (length-folded add half v len) ∙ at-folded sub half v len k h
