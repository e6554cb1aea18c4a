-- What `halves`, `transform` and the small transforms make of a list's halves, which are lent one after the other. Assumes nothing.
use mathlib.Core.Path.{◌≡◌, refl, sym, ap, ap₂, ◌∙◌}
use mathlib.Core.List.{List, [], ◌++◌, append-nil}
use Prim.Native.Nat.{ℕ, suc, ◌+◌, ◌-◌, ◌^◌, ◌≤◌, ◌<◌}
use native.Mathlib.Nat.{pow-suc}
use native.Mathlib.Omega.{arith}
use lib.ListN.{length, take, drop, length-append, length-drop, drop_of_length-le, take-append-drop}
use lib.Seq.{take_all, take_at, drop_at}
use lib.IntN.{ℤ, pos, nat_abs}
use borrow.Rule.Slice.PartMut.{put_mid}
use Rattle.sums.specs.Lists.{at}
use Rattle.sums.proofs.Tables.{at_table}
use Rattle.hadamard.specs.Transform.{transformed, loudness}
use Rattle.hadamard.specs.Butterflies.{level, two_levels, each_half, PairsFit, FoursFit}
use Rattle.hadamard.proofs.Folds.{at_left, at_right, length-first, length_second}
use Rattle.hadamard.proofs.Loudness.{loudness_parts, transformed-at_most}
use Rattle.hadamard.proofs.Spectrum.{spectrum, length-spectrum, spectrum-one}
use Rattle.hadamard.proofs.Order.{halves_first}

-- ---- a list whose first half has become l

-- what `&mut w[half..]` then lends
abbrev rest : ℕ → List ℤ → List ℤ → List ℤ
rest half w l = take (length (l ++ drop half w) - half) (drop half (l ++ drop half w))

-- what is there once that has become r
abbrev joined : ℕ → List ℤ → List ℤ → List ℤ → List ℤ
joined half w l r = put_mid half (length (l ++ drop half w) - half) (l ++ drop half w) r

-- f is what becomes of each half
module _ (f : List ℤ → List ℤ) (half : ℕ) (w : List ℤ) (lw : length w ≡ half + half) (keeps : (x : List ℤ) → length (f x) ≡ half)
    {l : List ℤ} (el : l ≡ f (take half w))
  where
    length_left : length l ≡ half
    length_left = ap length el ∙ keeps (take half w)

    length_lent : length (l ++ drop half w) ≡ half + half
    length_lent = length-append l (drop half w) ∙ omega (arith, length-drop half w, length_left)

    rest-is : rest half w l ≡ drop half w
    rest-is =
        ap (λ x. take (length (l ++ drop half w) - half) x) (drop_at l (drop half w) half length_left)
        ∙ take_all (length (l ++ drop half w) - half) (drop half w) (omega (arith, length_lent, length-drop half w))

    both_are : {r : List ℤ} → r ≡ f (rest half w l) → joined half w l r ≡ f (take half w) ++ f (drop half w)
    both_are er =
        let none : drop (length (l ++ drop half w) - half) (drop half w) ≡ [] =
        drop_of_length-le (drop half w) {i = length (l ++ drop half w) - half} (omega (arith, length_lent, length-drop half w)) in
        rw (take_at l (drop half w) half length_left, drop_at l (drop half w) half length_left, none, append-nil, er, rest-is, el)

-- ---- each half, and then one level

-- what every transform asks
abbrev Asked : ℕ → List ℤ → Type 0
Asked n v = (length v ≡ 2 ^ n) × (loudness v < 2 ^ 63)

-- a list of 2^n numbers whose halves have 2^m
pub record Level (n m half : ℕ) (v : List ℤ) : Type 0 where
  pub order : n ≡ suc m
  pub is_half : half ≡ 2 ^ m
  pub asked : Asked n v

-- as the small transforms are given one
pub of_order : (m : ℕ) {v : List ℤ} → Asked (suc m) v → Level (suc m) m (2 ^ m) v
of_order m given = record { order = refl; is_half = refl; asked = given }

length_both : (m : ℕ) (v : List ℤ) → length (each_half m v) ≡ 2 ^ m + 2 ^ m
length_both m v =
    length-append (spectrum m (take (2 ^ m) v)) (spectrum m (drop (2 ^ m) v))
    ∙ ap₂ ◌+◌ (length-spectrum m (take (2 ^ m) v)) (length-spectrum m (drop (2 ^ m) v))

spectrum-at_most : (m : ℕ) (x : List ℤ) (k : ℕ) → length x ≡ 2 ^ m → k < 2 ^ m → nat_abs (at (spectrum m x) k) ≤ loudness x
spectrum-at_most m x k len h = rw (at_table (2 ^ m) (transformed m x) k (pos 0) h) (transformed-at_most m x k len)

module _ {n m half : ℕ} {v : List ℤ} (L : Level n m half v) where
  pub halved : length v ≡ half + half
  halved = L.asked.0 ∙ ap (λ k. 2 ^ k) L.order ∙ omega (arith, pow-suc 2 m, L.is_half)

  pub left_asks : Asked m (take half v)
  left_asks = (length-first half v halved ∙ L.is_half, omega (arith, loudness_parts half v, L.asked.1))

  right_asked : Asked m (drop half v)
  right_asked = (length_second half v halved ∙ L.is_half, omega (arith, loudness_parts half v, L.asked.1))

  keeps : (x : List ℤ) → length (spectrum m x) ≡ half
  keeps x = length-spectrum m x ∙ sym L.is_half

  -- the transform of the first half is l
  module _ {l : List ℤ} (el : l ≡ spectrum m (take half v)) where
    pub length_halves : length (l ++ drop half v) ≡ half + half
    length_halves = length_lent (spectrum m) half v halved keeps el

    pub right_asks : Asked m (rest half v l)
    right_asks = rw (rest-is (spectrum m) half v halved keeps el) right_asked

    pub halves_are : {r : List ℤ} → r ≡ spectrum m (rest half v l) → joined half v l r ≡ each_half m v
    halves_are er = both_are (spectrum m) half v halved keeps el er ∙ rw L.is_half

  -- w is what the transforms of both leave
  module _ {w : List ℤ} (ew : w ≡ each_half m v) where
    is_both : w ≡ spectrum m (take half v) ++ spectrum m (drop half v)
    is_both = ew ∙ rw L.is_half

    long_both : length w ≡ half + half
    long_both = ap length ew ∙ length_both m v ∙ rw L.is_half

    -- loudness is not kept, but the two numbers that meet come from two halves
    pub meet_at_most : (k : ℕ) → k < half → nat_abs (at w k) + nat_abs (at w (k + half)) ≤ loudness v
    meet_at_most k h =
        let front = take half v in
        let behind = drop half v in
        rw (
          is_both,
          at_left (spectrum m front) (spectrum m behind) k (omega (arith, keeps front)),
          at_right (spectrum m front) (spectrum m behind) half k (keeps front),
        )
        (omega (
          arith,
          spectrum-at_most m front k left_asks.0 (omega (arith, L.is_half)),
          spectrum-at_most m behind k right_asked.0 (omega (arith, L.is_half)),
          loudness_parts half v,
        ))

    pub level-asks : (length w ≡ half + half) × PairsFit half w
    level-asks = (long_both, λ k h. omega (arith, meet_at_most k h, L.asked.1))

    pub level_is : {u : List ℤ} → u ≡ level half w → u ≡ spectrum n v
    level_is eu =
        eu ∙ ap₂ level L.is_half ew
        ∙ halves_first m v (L.asked.0 ∙ ap (λ k. 2 ^ k) L.order)
        ∙ ap (λ k. spectrum k v) (sym L.order)

-- two numbers are the transforms of their halves
pub alone : {v : List ℤ} → Asked 1 v → v ≡ each_half 0 v
alone {v} given =
    sym (take-append-drop 1 v)
    ∙ ap₂ ◌++◌ (sym (spectrum-one (take 1 v) (length-first 1 v given.0))) (sym (spectrum-one (drop 1 v) (length_second 1 v given.0)))

-- ---- each quarter, and then two levels

-- a list of 2^n numbers whose quarters have 2^m
pub record Deep (n m q half : ℕ) (v : List ℤ) : Type 0 where
  pub order : n ≡ suc (suc m)
  pub is_q : q ≡ 2 ^ m
  pub is_half : half ≡ q + q
  pub asked : Asked n v

pub of_order_deep : (m : ℕ) {v : List ℤ} → Asked (suc (suc m)) v → Deep (suc (suc m)) m (2 ^ m) (2 ^ m + 2 ^ m) v
of_order_deep m given = record { order = refl; is_q = refl; is_half = refl; asked = given }

module _ {n m q half : ℕ} {v : List ℤ} (D : Deep n m q half v) where
  pub whole : Level n (suc m) half v
  whole = record { order = D.order; is_half = omega (arith, D.is_half, D.is_q, pow-suc 2 m); asked = D.asked }

  front : Level (suc m) m q (take half v)
  front = record { order = refl; is_half = D.is_q; asked = left_asks whole }

  behind : Level (suc m) m q (drop half v)
  behind = record { order = refl; is_half = D.is_q; asked = right_asked whole }

  keeps_both : (x : List ℤ) → length (each_half m x) ≡ half
  keeps_both x = length_both m x ∙ omega (arith, D.is_half, D.is_q)

  -- the transforms of the first two quarters are l
  module _ {l : List ℤ} (el : l ≡ each_half m (take half v)) where
    pub length_quarters : length (l ++ drop half v) ≡ half + half
    length_quarters = length_lent (each_half m) half v (halved whole) keeps_both el

    pub rest_asks : Asked (suc m) (rest half v l)
    rest_asks = rw (rest-is (each_half m) half v (halved whole) keeps_both el) (right_asked whole)

    pub quarters_are : {r : List ℤ} → r ≡ each_half m (rest half v l) → joined half v l r ≡ each_half m (take half v) ++ each_half m (drop half v)
    quarters_are er = both_are (each_half m) half v (halved whole) keeps_both el er

  -- w is what the transforms of all four leave
  module _ {w : List ℤ} (ew : w ≡ each_half m (take half v) ++ each_half m (drop half v)) where
    abbrev left : List ℤ
    left = each_half m (take half v)

    abbrev right : List ℤ
    right = each_half m (drop half v)

    long_left : length left ≡ q + q
    long_left = keeps_both (take half v) ∙ D.is_half

    four_at_most : (k : ℕ) → k < q
        → (nat_abs (at (left ++ right) k) + nat_abs (at (left ++ right) (k + q)))
        + (nat_abs (at (left ++ right) (k + (q + q))) + nat_abs (at (left ++ right) (k + (q + q + q))))
        ≤ loudness v
    four_at_most k h =
        let e : k + (q + q + q) ≡ k + q + (q + q) = omega arith in
        rw (
          e,
          at_left left right k (omega (arith, long_left)),
          at_left left right (k + q) (omega (arith, long_left)),
          at_right left right (q + q) k long_left,
          at_right left right (q + q) (k + q) long_left,
        )
        (omega (arith, meet_at_most front refl k h, meet_at_most behind refl k h, loudness_parts half v))

    long : length (left ++ right) ≡ (q + q) + (q + q)
    long = length-append left right ∙ ap₂ ◌+◌ long_left (keeps_both (drop half v) ∙ D.is_half)

    pub quads_ask : (length w ≡ (q + q) + (q + q)) × FoursFit q w
    quads_ask = rw ew (long, λ k h. omega (arith, four_at_most k h, D.asked.1))

    pub quads_are : {u : List ℤ} → u ≡ two_levels q w → u ≡ spectrum n v
    quads_are eu =
        eu ∙ ap (two_levels q) ew
        ∙ ap₂ (λ a b. level (q + q) (level q a ++ level q b)) (take_at left right (q + q) long_left) (drop_at left right (q + q) long_left)
        ∙ ap₂ (λ a b. level (q + q) (a ++ b)) (level_is front refl refl) (level_is behind refl refl)
        ∙ ap (λ h. level h (spectrum (suc m) (take half v) ++ spectrum (suc m) (drop half v))) (sym D.is_half)
        ∙ level_is whole (rw whole.is_half) refl
