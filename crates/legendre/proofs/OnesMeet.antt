-- The formulas by what the ones of a sequence meet; how that is gathered, square by square, from numbers twice over; and how large it is. Assumes nothing.
use mathlib.Core.Path.{◌≡◌, refl, sym, ap, ap₂, ◌∙◌}
use mathlib.Core.Bool.{Bool, true, false}
use mathlib.Core.List.{List}
use Prim.Native.Nat.{ℕ, ◌+◌, ◌-◌, ◌*◌, ◌%◌, ◌^◌, ◌≤◌, ◌<◌}
use native.Mathlib.Nat.{le_trans, le_of_eq, mod-lt, mod-eq_of_lt, add-mod_right, add_comm}
use native.Mathlib.Numerals.{add-one}
use native.Mathlib.Decide.{dec_lt}
use native.Mathlib.Omega.{arith}
use lib.IntN.{ℤ, pos, neg_ℤ, nat_abs, ◌+ℤ◌, ◌-ℤ◌, ◌*ℤ◌, *ℤ_comm}
use lib.ListN.{length, replicate, length-replicate}
use Rattle.sums.specs.Sum.{sum, sign}
use Rattle.sums.specs.Lists.{at, table, put}
use Rattle.sums.proofs.Everywhere.{length-put_at, put_at_before, put_at_here, put_at-after}
use Rattle.sums.proofs.Sign.{nat_abs-sign-*}
use Rattle.sums.proofs.Somewhere.{none_of}
use Rattle.sums.proofs.Sum.{sum-suc, sum_ext, nat_abs-sum}
use Rattle.sums.proofs.Tables.{length-table, at_table, length-put, at-put, at_tail, at-replicate, by_places}
use Rattle.samples.specs.Samples.{sample_out}
use Rattle.samples.proofs.Sizes.{sample_size}
use Rattle.response.specs.Response.{response, prediction}
use Rattle.response.proofs.Ones.{response_ones, prediction_ones}
use Rattle.legendre.specs.Legendre.{offered, bit, wave}
use Rattle.legendre.specs.Working.{Passed, twice_over, half, away_by, met}
use Rattle.legendre.proofs.Bits.{bit-lt}
use Rattle.legendre.proofs.Offered.{short}
use Rattle.legendre.proofs.Squares.{over_ones, on_from, back_from}

-- ---- the formulas

module _ (p : ℕ) (o : offered p ≡ true) where
  -- r(k) is -2 times what the ones meet, and they are the squares back from k
  pub response-met : (y : ℕ → ℤ) (k : ℕ) → k < p → response p (wave p) y k ≡ neg_ℤ (pos 2 *ℤ met p true y k)
  unfolding met wave
  response-met y k l =
      response_ones p (bit p) (bit-lt p) y k l
      ∙ ap (λ z. neg_ℤ (pos 2 *ℤ z)) (over_ones p o (short p o).0 (λ n. y ((k + n) % p)) ∙ sum_ext (half p) (λ i _. ap y (on_from p k (i * i % p))))

  -- y(j) is the sum of the response less twice what the ones meet, and they are the squares on from j
  pub prediction-met : (h : ℕ → ℤ) (j : ℕ) → j < p → prediction p (wave p) h j ≡ sum p h -ℤ pos 2 *ℤ met p false h j
  unfolding met wave
  prediction-met h j l =
      prediction_ones p (bit p) (bit-lt p) h j l
      ∙ ap (λ z. sum p h -ℤ pos 2 *ℤ z)
      (over_ones p o (short p o).0 (λ n. h ((j + (p - n)) % p)) ∙ sum_ext (half p) (λ i _. ap h (back_from p j (i * i % p) (mod-lt (i * i) (short p o).0))))

-- ---- numbers twice over

module _ (z was : List ℤ) (room : 2 * length z ≤ length was) where
  abbrev once : List ℤ
  once = put (table (length z) (at z)) was

  long_once : length once ≡ length was
  long_once = length-put (table (length z) (at z)) was (omega (arith, length-table (length z) (at z)))

  fits : length z + length (table (length z) (at z)) ≤ length once
  fits = omega (arith, length-table (length z) (at z), long_once)

  pub twice_long : length (twice_over z was) ≡ length was
  twice_long = length-put_at (length z) (table (length z) (at z)) once fits ∙ long_once

  pub twice_at : (i : ℕ) → i < 2 * length z → at (twice_over z was) i ≡ at z (i % length z)
  twice_at i l = elim (dec_lt i (length z)) [
    | yes h ↦ put_at_before (length z) (table (length z) (at z)) once fits i (pos 0) h ∙ at-put (length z) (at z) was i (pos 0) h ∙ ap (at z) (sym (mod-eq_of_lt h))
    | no h ↦
        let j : ℕ = i - length z in
        let k : j < length z = omega arith in
        let e : length z + j ≡ i = omega arith in
        let g : j + length z ≡ i = omega arith in
        ap (at (twice_over z was)) (sym e)
        ∙ put_at_here (length z) (table (length z) (at z)) once fits j (pos 0) (omega (arith, length-table (length z) (at z)))
        ∙ at_table (length z) (at z) j (pos 0) k
        ∙ ap (at z) (sym (ap (λ (m : ℕ). m % length z) (sym g) ∙ add-mod_right j (length z) ∙ mod-eq_of_lt k))
  ]

  pub twice_tail : (i : ℕ) → 2 * length z ≤ i → at (twice_over z was) i ≡ at was i
  twice_tail i h =
      let j : ℕ = i - length z in
      let e : length z + j ≡ i = omega arith in
      ap (at (twice_over z was)) (sym e)
      ∙ put_at-after (length z) (table (length z) (at z)) once fits j (pos 0) (omega (arith, length-table (length z) (at z)))
      ∙ ap (at once) e ∙ at_tail (length z) (at z) was i (pos 0) (omega arith)

pub away_most : (back : Bool) (p d : ℕ) → d ≤ p → away_by back p d ≤ p
away_most true p d l = omega arith
away_most false p d l = l

-- read from them
pub met_twice : (z was : List ℤ) → 2 * length z ≤ length was → 0 < length z → (back : Bool) (k : ℕ) → k < length z
    → sum (half (length z)) (λ i. at (twice_over z was) (away_by back (length z) (i * i % length z) + k)) ≡ met (length z) back (at z) k
unfolding met
met_twice z was room some back k l =
    sum_ext (half (length z)) (λ i _.
    let d = away_by back (length z) (i * i % length z) in
    twice_at z was room (d + k) (omega (arith, away_most back (length z) (i * i % length z) (omega (arith, mod-lt (i * i) some))))
    ∙ ap (λ (n : ℕ). at z (n % length z)) (add_comm d k))

-- ---- sizes

module _ (y : List ℤ) (s : Passed y) where
  pub few : (0 < length y) × (length y ≤ 127)
  few = short (length y) s.period

  pub sized : (j : ℕ) → j < length y → nat_abs (at y j) ≤ 2 ^ 23
  sized j l = sample_size (at y j) (none_of (λ i. sample_out (at y i)) (length y) s.in_range j l)

  pub met_size : (back : Bool) (k : ℕ) → nat_abs (met (length y) back (at y) k) < 2 ^ 30
  unfolding met
  met_size back k =
      omega (
        arith,
        nat_abs-sum (half (length y)) (2 ^ 23) (λ i. at y ((k + away_by back (length y) (i * i % length y)) % length y))
            (λ i _. sized ((k + away_by back (length y) (i * i % length y)) % length y) (mod-lt (k + away_by back (length y) (i * i % length y)) few.0)),
        few.1,
      )

  pub sum_size : nat_abs (sum (length y) (at y)) < 2 ^ 30
  sum_size = omega (arith, nat_abs-sum (length y) (2 ^ 23) (at y) sized, few.1)

  pub prediction_size : (j : ℕ) → nat_abs (prediction (length y) (wave (length y)) (at y) j) < 2 ^ 30
  unfolding prediction wave
  prediction_size j = omega (arith, nat_abs-sum (length y) (2 ^ 23) (λ i. at y i *ℤ sign (bit (length y) ((j + (length y - i)) % length y))) (λ i l. each i (bit (length y) ((j + (length y - i)) % length y)) (sized i l)), few.1)
    where
      each : (i s : ℕ) → nat_abs (at y i) ≤ 2 ^ 23 → nat_abs (at y i *ℤ sign s) ≤ 2 ^ 23
      each i s h = le_trans (le_of_eq (ap nat_abs (*ℤ_comm (at y i) (sign s)) ∙ nat_abs-sign-* s (at y i))) h

  -- and twice over, with zeros behind
  pub twice-size : (n : ℕ) → 2 * length y ≤ n → (k : ℕ) → nat_abs (at (twice_over y (replicate n (pos 0))) k) ≤ 2 ^ 23
  twice-size n room k =
      let long : length (replicate n (pos 0)) ≡ n = length-replicate n (pos 0) in
      elim (dec_lt k (2 * length y)) [
        | yes h ↦ rw (twice_at y (replicate n (pos 0)) (omega (arith, long)) k h) (sized (k % length y) (mod-lt k few.0))
        | no h ↦ rw (twice_tail y (replicate n (pos 0)) (omega (arith, long)) k (omega arith), at-replicate n k (pos 0)) (omega arith)
      ]

-- ---- gathered square by square

-- v is was with the sum of what the squares of the numbers below i meet at each of its first places
pub record Gathered (i p count : ℕ) (back : Bool) (twice was v : List ℤ) : Type 0 where
  pub long : length v ≡ length was
  pub each : (k : ℕ) → k < count → at v k ≡ sum i (λ n. at twice (away_by back p (n * n % p) + k))
  pub tail : (k : ℕ) → count ≤ k → at v k ≡ at was k

module _ {p count : ℕ} {back : Bool} {twice was : List ℤ} where
  pub gathered_none : ((k : ℕ) → k < count → at was k ≡ pos 0) → Gathered 0 p count back twice was was
  unfolding sum
  gathered_none zeros = record { long = refl; each = zeros; tail = λ k h. refl }

  pub gathered_more : {i : ℕ} {v w : List ℤ} (part : List ℤ) → Gathered i p count back twice was v → count ≤ length was → length part ≡ count
      → ((k : ℕ) → k < count → at part k ≡ at twice (away_by back p (i * i % p) + k))
      → w ≡ put (table (length part) (λ k. at v k +ℤ at part k)) v → Gathered (i + 1) p count back twice was w
  gathered_more {i} {v} {w} part g room long there made =
      let next : ℕ → ℤ = λ k. at v k +ℤ at part k in
      let is : w ≡ put (table count next) v = made ∙ ap (λ m. put (table m next) v) long in
      record {
        long = ap length is ∙ length-put (table count next) v (omega (arith, length-table count next, g.long)) ∙ g.long;
        each =
            λ k l. ap (λ u. at u k) is ∙ at-put count next v k (pos 0) l
            ∙ ap₂ ◌+ℤ◌ (g.each k l) (there k l)
            ∙ sym (sum-suc i (λ n. at twice (away_by back p (n * n % p) + k)))
            ∙ ap (λ m. sum m (λ n. at twice (away_by back p (n * n % p) + k))) (sym (add-one i));
        tail = λ k h. ap (λ u. at u k) is ∙ at_tail count next v k (pos 0) h ∙ g.tail k h;
      }

  pub gathered_all : {i : ℕ} {v : List ℤ} → Gathered i p count back twice was v → count ≤ length was
      → v ≡ put (table count (λ k. sum i (λ n. at twice (away_by back p (n * n % p) + k)))) was
  gathered_all {i} {v} g room = by_places (pos 0) count (λ k. sum i (λ n. at twice (away_by back p (n * n % p) + k))) was v room g.long g.each g.tail

  pub gathered_size : {i : ℕ} {v : List ℤ} → Gathered i p count back twice was v → ((k : ℕ) → nat_abs (at twice k) ≤ 2 ^ 23)
      → (k : ℕ) → k < count → nat_abs (at v k) ≤ i * 2 ^ 23
  gathered_size {i} {v} g small k l = rw (g.each k l) (nat_abs-sum i (2 ^ 23) _ (λ n _. small (away_by back p (n * n % p) + k)))
