-- A quotient by a number as the product with its reciprocal, rounded up at a large power of two: exact while the product stays short of it.
-- Assumes nothing.
use mathlib.Core.Path.{◌≡◌, refl, sym, ap, ◌∙◌}
use Prim.Native.Nat.{ℕ, zero, suc, ◌+◌, ◌*◌, ◌/◌, ◌^◌, ◌≤◌, ◌<◌}
use native.Mathlib.Nat.{mul_comm, mul_assoc, mul-add, add-mul, mul-one, one-mul, mul_right_comm, le_of_lt, suc-mul, mul-pos, mul-le-mul, mul-le-mul_left, mul-le-mul_right, le_of_mul-le-mul_right, lt_of_mul-lt-mul_right, div-mul-le_self, mul-div-le, lt-mul-div-succ, div-eq_of_lt-le, div-div-eq-div-mul, zero-mul, pow-succ'}
use native.Mathlib.Numerals.{add-one}
use native.Mathlib.Omega.{arith}
use borrow.Author.Tests.{le-leb}
use lib.Pow.{pow_pos, pow_mono}
use Rattle.rounding.specs.Rounding.{nearest}
use Rattle.rounding.specs.Halving.{Split, Exact, reciprocal as reciprocal_of}

module _ (K x n : ℕ) (p : 0 < n) (short : x * n < K) where
  -- the reciprocal, and what it comes to
  abbrev m : ℕ
  m = K / n + 1

  product : x * (n * m) ≡ x * m * n
  product = ap (λ z. x * z) (mul_comm n m) ∙ sym (mul_assoc x m n)

  at_least : x / n * K ≤ x * m
  at_least =
      let a = mul_right_comm (x / n) K n in
      let b = mul-le-mul_right K (div-mul-le_self x n) in
      let c = mul-le-mul_left x (le_of_lt (lt-mul-div-succ K p)) in
      le_of_mul-le-mul_right {k = n} (omega (arith, a, b, c, product)) p

  pub below : x * m < (x / n + 1) * K
  below =
      let a = mul-add n (K / n) 1 in
      let b : n * m ≤ K + n = omega (arith, a, mul-one n, mul-div-le K n) in
      let c = mul-le-mul_left x b in
      let d = mul-add x K n in
      let e : x + 1 ≤ n * (x / n + 1) = omega (arith, lt-mul-div-succ x p) in
      let f = mul-le-mul_right K e in
      let g = add-mul x 1 K in
      let h = ap (λ z. z * K) (mul_comm n (x / n + 1)) ∙ mul_right_comm (x / n + 1) n K in
      lt_of_mul-lt-mul_right n (omega (arith, product, c, d, f, g, h, one-mul K))

  pub reciprocal : x * m / K ≡ x / n
  reciprocal = div-eq_of_lt-le K at_least below

-- ---- a quotient by twice a split divisor

-- the divisor is not 0, and not large
module _ (most d shift m : ℕ) (s : Split most d shift m) where
  pub split_some : 0 < d
  split_some = omega (arith, mul-pos (pow_pos shift) s.some, s.whole)

  pub split_small : 2 * d ≤ 2 ^ 27 * most
  split_small = omega (arith, s.whole, mul-le-mul (pow_mono {i = shift} {j = 27} s.low) s.fewer)

module _ (most x d shift m : ℕ) (s : Split most d shift m) where
  abbrev shifted : ℕ
  shifted = x / 2 ^ shift

  quotient : shifted / s.few ≡ x / (2 * d)
  quotient = div-div-eq-div-mul x (2 ^ shift) s.few ∙ ap (λ z. x / z) s.whole

  shifted_small : shifted + 1 ≤ most * (x / (2 * d) + 1)
  shifted_small = omega (arith, lt-mul-div-succ shifted s.some, quotient, mul-le-mul_right (x / (2 * d) + 1) s.fewer, ap (λ n. s.few * (n + 1)) quotient)

  -- nothing overflows on the way
  number_fits : x < 2 ^ 27 * (most * (x / (2 * d) + 1))
  number_fits =
      omega (arith, lt-mul-div-succ x {b = 2 ^ shift} (pow_pos shift), mul-le-mul (pow_mono {i = shift} {j = 27} s.low) shifted_small)

  -- while this is short of the unit
  module _ (short : most * (x / (2 * d) + 1) * most ≤ 2 ^ 40) where
    shifted_short : shifted * s.few < 2 ^ 40
    shifted_short = omega (arith, mul-le-mul shifted_small s.fewer, suc-mul shifted s.few, s.some)

    pub product_fits : x / (2 * d) + 1 ≤ 2 ^ 24 → shifted * m < 2 ^ 64
    product_fits h =
        rw s.times
        (omega (arith, below (2 ^ 40) shifted s.few s.some shifted_short, ap (λ n. (n + 1) * 2 ^ 40) quotient, mul-le-mul_right (2 ^ 40) h))

    pub by_product : shifted * m / 2 ^ 40 ≡ x / (2 * d)
    by_product = rw s.times (reciprocal (2 ^ 40) shifted s.few s.some shifted_short ∙ quotient)

-- ---- the nearest quotient by a split divisor

module _ (a d shift m : ℕ) (s : Split 362 d shift m) (h : nearest a d ≤ 2 ^ 23 + 1) where
  -- it is that quotient
  near_small : (2 * a + d) / (2 * d) ≤ 2 ^ 23 + 1
  unfolding nearest
  near_small = h

  pub sum_fits : 2 * a + d < 2 ^ 59
  sum_fits = omega (arith, number_fits 362 (2 * a + d) d shift m s, near_small)

  pub near_exact : Exact (2 * a + d) d shift m
  near_exact = record { most = 362; few = omega arith; split = s; short = omega (arith, near_small); small = omega (arith, near_small) }

-- ---- a divisor split by how often 2 goes into it

module _ (d rest times : ℕ) (e : rest * 2 ^ times ≡ d) (p : 0 < d) where
  pub rest_some : 0 < rest
  rest_some = positive rest e
    where
      positive : (n : ℕ) → n * 2 ^ times ≡ d → 0 < n
      positive zero q = absurd (omega (arith, zero-mul (2 ^ times)))
      positive (suc n) q = omega arith

  few_times : (most : ℕ) → rest ≤ most → times ≤ 26 → Split most d (times + 1) (2 ^ 40 / rest + 1)
  few_times most h low =
      record {
        few = rest;
        some = rest_some;
        fewer = h;
        low = omega arith;
        whole = ap (λ k. 2 ^ k * rest) (add-one times) ∙ ap (λ z. z * rest) (pow-succ' 2 times) ∙ mul_assoc 2 (2 ^ times) rest ∙ ap (λ z. 2 * z) (mul_comm (2 ^ times) rest ∙ e);
        times = refl;
      }

  -- the reciprocal of so few
  pub split_few : (most : ℕ) → most ≤ 362 → rest ≤ most → times ≤ 26 → Split most d (times + 1) (reciprocal_of rest)
  split_few most l h low = rw (le-leb rest 362 (omega arith)) (few_times most h low)
