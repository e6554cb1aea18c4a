-- A divisor that is few times a power of two: a quotient by it is a shift, and a product by the reciprocal of the few. As the contracts of the
-- rounding's own functions cite it; no public call's does. Assumes nothing.
use Rattle.std.specs.Prelude.{◌≡◌, cond, ℕ, ◌+◌, ◌*◌, ◌/◌, ◌^◌, ◌≤◌, ◌<◌, leb, ℤ, pos, negsuc, neg_ℤ, ◌+ℤ◌, ◌*ℤ◌}

-- 2·d is 2^shift times a few, at most so many, and m is what a quotient by them is a product by, less 40 bits
pub record Split (most d shift m : ℕ) : Type 0 where
  pub few : ℕ
  pub some : 0 < few
  pub fewer : few ≤ most
  pub low : shift ≤ 27
  pub whole : 2 ^ shift * few ≡ 2 * d
  pub times : m ≡ 2 ^ 40 / few + 1

-- by such a product a quotient of x is exact, and the product fits 64 bits
pub record Exact (x d shift m : ℕ) : Type 0 where
  pub most : ℕ
  pub few : most ≤ 362
  pub split : Split most d shift m
  pub short : most * (x / (2 * d) + 1) * most ≤ 2 ^ 40
  pub small : x / (2 * d) + 1 ≤ 2 ^ 24

-- 2^40 over this many, and one more; 0 where they are too many
abbrev pub reciprocal : ℕ → ℕ
reciprocal rest = cond (leb rest 362) (2 ^ 40 / rest + 1) 0

-- n with the sign of z
abbrev pub with_sign : ℤ → ℕ → ℤ
with_sign (pos a) n = pos n
with_sign (negsuc a) n = neg_ℤ (pos n)

-- 2·z and a half of 2·d, raised by 2^23 times 2·d
abbrev pub raised_by : ℤ → ℕ → ℤ
raised_by z d = pos 2 *ℤ z +ℤ pos (16777217 * d)
