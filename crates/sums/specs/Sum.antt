-- Finite sums. Assumes nothing.
use Rattle.std.specs.Prelude.{ℕ, zero, suc, ◌+◌, cond, eqb, ℤ, pos, neg_ℤ, ◌+ℤ◌}

-- f 0 + … + f (n - 1), of integers
unfoldable pub sum : ℕ → (ℕ → ℤ) → ℤ
sum zero f = pos 0
sum (suc n) f = sum n f +ℤ f n

-- the same of naturals
unfoldable pub total : ℕ → (ℕ → ℕ) → ℕ
total zero f = 0
total (suc n) f = total n f + f n

-- 1 at j = k, and 0 elsewhere
unfoldable pub delta : ℕ → ℕ → ℤ
delta k j = cond (eqb j k) (pos 1) (pos 0)

-- (-1) ^ n: of a bit s, 1 - 2·s
unfoldable pub sign : ℕ → ℤ
sign zero = pos 1
sign (suc n) = neg_ℤ (sign n)
