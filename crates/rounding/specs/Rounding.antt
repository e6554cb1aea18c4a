-- Document 01, "The campaign", and document 02, request 9: a quotient rounded to nearest, its exact halves as an edition of the report rules has them.
-- Assumes nothing.
use Rattle.std.specs.Prelude.{Bool, cond, ◌&&◌, ◌||◌, ℕ, suc, ◌+◌, ◌-◌, ◌*◌, ◌/◌, ◌%◌, eqb, ℤ, pos, negsuc, neg_ℤ}

-- ---- the editions

-- 1: halves away from zero; 2: halves to the even neighbour
abbrev pub away_from_zero : ℕ
away_from_zero = 1

abbrev pub to_even : ℕ
to_even = 2

abbrev pub is_edition : ℕ → Bool
is_edition e = eqb e away_from_zero || eqb e to_even

-- ---- of two natural numbers

-- a half goes up
unfoldable pub nearest : ℕ → ℕ → ℕ
nearest a d = (2 * a + d) / (2 * d)

-- a / d is a whole number and a half
abbrev pub halfway : ℕ → ℕ → Bool
halfway a d = eqb (2 * (a % d)) d

-- the even one of n and the number below it
abbrev pub even_of : ℕ → ℕ
even_of n = n - n % 2

-- in edition 2 a half, which went up to n, goes to its even neighbour
abbrev pub settled : ℕ → Bool → ℕ → ℕ
settled e half n = cond (eqb e to_even && half) (even_of n) n

unfoldable pub nearest_in : ℕ → ℕ → ℕ → ℕ
nearest_in e a d = settled e (halfway a d) (nearest a d)

-- ---- of an integer and a natural number: the magnitude is rounded, and the sign kept

abbrev pub rounded : ℕ → ℤ → ℕ → ℤ
rounded e (pos a) d = pos (nearest_in e a d)
rounded e (negsuc a) d = neg_ℤ (pos (nearest_in e (suc a) d))
