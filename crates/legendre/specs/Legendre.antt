-- Document 02, request 10, and document 001: Legendre sequences. Assumes nothing.
use Rattle.std.specs.Prelude.{Bool, cond, List, [], ◌∷◌, ℕ, ◌*◌, ◌%◌, eqb, ℤ}
use Rattle.sums.specs.Sum.{sign}
use Rattle.sums.specs.Lists.{some, among}

-- the periods offered, exactly
abbrev pub periods : List ℕ
periods = 7 ∷ 11 ∷ 19 ∷ 23 ∷ 31 ∷ 43 ∷ 47 ∷ 59 ∷ 67 ∷ 71 ∷ 79 ∷ 83 ∷ 103 ∷ 107 ∷ 127 ∷ []

unfoldable pub offered : ℕ → Bool
offered p = among p periods

-- whether n is a square modulo p
abbrev pub square : ℕ → ℕ → Bool
square p n = some p (λ i. eqb (i * i % p) n)

-- s(n): 1 at place 0, 0 where n is a square, 1 elsewhere
unfoldable pub bit : ℕ → ℕ → ℕ
bit p n = cond (eqb n 0) 1 (cond (square p n) 0 1)

-- x(n) = 1 - 2·s(n): -1 at place 0, 1 where n is a square, -1 elsewhere
unfoldable pub wave : ℕ → ℕ → ℤ
wave p n = sign (bit p n)
