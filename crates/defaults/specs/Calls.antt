-- The default taps of an order: document 01, "Sequence and register", "Refusal numbers" and "Order of checks". Assumes nothing.
use Rattle.std.specs.Prelude.{List, [], ◌∷◌, cond, ℕ, Result, Ok, Err}
use Rattle.sums.specs.Lists.{among}
use Rattle.sums.specs.Refusals.{outcome}
use Rattle.register.specs.Calls.{order_out}

-- ---- default taps: 1

-- these orders take these taps
abbrev pub default_rows : List (List ℕ × ℕ)
default_rows =
    (2 ∷ 3 ∷ 4 ∷ 6 ∷ 7 ∷ 15 ∷ [], 3)
    ∷ (5 ∷ 11 ∷ [], 5)
    ∷ (8 ∷ [], 29)
    ∷ (9 ∷ [], 17)
    ∷ (10 ∷ [], 9)
    ∷ (12 ∷ [], 83)
    ∷ (13 ∷ [], 27)
    ∷ (14 ∷ [], 43)
    ∷ (16 ∷ [], 45)
    ∷ []

abbrev pub takes : List (List ℕ × ℕ) → ℕ → ℕ
takes [] N = 0
takes (row ∷ rows) N = cond (among N row.0) row.1 (takes rows N)

unfoldable pub default_outcome : ℕ → Result ℕ ℕ
default_outcome N = outcome ((1, order_out N) ∷ []) Err (Ok (takes default_rows N))
