-- Document 02, request 8: what starts d places late, so that place j holds what place j + d held, modulo P. Assumes nothing.
use Rattle.std.specs.Prelude.{List, ℕ, ◌+◌, ◌*◌, ◌/◌, ◌%◌, ℤ, length}
use Rattle.sums.specs.Lists.{at, table}

-- f of P places, turned by d
abbrev pub turned : {A : Type 0} → ℕ → ℕ → (ℕ → A) → ℕ → A
turned P d f j = f ((j + d) % P)

-- the place d further on than place j in the same period of P, modulo P
abbrev pub onward : ℕ → ℕ → ℕ → ℕ
onward P d j = j / P * P + (j % P + d) % P

-- a recording of whole periods that starts d places late: each of its periods is turned by d
unfoldable pub late : ℕ → ℕ → List ℤ → List ℤ
late P d y = table (length y) (λ j. at y (onward P d j))
