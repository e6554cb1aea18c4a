-- The public calls of the register, each by one function from all that is handed in to all that is handed back: document 01, "Sequence
-- and register", "Refusal numbers" and "Order of checks". Assumes nothing.
use Rattle.std.specs.Prelude.{◌≡◌, List, [], ◌∷◌, ◌++◌, Bool, cond, not, ◌||◌, ℕ, ◌%◌, ◌^◌, eqb, ltb, leb, length}
use Rattle.sums.specs.Lists.{table, put}
use Rattle.sums.specs.Refusals.{first, outcome}
use Rattle.refusals.specs.declared.Answer.{Answer}
use Rattle.register.specs.Register.{P, bit, period, Shaped, Accepted}

-- ---- the causes, by their numbers

-- 1: order below 2 or above 16
abbrev pub order_out : ℕ → Bool
order_out N = ltb N 2 || ltb 16 N

-- 2: taps not below 2^N
abbrev pub taps_out : ℕ → ℕ → Bool
taps_out N taps = leb (2 ^ N) taps

-- 3: tap 0 clear
abbrev pub tap_clear : ℕ → Bool
tap_clear taps = eqb (taps % 2) 0

-- 4: register not maximal
abbrev pub not_maximal : ℕ → ℕ → Bool
not_maximal N taps = not (eqb (period N taps) (P N))

-- 6: room for P too short
abbrev pub too_short : ℕ → ℕ → Bool
too_short N len = ltb len (P N)

-- ---- what is told beside an answer's number n

-- the number of steps after which the register first returns to all ones, where it is accepted and where 4 refuses it; at any other refusal none is
-- told, and what was there stays
abbrev pub told : ℕ → ℕ → ℕ → ℕ → ℕ
told N taps n was = cond (eqb n 0 || eqb n 4) (period N taps) was

-- the answer with the number n, its period 0 where none is told
abbrev pub answer_of : ℕ → ℕ → ℕ → Answer
answer_of N taps n = record { number = n; period = told N taps n 0 }

-- what such a number says of the register: it is accepted, or refusals 1, 2 and 3 leave it
pub record Reached (N taps n : ℕ) : Type 0 where
  pub accepted : n ≡ 0 → Accepted N taps
  pub shaped : n ≡ 4 → Shaped N taps

-- ---- taps check: 1, 2, 3, 4

abbrev pub shape_checks : ℕ → ℕ → List (ℕ × Bool)
shape_checks N taps = (1, order_out N) ∷ (2, taps_out N taps) ∷ (3, tap_clear taps) ∷ []

abbrev pub taps_checks : ℕ → ℕ → List (ℕ × Bool)
taps_checks N taps = shape_checks N taps ++ (4, not_maximal N taps) ∷ []

unfoldable pub taps_answer : ℕ → ℕ → ℕ
taps_answer N taps = first (taps_checks N taps)

-- ---- sequence: 1, 2, 3, 4, 6; the answer, and the output

abbrev pub sequence_checks : ℕ → ℕ → List ℕ → List (ℕ × Bool)
sequence_checks N taps out = taps_checks N taps ++ (6, too_short N (length out)) ∷ []

unfoldable pub sequence_outcome : ℕ → ℕ → List ℕ → ℕ × List ℕ
sequence_outcome N taps out = outcome (sequence_checks N taps out) (λ n. (n, out)) (0, put (table (P N) (bit N taps)) out)
