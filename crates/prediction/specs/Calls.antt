-- A prediction, in a room of its own and in a lent one, each by one function from all that is handed in to all that is handed back: document
-- 01, "Response and prediction", "Order of checks" and "Room". Assumes nothing.
use Rattle.std.specs.Prelude.{List, [], ◌∷◌, Bool, ℕ, ◌+◌, ltb, ℤ, length}
use Rattle.sums.specs.Lists.{at, table, put}
use Rattle.sums.specs.Refusals.{outcome}
use Rattle.samples.specs.Samples.{some_out, lent_short, cleared_wide}
use Rattle.register.specs.Register.{P, wave}
use Rattle.response.specs.Response.{prediction}
use Rattle.response.specs.Calls.{sample_checks}

-- ---- prediction: 1 to 8; the answer and the output

-- y(j), of the register's own signal
abbrev pub predicted : ℕ → ℕ → List ℤ → ℕ → ℤ
predicted N taps h = prediction (P N) (wave N taps) (at h)

-- 8: a predicted sample outside the sample range
abbrev pub eighth : ℕ → ℕ → List ℤ → List (ℕ × Bool)
eighth N taps h = (8, some_out (P N) (predicted N taps h)) ∷ []

-- all eight, by whether what is lent is too short
abbrev pub foretelling_checks : ℕ → ℕ → List ℤ → Bool → List (ℕ × Bool)
foretelling_checks N taps h short = sample_checks N taps h short (eighth N taps h)

abbrev pub prediction_checks : ℕ → ℕ → List ℤ → List ℤ → List (ℕ × Bool)
prediction_checks N taps h out = foretelling_checks N taps h (ltb (length out) (P N))

-- the samples, in the place of the output's first P
abbrev pub foretold : ℕ → ℕ → List ℤ → List ℤ → List ℤ
foretold N taps h out = put (table (P N) (predicted N taps h)) out

unfoldable pub prediction_outcome : ℕ → ℕ → List ℤ → List ℤ → ℕ × List ℤ
prediction_outcome N taps h out = outcome (prediction_checks N taps h out) (λ n. (n, out)) (0, foretold N taps h out)

-- what is left of it once 1 to 7 are passed
abbrev pub eighth_outcome : ℕ → ℕ → List ℤ → List ℤ → ℕ × List ℤ
eighth_outcome N taps h out = outcome (eighth N taps h) (λ n. (n, out)) (0, foretold N taps h out)

-- ---- the same in a lent room of P+1 wide numbers, 6 also where that is too short; the answer, the output and the room

abbrev pub roomed_checks : ℕ → ℕ → List ℤ → List ℤ → List ℤ → List (ℕ × Bool)
roomed_checks N taps h out room = foretelling_checks N taps h (lent_short (P N) (length out) (length room))

unfoldable pub roomed_outcome : ℕ → ℕ → List ℤ → List ℤ → List ℤ → ℕ × List ℤ × List ℤ
roomed_outcome N taps h out room =
    outcome (roomed_checks N taps h out room) (λ n. (n, out, room)) (0, foretold N taps h out, cleared_wide (P N + 1) room)

-- what is left of it once 1 to 7 are passed
abbrev pub eighth_in_room : ℕ → ℕ → List ℤ → List ℤ → List ℤ → ℕ × List ℤ × List ℤ
eighth_in_room N taps h out room =
    outcome (eighth N taps h) (λ n. (n, out, room)) (0, foretold N taps h out, cleared_wide (P N + 1) room)
