-- Document 02, request 10: sequence, one recording and prediction, each by one function from all that is handed in to all that is handed back. 25 stands in the
-- place of 1 to 4; then 5, 6, 7 and 8 are as they stand, with p in P's place. Assumes nothing.
use Rattle.std.specs.Prelude.{List, [], ◌∷◌, ◌++◌, Bool, not, ℕ, ltb, ℤ, length}
use Rattle.sums.specs.Lists.{at, table, put}
use Rattle.sums.specs.Refusals.{outcome}
use Rattle.samples.specs.Samples.{length_off, some_out, sample_checks}
use Rattle.response.specs.Response.{response, prediction}
use Rattle.legendre.specs.Legendre.{offered, bit, wave}

-- 25: another period than those offered
abbrev pub not_offered : ℕ → Bool
not_offered p = not (offered p)

-- 6: an output of p too short
abbrev pub too_short : ℕ → ℕ → Bool
too_short p len = ltb len p

-- ---- sequence: 25, 6; the answer and the output

abbrev pub sequence_checks : ℕ → List ℕ → List (ℕ × Bool)
sequence_checks p out = (25, not_offered p) ∷ (6, too_short p (length out)) ∷ []

unfoldable pub sequence_outcome : ℕ → List ℕ → ℕ × List ℕ
sequence_outcome p out = outcome (sequence_checks p out) (λ n. (n, out)) (0, put (table p (bit p)) out)

-- ---- one recording: 25, 5, 6, 7; the answer and the output

-- 25 and 5: of the period, and the recording or response handed in
abbrev pub given_checks : ℕ → List ℤ → List (ℕ × Bool)
given_checks p y = (25, not_offered p) ∷ (5, length_off p y) ∷ []

-- and 6 and 7, with an output of so many places
abbrev pub measuring_checks : ℕ → List ℤ → ℕ → List (ℕ × Bool)
measuring_checks p y places = sample_checks (given_checks p y) y (too_short p places) []

abbrev pub recording_checks : ℕ → List ℤ → List ℤ → List (ℕ × Bool)
recording_checks p y out = measuring_checks p y (length out)

-- r(0) to r(p-1), of the sequence's own signal
abbrev pub turned : ℕ → List ℤ → List ℤ
turned p y = table p (response p (wave p) (at y))

unfoldable pub recording_outcome : ℕ → List ℤ → List ℤ → ℕ × List ℤ
recording_outcome p y out = outcome (recording_checks p y out) (λ n. (n, out)) (0, put (turned p y) out)

-- ---- prediction: 25, 5, 6, 7, 8; the answer and the output

-- y(j), of the sequence's own signal
abbrev pub predicted : ℕ → List ℤ → ℕ → ℤ
predicted p h = prediction p (wave p) (at h)

-- 8: a predicted sample outside the sample range
abbrev pub eighth : ℕ → List ℤ → List (ℕ × Bool)
eighth p h = (8, some_out p (predicted p h)) ∷ []

abbrev pub prediction_checks : ℕ → List ℤ → List ℤ → List (ℕ × Bool)
prediction_checks p h out = measuring_checks p h (length out) ++ eighth p h

unfoldable pub prediction_outcome : ℕ → List ℤ → List ℤ → ℕ × List ℤ
prediction_outcome p h out = outcome (prediction_checks p h out) (λ n. (n, out)) (0, put (table p (predicted p h)) out)

-- what is left of it once 25 to 7 are passed
abbrev pub eighth_outcome : ℕ → List ℤ → List ℤ → ℕ × List ℤ
eighth_outcome p h out = outcome (eighth p h) (λ n. (n, out)) (0, put (table p (predicted p h)) out)
