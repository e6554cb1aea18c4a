-- One recording, by one function from all that is handed in to all that is handed back: document 01, "Response and prediction", "Order of
-- checks" and "Room", and document 02, request 7. Assumes nothing.
use Rattle.std.specs.Prelude.{List, [], ◌∷◌, ◌++◌, Bool, ℕ, ◌+◌, ℤ, length}
use Rattle.sums.specs.Lists.{at, table, put}
use Rattle.sums.specs.Refusals.{outcome}
use Rattle.samples.specs.Samples.{length_off, some_out, room_short, cleared_wide, cleared_tags}
use Rattle.register.specs.Register.{P, wave}
use Rattle.register.specs.Calls.{taps_checks}
use Rattle.response.specs.Response.{response}

-- 1 to 5: of the order, the taps, and the recording or response handed in
abbrev pub given_checks : ℕ → ℕ → List ℤ → List (ℕ × Bool)
given_checks N taps y = taps_checks N taps ++ (5, length_off (P N) y) ∷ []

-- and 6, by whether what is lent is too short, 7, and what a call checks after them
abbrev pub sample_checks : ℕ → ℕ → List ℤ → Bool → List (ℕ × Bool) → List (ℕ × Bool)
sample_checks N taps y short more = given_checks N taps y ++ (6, short) ∷ (7, some_out (length y) (at y)) ∷ more

-- ---- one recording: 1 to 7; the answer, the output, the wide room and the tags

abbrev pub recording_checks : ℕ → ℕ → List ℤ → List ℤ → List ℤ → List ℕ → List (ℕ × Bool)
recording_checks N taps y out room tags = sample_checks N taps y (room_short (P N) (length out) (length room) (length tags)) []

unfoldable pub recording_outcome : ℕ → ℕ → List ℤ → List ℤ → List ℤ → List ℕ → ℕ × List ℤ × List ℤ × List ℕ
recording_outcome N taps y out room tags =
    outcome (recording_checks N taps y out room tags) (λ n. (n, out, room, tags)) (
      0,
      put (table (P N) (response (P N) (wave N taps) (at y))) out,
      cleared_wide (P N + 1) room,
      cleared_tags (P N) tags,
    )
