-- Document 02, request 5: judging reads the recording and writes nothing. Its verdict says kept without a slot, overloaded with its place, dead, or
-- refused. Assumes nothing.
use Rattle.std.specs.Prelude.{List, [], ◌∷◌, ◌++◌, Bool, ◌&&◌, ℕ, eqb, ℤ, length, Result, Ok, Err}
use Rattle.sums.specs.Lists.{at}
use Rattle.sums.specs.Refusals.{outcome}
use Rattle.register.specs.Register.{P}
use Rattle.register.specs.Calls.{told, taps_checks}
use Rattle.samples.specs.Samples.{length_off, some_out}
use Rattle.finding.specs.Finding.{finding}
use Rattle.finding.specs.declared.Finding.{Finding}
use Rattle.finding.specs.declared.Finding.TheVariants as found
use Rattle.nights.specs.Nights.{periods_out, night_length, settled}
use Rattle.nights.specs.declared.Night.{Night}
use Rattle.judging.specs.declared.Judged.{Judged}
use Rattle.judging.specs.declared.Judged.TheVariants as judged
use Rattle.judging.specs.declared.Judgement.{Judgement}

-- ---- what is asked of a night

-- 18, 5, 7: its periods, its length, its samples
abbrev pub night_checks : ℕ → Night → List ℤ → List (ℕ × Bool)
night_checks N night y =
    (18, periods_out night)
    ∷ (5, length_off (night_length (P N) night) y)
    ∷ (7, some_out (length y) (at y))
    ∷ []

-- what its samples after the run-in are
abbrev pub found_in : ℕ → Night → List ℤ → Finding
found_in N night y = finding (settled (P N) night y)

-- the refusal of these, or that
abbrev pub heard_as : ℕ → Night → List ℤ → Result Finding ℕ
heard_as N night y = outcome (night_checks N night y) Err (Ok (found_in N night y))

-- ---- judge: 1, 2, 3, 4, 18, 5, 7; the verdict, and the period as every call tells it that can refuse with 4

abbrev pub judge_checks : ℕ → ℕ → Night → List ℤ → List (ℕ × Bool)
judge_checks N taps night y = taps_checks N taps ++ night_checks N night y

-- the verdict of a finding
abbrev pub judged_of : Finding → Judged
judged_of (found.Overloaded p) = judged.Overloaded p
judged_of found.Dead = judged.Dead
judged_of found.Kept = judged.Kept

unfoldable pub judge_outcome : ℕ → ℕ → Night → List ℤ → Judgement
judge_outcome N taps night y =
    outcome (judge_checks N taps night y) (λ n. record { verdict = judged.Refused n; period = told N taps n 0 })
    (record { verdict = judged_of (found_in N night y); period = told N taps 0 0 })

-- the verdict alone
abbrev pub judging : ℕ → ℕ → Night → List ℤ → Judged
judging N taps night y = (judge_outcome N taps night y).verdict

-- the number that a verdict answers: 0 is accepted
abbrev pub judged_number : Judged → ℕ
judged_number judged.Kept = 0
judged_number (judged.Overloaded p) = 0
judged_number judged.Dead = 0
judged_number (judged.Refused n) = n

-- ---- whether two verdicts are the same: in their case, and in the place or the refusal that it carries

abbrev pub case_of : Judged → ℕ
case_of judged.Kept = 0
case_of (judged.Overloaded p) = 1
case_of judged.Dead = 2
case_of (judged.Refused n) = 3

abbrev pub carried : Judged → ℕ
carried judged.Kept = 0
carried (judged.Overloaded p) = p
carried judged.Dead = 0
carried (judged.Refused n) = n

abbrev pub same : Judged → Judged → Bool
same v w = eqb (case_of v) (case_of w) && eqb (carried v) (carried w)
