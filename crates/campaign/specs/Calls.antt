-- The calls that change a campaign, each by one function from all that is handed in to all that is handed back: document 01, "The campaign",
-- "Refusal numbers", "Order of checks" and "Room", and document 02, requests 1, 5 and 9. Assumes nothing.
use Rattle.std.specs.Prelude.{List, [], ◌∷◌, ◌++◌, Bool, true, false, not, ◌&&◌, ◌||◌, ℕ, ◌*◌, eqb, ltb, ℤ, pos, ◌+ℤ◌, ◌-ℤ◌, length, Option, None, Some}
use Rattle.sums.specs.Lists.{at, table, put, put_at, seek}
use Rattle.sums.specs.Refusals.{outcome, Meaning, accepts, refuses}
use Rattle.refusals.specs.Causes.{answer, said}
use Rattle.refusals.specs.declared.Answer.{Answer}
use Rattle.register.specs.Register.{P}
use Rattle.register.specs.Calls.{taps_checks, answer_of}
use Rattle.samples.specs.Samples.{cleared_wide}
use Rattle.rounding.specs.Rounding.{is_edition}
use Rattle.finding.specs.Finding.{finding}
use Rattle.nights.specs.Nights.{periods_of, settled, term}
use Rattle.nights.specs.declared.Night.{Night}
use Rattle.finding.specs.declared.Finding.{Finding}
use Rattle.finding.specs.declared.Finding.TheVariants as found
use Rattle.judging.specs.Judging.{night_checks, judging, same}
use Rattle.judging.specs.declared.Judged.{Judged}
use Rattle.records.specs.Record.{standing, overloaded, dead, withdrawn, stands, days_in, slot, free, base, sample, apart, fresh, marked, filed}
use Rattle.records.specs.declared.Campaign.{Campaign}
use Rattle.campaign.specs.declared.Started as start_code
use Rattle.campaign.specs.declared.Verdict.{Verdict}
use Rattle.campaign.specs.declared.Verdict.TheVariants as verdict
use Rattle.campaign.specs.declared.Entered.{Entered}
use Rattle.campaign.specs.declared.Withdrawn as withdraw_code

-- ---- the causes

-- 9: slot count not 1 to 64
abbrev pub slots_out : ℕ → Bool
slots_out C = ltb C 1 || ltb 64 C

-- 24: an edition other than 1 or 2
abbrev pub edition_out : ℕ → Bool
edition_out E = not (is_edition E)

-- 10: day not 1 to 366
abbrev pub day_out : ℕ → Bool
day_out d = ltb d 1 || ltb 366 d

-- 15, 10: of every call that names a day but a start
abbrev pub day_checks : Campaign → List ℤ → List ℤ → ℕ → List (ℕ × Bool)
day_checks c store sums d = (15, apart c store sums) ∷ (10, day_out d) ∷ []

-- ---- start: 1, 2, 3, 4, 9, 24, 6; the answer, told with the period, with the record, the store and the sums

abbrev pub start_checks : ℕ → ℕ → ℕ → ℕ → List ℤ → List ℤ → List (ℕ × Bool)
start_checks N taps C E store sums =
    taps_checks N taps ++ (9, slots_out C) ∷ (24, edition_out E) ∷ (6, ltb (length store) (C * P N) || ltb (length sums) (P N)) ∷ []

pub record Started : Type 0 where
  pub answer : Answer
  pub campaign : Campaign

abbrev pub started_as : start_code.Started → Started
started_as s = record { answer = said s.answer; campaign = s.campaign }

unfoldable pub start_outcome : Campaign → ℕ → ℕ → ℕ → ℕ → List ℤ → List ℤ → Started × List ℤ × List ℤ
start_outcome c N taps C E store sums =
    outcome (start_checks N taps C E store sums) (λ n. (record { answer = answer_of N taps n; campaign = c }, store, sums)) (
      record { answer = answer_of N taps 0; campaign = fresh N taps C E },
      cleared_wide (C * P N) store,
      cleared_wide (P N) sums,
    )

-- ---- file: 15, 10, 18, 5, 7, 11, 23, verdict, 12; the entry with the record, the store and the sums

-- the record, the day and the night; and then whether the day stands
abbrev pub given_checks : Campaign → List ℤ → List ℤ → ℕ → Night → List ℤ → List (ℕ × Bool)
given_checks c store sums d night y = day_checks c store sums d ++ night_checks c.order night y

abbrev pub enter_checks : Campaign → List ℤ → List ℤ → ℕ → Night → List ℤ → List (ℕ × Bool)
enter_checks c store sums d night y = given_checks c store sums d night y ++ (11, stands c d) ∷ []

-- the samples after the run-in, which are judged, and the sum of their periods, which is kept
abbrev pub settled_of : Campaign → Night → List ℤ → List ℤ
settled_of c night y = settled (P c.order) night y

abbrev pub term_of : Campaign → Night → List ℤ → List ℤ
term_of c night y = term (P c.order) (periods_of night) (settled_of c night y)

-- 12, after the verdict: it is kept and C days stand
abbrev pub keeps : Finding → Bool
keeps (found.Overloaded p) = false
keeps found.Dead = false
keeps found.Kept = true

abbrev pub full_checks : Campaign → Night → List ℤ → List (ℕ × Bool)
full_checks c night y = (12, keeps (finding (settled_of c night y)) && eqb (days_in c standing) c.capacity) ∷ []

-- what judging gives for that recording
abbrev pub judged_for : Campaign → Night → List ℤ → Judged
judged_for c night y = judging c.order c.taps night y

-- 23: the verdict v handed to filing is not that
abbrev pub file_checks : Campaign → List ℤ → List ℤ → ℕ → Night → List ℤ → Judged → List (ℕ × Bool)
file_checks c store sums d night y v = enter_checks c store sums d night y ++ (23, not (same v (judged_for c night y))) ∷ []

abbrev pub entered : Campaign → ℕ → Verdict → Entered
entered c d v = record { entry = record { day = d; verdict = v }; campaign = c }

-- the lowest-numbered free slot
abbrev pub lowest_free : Campaign → ℕ
lowest_free c = seek (free c) c.capacity 0

-- kept: the sum z of m periods goes to that slot and is added to the sums
abbrev pub kept_outcome : Campaign → List ℤ → List ℤ → ℕ → ℕ → List ℤ → Entered × List ℤ × List ℤ
kept_outcome c store sums d m z = (
  entered (filed c d standing (lowest_free c) d m) d (verdict.Kept (lowest_free c)),
  put_at (base c (lowest_free c)) z store,
  put (table (P c.order) (λ j. at sums j +ℤ at z j)) sums,
)

-- refused with 12 where C days stand
abbrev pub stayed_outcome : Campaign → List ℤ → List ℤ → ℕ → ℕ → List ℤ → Entered × List ℤ × List ℤ
stayed_outcome c store sums d m z =
    outcome ((12, eqb (days_in c standing) c.capacity) ∷ []) (λ n. (entered c d (verdict.Refused n), store, sums)) (kept_outcome c store sums d m z)

-- the verdict, by what those samples are found to be
abbrev pub found_outcome : Finding → Campaign → List ℤ → List ℤ → ℕ → ℕ → List ℤ → Entered × List ℤ × List ℤ
found_outcome (found.Overloaded p) c store sums d m z = (entered (marked c d overloaded) d (verdict.Overloaded p), store, sums)
found_outcome found.Dead c store sums d m z = (entered (marked c d dead) d verdict.Dead, store, sums)
found_outcome found.Kept c store sums d m z = stayed_outcome c store sums d m z

unfoldable pub file_outcome : Campaign → List ℤ → List ℤ → ℕ → Night → List ℤ → Judged → Entered × List ℤ × List ℤ
file_outcome c store sums d night y v =
    outcome (file_checks c store sums d night y v) (λ n. (entered c d (verdict.Refused n), store, sums))
    (found_outcome (finding (settled_of c night y)) c store sums d (periods_of night) (term_of c night y))

-- ---- enter: a filing with the verdict that judging gives

abbrev pub enter_outcome : Campaign → List ℤ → List ℤ → ℕ → Night → List ℤ → Entered × List ℤ × List ℤ
enter_outcome c store sums d night y = file_outcome c store sums d night y (judged_for c night y)

-- the verdict that a filing goes by: judging's own, or the one handed in
abbrev pub Shown : Type 0
Shown = Option Judged

abbrev pub own : Shown
own = None

abbrev pub handed : Judged → Shown
handed v = Some v

abbrev pub shown_as : Judged → Shown → Judged
shown_as w None = w
shown_as w (Some v) = v

abbrev pub shown_to : Campaign → Night → List ℤ → Shown → Judged
shown_to c night y s = shown_as (judged_for c night y) s

-- ---- of an accepted filing: the verdict of its finding, and the state that this gives the day

abbrev pub verdict_of : Campaign → Finding → Verdict
verdict_of c (found.Overloaded p) = verdict.Overloaded p
verdict_of c found.Dead = verdict.Dead
verdict_of c found.Kept = verdict.Kept (lowest_free c)

abbrev pub state_of : Finding → ℕ
state_of (found.Overloaded p) = overloaded
state_of found.Dead = dead
state_of found.Kept = standing

-- all checks of a filing, and of an entry, whose 23 never holds
abbrev pub file_all : Campaign → List ℤ → List ℤ → ℕ → Night → List ℤ → Judged → List (ℕ × Bool)
file_all c store sums d night y v = file_checks c store sums d night y v ++ full_checks c night y

abbrev pub enter_all : Campaign → List ℤ → List ℤ → ℕ → Night → List ℤ → List (ℕ × Bool)
enter_all c store sums d night y = enter_checks c store sums d night y ++ full_checks c night y

-- ---- withdraw: 15, 10, 13; the answer with the record, the store and the sums

abbrev pub withdraw_checks : Campaign → List ℤ → List ℤ → ℕ → List (ℕ × Bool)
withdraw_checks c store sums d = day_checks c store sums d ++ (13, not (stands c d)) ∷ []

abbrev pub slot_of_day : Campaign → ℕ → ℕ
slot_of_day c d = seek (λ s. eqb (slot c s) d) c.capacity 0

-- 0 or the refusal's number, and the record
pub record Withdrawn : Type 0 where
  pub answer : ℕ
  pub campaign : Campaign

abbrev pub withdrawn_as : withdraw_code.Withdrawn → Withdrawn
withdrawn_as w = record { answer = answer w.answer; campaign = w.campaign }

-- its samples leave the sums, its slot becomes free, with no periods, and holds zeros
abbrev pub withdrawn_outcome : Campaign → List ℤ → List ℤ → ℕ → Withdrawn × List ℤ × List ℤ
withdrawn_outcome c store sums d = (
  record { answer = 0; campaign = filed c d withdrawn (slot_of_day c d) 0 0 },
  put_at (base c (slot_of_day c d)) (table (P c.order) (λ _. pos 0)) store,
  put (table (P c.order) (λ j. at sums j -ℤ sample c store (slot_of_day c d) j)) sums,
)

unfoldable pub withdraw_outcome : Campaign → List ℤ → List ℤ → ℕ → Withdrawn × List ℤ × List ℤ
withdraw_outcome c store sums d =
    outcome (withdraw_checks c store sums d) (λ n. (record { answer = n; campaign = c }, store, sums)) (withdrawn_outcome c store sums d)

-- ---- this paper's number for each verdict, 0 where it is accepted, and its values

-- the state that it gives the day; and its slot, the first place at a rail, or 0
abbrev pub verdict_means : Verdict → Meaning (ℕ × ℕ)
verdict_means (verdict.Kept s) = accepts (standing, s)
verdict_means (verdict.Overloaded p) = accepts (overloaded, p)
verdict_means verdict.Dead = accepts (dead, 0)
verdict_means (verdict.Refused n) = refuses n

abbrev pub verdict_number : Verdict → ℕ
verdict_number v = (verdict_means v).0
