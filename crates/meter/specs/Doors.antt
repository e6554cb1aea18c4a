-- The doors of judging and of the campaign's calls: the record crosses as its order, taps, capacity and edition and three lent tables, `days` of 366, `slots` of 64
-- and `periods` of 64, and each door is the call's own outcome function between them. At a start a shorter table is room too short, 6 in its place; at every other call
-- it is refused with 15, before the call's checks. Either way nothing is touched; a longer table keeps its tail. Assumes nothing.
use Rattle.std.specs.Prelude.{List, [], ◌∷◌, ◌++◌, Bool, cond, not, ◌||◌, ℕ, ◌*◌, eqb, ltb, ℤ, length, take, Result}
use Rattle.sums.specs.Lists.{put}
use Rattle.sums.specs.Refusals.{outcome, Meaning, accepts, refuses, meant}
use Rattle.refusals.specs.Causes.{means}
use Rattle.register.specs.Register.{P}
use Rattle.register.specs.Calls.{taps_checks}
use Rattle.samples.specs.Samples.{cleared_wide}
use Rattle.nights.specs.declared.Night.{Night}
use Rattle.judging.specs.Judging.{judging}
use Rattle.judging.specs.declared.Judged.{Judged}
use Rattle.judging.specs.declared.Judged.TheVariants as judged
use Rattle.records.specs.Record.{standing, overloaded, dead, fresh}
use Rattle.records.specs.declared.Campaign.{Campaign}
use Rattle.campaign.specs.Calls.{Shown}
use Rattle.campaign.specs.declared.Entered.{Entered}
use Rattle.campaign.specs.Calls.{Withdrawn}
use Rattle.campaign.specs.Calls.{slots_out, edition_out, file_outcome, shown_to, withdraw_outcome, verdict_means, verdict_number}
use Rattle.trend.specs.declared.Tally.{Tally}
use Rattle.trend.specs.declared.Levels.{Levels}
use Rattle.trend.specs.declared.Summary.{Summary}
use Rattle.trend.specs.Calls.{counts_outcome, response_outcome, summary_outcome, summary_means, summary_number}

-- ---- the record

-- a table is short of 366 days or 64 slots
abbrev pub tables_short : List ℕ → List ℕ → List ℕ → Bool
tables_short days slots periods = ltb (length days) 366 || (ltb (length slots) 64 || ltb (length periods) 64)

-- the record that the caller lends
abbrev pub record_of : ℕ → ℕ → ℕ → ℕ → List ℕ → List ℕ → List ℕ → Campaign
record_of N taps C E days slots periods =
    record { order = N; taps = taps; capacity = C; edition = E; days = take 366 days; slots = take 64 slots; periods = take 64 periods }

-- 15: a door behind that check
abbrev pub behind : {A : Type 0} → List ℕ → List ℕ → List ℕ → (ℕ → A) → A → A
behind days slots periods refused opened = outcome ((15, tables_short days slots periods) ∷ []) refused opened

-- ---- start: 1, 2, 3, 4, 9, 24, 6; the answer, the tables, the store and the sums

abbrev pub start_door_checks : ℕ → ℕ → ℕ → ℕ → List ℕ → List ℕ → List ℕ → List ℤ → List ℤ → List (ℕ × Bool)
start_door_checks N taps C E days slots periods store sums =
    taps_checks N taps
    ++ (9, slots_out C)
    ∷ (24, edition_out E)
    ∷ (6, tables_short days slots periods || (ltb (length store) (C * P N) || ltb (length sums) (P N)))
    ∷ []

unfoldable pub start_door : ℕ → ℕ → ℕ → ℕ → List ℕ → List ℕ → List ℕ → List ℤ → List ℤ → ℕ × List ℕ × List ℕ × List ℕ × List ℤ × List ℤ
start_door N taps C E days slots periods store sums =
    outcome (start_door_checks N taps C E days slots periods store sums) (λ n. (n, days, slots, periods, store, sums)) (
      0,
      put (fresh N taps C E).days days,
      put (fresh N taps C E).slots slots,
      put (fresh N taps C E).periods periods,
      cleared_wide (C * P N) store,
      cleared_wide (P N) sums,
    )

-- ---- judge, of either kind of night: the answer, the state that the verdict would give the day, and its place

-- kept has no slot, so that its value is 0
abbrev pub judged_means : Judged → Meaning (ℕ × ℕ)
judged_means judged.Kept = accepts (standing, 0)
judged_means (judged.Overloaded p) = accepts (overloaded, p)
judged_means judged.Dead = accepts (dead, 0)
judged_means (judged.Refused n) = refuses n

abbrev pub judged_out : ℕ → ℕ → Judged → ℕ × ℕ × ℕ
judged_out state value v = ((judged_means v).0, ((judged_means v).1 (state, value)).0, ((judged_means v).1 (state, value)).1)

abbrev pub judge_door : ℕ → ℕ → Night → List ℤ → ℕ → ℕ → ℕ × ℕ × ℕ
judge_door N taps night y state value = judged_out state value (judging N taps night y)

-- ---- file and enter, of either kind of night: and the verdict

-- the verdict that comes back as such a pair; one that says none is 23
abbrev pub pair_says : ℕ → ℕ → Judged
pair_says q v = cond (eqb q overloaded) (judged.Overloaded v)
    (cond (not (eqb v 0)) (judged.Refused 23) (cond (eqb q standing) judged.Kept (cond (eqb q dead) judged.Dead (judged.Refused 23))))

abbrev pub entered_out : List ℕ → List ℕ → List ℕ → ℕ → ℕ → Entered × List ℤ × List ℤ → ℕ × List ℕ × List ℕ × List ℕ × List ℤ × List ℤ × ℕ × ℕ
entered_out days slots periods state value (e, store, sums) = (
  verdict_number e.entry.verdict,
  put e.campaign.days days,
  put e.campaign.slots slots,
  put e.campaign.periods periods,
  store,
  sums,
  ((verdict_means e.entry.verdict).1 (state, value)).0,
  ((verdict_means e.entry.verdict).1 (state, value)).1,
)

unfoldable pub file_door : ℕ → ℕ → ℕ → ℕ → List ℕ → List ℕ → List ℕ → List ℤ → List ℤ → ℕ → Night → List ℤ → Shown → ℕ → ℕ → ℕ × List ℕ × List ℕ × List ℕ × List ℤ × List ℤ × ℕ × ℕ
file_door N taps C E days slots periods store sums d night y s state value =
    let c = record_of N taps C E days slots periods in
    behind days slots periods (λ n. (n, days, slots, periods, store, sums, state, value))
    (entered_out days slots periods state value (file_outcome c store sums d night y (shown_to c night y s)))

-- ---- withdraw

abbrev pub withdrawn_out : List ℕ → List ℕ → List ℕ → Withdrawn × List ℤ × List ℤ → ℕ × List ℕ × List ℕ × List ℕ × List ℤ × List ℤ
withdrawn_out days slots periods (w, store, sums) = (
  w.answer,
  put w.campaign.days days,
  put w.campaign.slots slots,
  put w.campaign.periods periods,
  store,
  sums,
)

unfoldable pub withdraw_door : ℕ → ℕ → ℕ → ℕ → List ℕ → List ℕ → List ℕ → List ℤ → List ℤ → ℕ → ℕ × List ℕ × List ℕ × List ℕ × List ℤ × List ℤ
withdraw_door N taps C E days slots periods store sums d =
    behind days slots periods (λ n. (n, days, slots, periods, store, sums))
    (withdrawn_out days slots periods (withdraw_outcome (record_of N taps C E days slots periods) store sums d))

-- ---- counts: the answer and the days in each state

abbrev pub counted_out : Tally → Result Tally ℕ → ℕ × Tally
counted_out was c = meant was (means c)

unfoldable pub counts_door : ℕ → ℕ → ℕ → ℕ → List ℕ → List ℕ → List ℕ → List ℤ → List ℤ → Tally → ℕ × Tally
counts_door N taps C E days slots periods store sums was =
    behind days slots periods (λ n. (n, was)) (counted_out was (counts_outcome (record_of N taps C E days slots periods) store sums))

-- ---- response: the answer, r, the mean, the wide room and the tags

unfoldable pub response_door : ℕ → ℕ → ℕ → ℕ → List ℕ → List ℕ → List ℕ → List ℤ → List ℤ → List ℤ → List ℤ → List ℤ → List ℕ → ℕ × List ℤ × List ℤ × List ℤ × List ℕ
response_door N taps C E days slots periods store sums r mean room tags =
    behind days slots periods (λ n. (n, r, mean, room, tags))
    (response_outcome (record_of N taps C E days slots periods) store sums r mean room tags)

-- ---- summary: the answer, the wide room and the tags, whether some day stands, and the levels, which are written where one does

abbrev pub summed_out : ℕ → Levels → Summary × List ℤ × List ℕ → ℕ × List ℤ × List ℕ × ℕ × Levels
summed_out stood was (s, room, tags) = (summary_number s, room, tags, ((summary_means s).1 (stood, was)).0, ((summary_means s).1 (stood, was)).1)

unfoldable pub summary_door : ℕ → ℕ → ℕ → ℕ → List ℕ → List ℕ → List ℕ → List ℤ → List ℤ → List ℤ → List ℕ → ℕ → Levels → ℕ × List ℤ × List ℕ × ℕ × Levels
summary_door N taps C E days slots periods store sums room tags stood was =
    behind days slots periods (λ n. (n, room, tags, stood, was))
    (summed_out stood was (summary_outcome (record_of N taps C E days slots periods) store sums room tags))
