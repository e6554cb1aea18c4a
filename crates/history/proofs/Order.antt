-- Document 01, "Order of checks", with document 02, requests 1, 5 and 10, call by call: the checks' numbers as they stand, and for each two neighbours an input to which both apply, with
-- its answer. Order 2, so that P is 3, and one slot. Default taps and counts have one check. Assumes nothing.
use mathlib.Core.Path.{◌≡◌, refl}
use mathlib.Core.List.{List, [], ◌∷◌, ◌++◌}
use Prim.Native.Nat.{ℕ}
use lib.Count.{ones}
use lib.IntN.{ℤ, pos}
use lib.ListN.{replicate}
use Rattle.sums.specs.Sum.{sum, total}
use Rattle.sums.specs.Lists.{seek, some, every, many, table, put, put_at}
use Rattle.sums.specs.Refusals.{numbers}
use Rattle.register.specs.Register.{dot, step, window, period}
use Rattle.register.specs.Calls.{taps_checks, taps_answer, sequence_checks, sequence_outcome, shape_checks}
use Rattle.player.specs.Calls.{step_checks, new_outcome, step_outcome, play_outcome}
use Rattle.refusals.specs.Causes.{result_number}
use Rattle.response.proofs.Order as response
use Rattle.prediction.proofs.Order as prediction
use Rattle.legendre.proofs.Order as legendre
use Rattle.finding.specs.Finding.{finding}
use Rattle.nights.specs.Nights.{term}
use Rattle.nights.specs.declared.Night.{Night}
use Rattle.nights.specs.declared.Night.TheVariants.{Period, Capture}
use Rattle.judging.specs.Judging.{judge_outcome}
use Rattle.judging.specs.declared.Judged.{Judged}
use Rattle.judging.specs.declared.Judged.TheVariants as judged
use Rattle.judging.proofs.Order as judging
use Rattle.rounding.specs.Rounding.{away_from_zero}
use Rattle.records.specs.Record.{standing, together, fresh, filed}
use Rattle.campaign.specs.Calls.{start_checks, start_outcome, enter_checks, file_checks, file_outcome, enter_outcome, withdraw_checks, withdraw_outcome}
use Rattle.trend.specs.Calls.{response_checks, response_outcome, summary_checks, summary_outcome, summary_number}
use Rattle.player.specs.declared.Player.{Player}
use Rattle.records.specs.declared.Campaign.{Campaign}
use Rattle.campaign.specs.declared.Verdict.{Verdict}
use Rattle.campaign.specs.declared.Verdict.TheVariants.{Kept, Overloaded, Dead, Refused}

-- ---- the calls that take order and taps

abbrev told : ℕ → ℕ → ℕ → ℕ
told N taps out = (sequence_outcome N taps (replicate out 9)).0

abbrev new : ℕ → ℕ → ℕ
new N taps = result_number (new_outcome N taps)

abbrev player : ℕ → ℕ → ℕ → Player
player N taps window = record { order = N; taps = taps; window = window; count = 0 }

-- a step and a block of one sign answer alike
abbrev stepped : ℕ → ℕ → ℕ → ℕ × ℕ
stepped N taps window = (result_number (step_outcome (player N taps window)).tick, (play_outcome (player N taps window) (pos 9 ∷ [])).0.answer)

pub record Registers : Type 0 where
  pub taps : (N taps : ℕ) → numbers (taps_checks N taps) ≡ 1 ∷ 2 ∷ 3 ∷ 4 ∷ []
  pub taps_1_2 : taps_answer 1 2 ≡ 1
  pub taps_2_3 : taps_answer 2 4 ≡ 2
  pub taps_3_4 : taps_answer 2 2 ≡ 3
  pub sequence : (N taps : ℕ) (out : List ℕ) → numbers (sequence_checks N taps out) ≡ 1 ∷ 2 ∷ 3 ∷ 4 ∷ 6 ∷ []
  pub sequence_1_2 : told 1 2 3 ≡ 1
  pub sequence_2_3 : told 2 4 3 ≡ 2
  pub sequence_3_4 : told 2 2 3 ≡ 3
  pub sequence_4_6 : told 2 1 2 ≡ 4
  pub new_player : (N taps : ℕ) → numbers (shape_checks N taps) ≡ 1 ∷ 2 ∷ 3 ∷ []
  pub new_1_2 : new 1 2 ≡ 1
  pub new_2_3 : new 2 4 ≡ 2
  pub step : (p : Player) → numbers (step_checks p) ≡ 1 ∷ 2 ∷ 3 ∷ 16 ∷ []
  pub step_1_2 : stepped 1 2 1 ≡ (1, 1)
  pub step_2_3 : stepped 2 4 1 ≡ (2, 2)
  pub step_3_16 : (stepped 2 2 0 ≡ (3, 3)) × (stepped 2 2 4 ≡ (3, 3))

pub registers : Registers
unfolding taps_answer sequence_outcome new_outcome step_outcome play_outcome period seek window step dot ones
registers =
    record {
      taps = λ N taps. refl;
      taps_1_2 = refl;
      taps_2_3 = refl;
      taps_3_4 = refl;
      sequence = λ N taps out. refl;
      sequence_1_2 = refl;
      sequence_2_3 = refl;
      sequence_3_4 = refl;
      sequence_4_6 = refl;
      new_player = λ N taps. refl;
      new_1_2 = refl;
      new_2_3 = refl;
      step = λ p. refl;
      step_1_2 = refl;
      step_2_3 = refl;
      step_3_16 = (refl, refl);
    }

-- ---- a campaign

abbrev started : ℕ → ℕ → ℕ → ℕ → ℕ → ℕ → ℕ
started N taps C E store sums = (start_outcome (fresh 2 3 1 away_from_zero) N taps C E (replicate store (pos 9)) (replicate sums (pos 9))).0.answer.number

-- zeros; a recording that may just stand; and one that is dead and not constant
abbrev zeros : List ℤ
zeros = replicate 3 (pos 0)

abbrev barely : List ℤ
barely = pos 8 ∷ pos 0 ∷ pos 0 ∷ []

abbrev dithers : List ℤ
dithers = pos 7 ∷ pos 0 ∷ pos 3 ∷ []

abbrev with : ℤ → List ℤ
with z = z ∷ pos 0 ∷ pos 0 ∷ []

-- an entry to a record of no days; to one that does not hold together, its sums being none; and to one whose only slot day 1 has
abbrev entry_to : Campaign → List ℤ → List ℤ → ℕ → Night → List ℤ → Verdict
entry_to c store sums d night y = (enter_outcome c store sums d night y).0.entry.verdict

abbrev empty : ℕ → Night → List ℤ → Verdict
empty = entry_to (fresh 2 3 1 away_from_zero) zeros zeros

abbrev apart : ℕ → Night → List ℤ → Verdict
apart = entry_to (fresh 2 3 1 away_from_zero) zeros barely

abbrev full : ℕ → Night → List ℤ → Verdict
full = entry_to (filed (fresh 2 3 1 away_from_zero) 1 standing 0 1 1) barely barely

-- a filing, handed a verdict, to the first and to the last of these
abbrev to_empty : ℕ → Night → List ℤ → Judged → Verdict
to_empty d night y v = (file_outcome (fresh 2 3 1 away_from_zero) zeros zeros d night y v).0.entry.verdict

abbrev to_full : ℕ → Night → List ℤ → Judged → Verdict
to_full d night y v = (file_outcome (filed (fresh 2 3 1 away_from_zero) 1 standing 0 1 1) barely barely d night y v).0.entry.verdict

-- the other calls on the first two, told by their sums
abbrev withdrew : List ℤ → ℕ → ℕ
withdrew sums d = (withdraw_outcome (fresh 2 3 1 away_from_zero) zeros sums d).0.answer

abbrev responded : List ℤ → ℕ → ℕ → ℕ → ℕ → ℕ
responded sums r mean room tags =
    (response_outcome (fresh 2 3 1 away_from_zero) zeros sums (replicate r (pos 9)) (replicate mean (pos 9)) (replicate room (pos 9)) (replicate tags 9)).0

abbrev summed : List ℤ → ℕ → ℕ → ℕ
summed sums room tags = summary_number (summary_outcome (fresh 2 3 1 away_from_zero) zeros sums (replicate room (pos 9)) (replicate tags 9)).0

pub record Campaigns : Type 0 where
  pub start : (N taps C E : ℕ) (store sums : List ℤ) → numbers (start_checks N taps C E store sums) ≡ 1 ∷ 2 ∷ 3 ∷ 4 ∷ 9 ∷ 24 ∷ 6 ∷ []
  pub start_1_2 : started 1 2 1 1 3 3 ≡ 1
  pub start_2_3 : started 2 4 1 1 3 3 ≡ 2
  pub start_3_4 : started 2 2 1 1 3 3 ≡ 3
  pub start_4_9 : started 2 1 0 1 3 3 ≡ 4
  pub start_9_24 : (started 2 3 65 0 3 3 ≡ 9) × (started 2 3 0 3 3 3 ≡ 9)
  pub start_24_6 : (started 2 3 1 0 2 3 ≡ 24) × (started 2 3 1 3 3 2 ≡ 24)
  pub start_6 : (started 2 3 1 1 2 3 ≡ 6) × (started 2 3 1 2 3 2 ≡ 6)
  pub enter : (c : Campaign) (store sums : List ℤ) (d : ℕ) (night : Night) (y : List ℤ)
      → numbers (enter_checks c store sums d night y) ≡ 15 ∷ 10 ∷ 18 ∷ 5 ∷ 7 ∷ 11 ∷ []
  pub enter_15_10 : apart 0 Period barely ≡ Refused 15
  pub enter_10_5 : empty 0 Period (pos 1 ∷ []) ≡ Refused 10
  pub enter_5_7 : empty 2 Period (pos 8388608 ∷ []) ≡ Refused 5
  pub enter_7_11 : full 1 Period (with (pos 8388608)) ≡ Refused 7
  pub enter_11_verdict : (full 1 Period (with (pos 8388607)) ≡ Refused 11) × (full 1 Period dithers ≡ Refused 11)
  pub overloaded-dead : (empty 2 Period (replicate 3 (pos 8388607)) ≡ Overloaded 0)
      × (empty 2 Period (pos 8388600 ∷ pos 8388607 ∷ pos 8388603 ∷ []) ≡ Overloaded 1)
  pub enter_verdict_12 : (full 2 Period (with (pos 8388607)) ≡ Overloaded 0) × (full 2 Period dithers ≡ Dead) × (full 2 Period barely ≡ Refused 12)
  -- of a capture
  pub capture_15_10 : apart 0 (Capture 17) barely ≡ Refused 15
  pub capture_10_18 : (empty 0 (Capture 0) barely ≡ Refused 10) × (empty 367 (Capture 17) barely ≡ Refused 10)
  pub capture_18_5 : (empty 2 (Capture 0) barely ≡ Refused 18) × (empty 2 (Capture 17) barely ≡ Refused 18)
  pub capture_5_7 : empty 2 (Capture 1) (with (pos 8388608)) ≡ Refused 5
  pub capture_7_11 : full 1 (Capture 1) (with (pos 8388608) ++ barely) ≡ Refused 7
  pub capture_11_verdict : (full 1 (Capture 1) (zeros ++ with (pos 8388607)) ≡ Refused 11) × (full 1 (Capture 1) (zeros ++ dithers) ≡ Refused 11)
  pub capture_verdict_12 : (full 2 (Capture 1) (zeros ++ with (pos 8388607)) ≡ Overloaded 0) × (full 2 (Capture 1) (zeros ++ dithers) ≡ Dead)
      × (full 2 (Capture 1) (zeros ++ barely) ≡ Refused 12)
  pub withdraw : (c : Campaign) (store sums : List ℤ) (d : ℕ) → numbers (withdraw_checks c store sums d) ≡ 15 ∷ 10 ∷ 13 ∷ []
  pub withdraw_15_10 : withdrew barely 0 ≡ 15
  pub withdraw_10_13 : withdrew zeros 0 ≡ 10
  pub response : (c : Campaign) (store sums r mean room : List ℤ) (tags : List ℕ)
      → numbers (response_checks c store sums r mean room tags) ≡ 15 ∷ 6 ∷ 14 ∷ []
  pub response_15_6 : responded barely 2 3 4 3 ≡ 15
  pub response_6_14 : (responded zeros 2 3 4 3 ≡ 6) × (responded zeros 3 2 4 3 ≡ 6) × (responded zeros 3 3 3 3 ≡ 6) × (responded zeros 3 3 4 2 ≡ 6)
  pub summary : (c : Campaign) (store sums room : List ℤ) (tags : List ℕ) → numbers (summary_checks c store sums room tags) ≡ 15 ∷ 6 ∷ []
  pub summary_15_6 : summed barely 3 3 ≡ 15
  pub summary_6_nothing : (summed zeros 3 3 ≡ 6) × (summed zeros 4 2 ≡ 6) × (summed zeros 4 3 ≡ 0)

pub campaigns : Campaigns
unfolding start_outcome file_outcome judge_outcome term finding withdraw_outcome response_outcome summary_outcome together taps_answer period seek some every many total sum table put put_at window step dot ones
campaigns =
    record {
      start = λ N taps C E store sums. refl;
      start_1_2 = refl;
      start_2_3 = refl;
      start_3_4 = refl;
      start_4_9 = refl;
      start_9_24 = (refl, refl);
      start_24_6 = (refl, refl);
      start_6 = (refl, refl);
      enter = λ c store sums d night y. refl;
      enter_15_10 = refl;
      enter_10_5 = refl;
      enter_5_7 = refl;
      enter_7_11 = refl;
      enter_11_verdict = (refl, refl);
      overloaded-dead = (refl, refl);
      enter_verdict_12 = (refl, refl, refl);
      capture_15_10 = refl;
      capture_10_18 = (refl, refl);
      capture_18_5 = (refl, refl);
      capture_5_7 = refl;
      capture_7_11 = refl;
      capture_11_verdict = (refl, refl);
      capture_verdict_12 = (refl, refl, refl);
      withdraw = λ c store sums d. refl;
      withdraw_15_10 = refl;
      withdraw_10_13 = refl;
      response = λ c store sums r mean room tags. refl;
      response_15_6 = refl;
      response_6_14 = (refl, refl, refl, refl);
      summary = λ c store sums room tags. refl;
      summary_15_6 = refl;
      summary_6_nothing = (refl, refl, refl);
    }

-- ---- a filing that is handed a verdict

pub record Filings : Type 0 where
  pub file : (c : Campaign) (store sums : List ℤ) (d : ℕ) (night : Night) (y : List ℤ) (v : Judged)
      → numbers (file_checks c store sums d night y v) ≡ 15 ∷ 10 ∷ 18 ∷ 5 ∷ 7 ∷ 11 ∷ 23 ∷ []
  pub file_11_23 : (to_full 1 Period barely judged.Dead ≡ Refused 11) × (to_full 1 (Capture 1) (zeros ++ dithers) judged.Kept ≡ Refused 11)
  pub file_23_12 : (to_full 2 Period barely judged.Dead ≡ Refused 23) × (to_full 2 (Capture 1) (zeros ++ barely) (judged.Overloaded 0) ≡ Refused 23)
      × (to_full 2 Period barely judged.Kept ≡ Refused 12)
  pub kept_for_dead : to_empty 2 Period dithers judged.Kept ≡ Refused 23
  pub dead_for_kept : to_empty 2 Period barely judged.Dead ≡ Refused 23
  pub other_place : (to_empty 2 Period (with (pos 8388607)) (judged.Overloaded 1) ≡ Refused 23)
      × (to_empty 2 (Capture 1) (zeros ++ with (pos 8388607)) (judged.Overloaded 3) ≡ Refused 23)
  pub refusal_shown : (to_empty 2 Period barely (judged.Refused 7) ≡ Refused 23) × (to_empty 2 Period dithers (judged.Refused 0) ≡ Refused 23)
  pub as_shown : (to_empty 2 Period barely judged.Kept ≡ Kept 0) × (to_empty 2 Period (with (pos 8388607)) (judged.Overloaded 0) ≡ Overloaded 0)
      × (to_empty 2 (Capture 1) (zeros ++ dithers) judged.Dead ≡ Dead)

pub filings : Filings
unfolding file_outcome judge_outcome term finding together taps_answer period seek some every many total sum table put put_at window step dot ones
filings =
    record {
      file = λ c store sums d night y v. refl;
      file_11_23 = (refl, refl);
      file_23_12 = (refl, refl, refl);
      kept_for_dead = refl;
      dead_for_kept = refl;
      other_place = (refl, refl);
      refusal_shown = (refl, refl);
      as_shown = (refl, refl, refl);
    }

-- ---- every call

pub record OrderOfChecks : Type 0 where
  pub registers : Registers
  pub recordings : response.Order
  pub predictions : prediction.Order
  pub short_rooms : legendre.Order
  pub judgements : judging.Order
  pub campaigns : Campaigns
  pub filings : Filings

pub order_of_checks : OrderOfChecks
order_of_checks =
    record {
      registers = registers;
      recordings = response.order;
      predictions = prediction.order;
      short_rooms = legendre.order;
      judgements = judging.order;
      campaigns = campaigns;
      filings = filings;
    }
