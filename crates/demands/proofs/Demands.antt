-- The three demands, each in the user's words and then as laws, over the public definitions alone: the outcome function of each call, which its
-- contract says it meets (docs/PROMISES.md has the table), and the runs of `history`, Run. The same of a C caller: DoorCalls, DoorRuns. Assumes nothing.
--
-- The words used. `first checks` is the number of the first check whose test holds, 0 where none does; `numbers checks` are the numbers of all. `P N` is
-- 2^N - 1, `window N taps k` the register after k steps from N ones, which is P N, and `wave N taps k` the signal 1 - 2·s(k). `at l j` is place j of a
-- list, `sum n f` the sum of f 0 to f (n - 1). `run w₀ cs` is the world, a record with the memory lent, after the calls cs, the latest first.
-- `made w₀ cs d` is what the last accepted call naming day d made it, or unseen; `heard w₀ cs d` is the last recording accepted for it, as its samples
-- after the run-in and how many periods they are; `begun w₀ cs` is the record that the last accepted start made.
use mathlib.Core.Path.{◌≡◌, refl, sym, ap, ap₂, subst, ◌∙◌}
use mathlib.Core.Logic.{◌↔◌, ◌⊎◌, inl, inr}
use mathlib.Core.Bool.{Bool, true, false, cond, not, ◌&&◌, ◌||◌}
use mathlib.Core.List.{List, [], ◌∷◌, ◌++◌}
use Prim.Native.Nat.{ℕ, ◌+◌, ◌-◌, ◌*◌, ◌/◌, ◌%◌, ◌^◌, ◌≤◌, ◌<◌}
use native.Mathlib.Nat.{one-mul, zero-mul}
use native.Mathlib.Numerals.{add-one}
use native.Mathlib.Decide.{ℕ_discrete}
use native.Mathlib.Omega.{arith}
use borrow.Author.Tests.{eqb-true, eq-eqb, ne_eqb, not-false}
use lib.Dec.{T, eqb, ltb}
use lib.Count.{ones}
use lib.Ieee.{neg}
use lib.IntN.{ℤ, pos, negsuc, neg_ℤ, nat_abs, ◌-ℤ◌, ◌*ℤ◌}
use lib.ListN.{length, get_or, take, drop, replicate}
use lib.Signed.{le_z}
use Rattle.sums.specs.Sum.{sum, total, sign}
use Rattle.sums.proofs.Everywhere.{or_rest}
use Rattle.sums.proofs.Largest.{Near, spread_exactly}
use Rattle.sums.specs.Lists.{at, table, put, put_at, seek, some, every, many}
use Rattle.sums.specs.Refusals.{first, numbers, outcome}
use Rattle.sums.specs.Turned.{late}
use Rattle.sums.proofs.Turned.{late_place}
use Rattle.sums.proofs.Tables.{at-put}
use Rattle.register.specs.Register.{P, dot, step, window, bit, wave, Maximal}
use Rattle.register.specs.Register as register
use Rattle.register.proofs.Judged.{accepted_exactly, generator}
use Rattle.register.proofs.OddTaps.{accepted_maximal}
use Rattle.register.specs.Calls.{order_out, told, answer_of, shape_checks, taps_checks, taps_answer, sequence_checks, sequence_outcome}
use Rattle.register.proofs.HowShort.{Tells}
use Rattle.register.proofs.HowShort as short
use Rattle.refusals.specs.declared.Answer.{Answer}
use Rattle.std.specs.Prelude.{Ok, Err}
use Rattle.refusals.specs.Causes.{result_number}
use Rattle.defaults.specs.Calls.{default_outcome}
use Rattle.player.specs.Calls.{new_outcome, step_checks, step_outcome, play_outcome}
use Rattle.player.specs.declared.Player.{Player}
use Rattle.player.specs.Calls.{Stepped}
use Rattle.player.specs.Calls.{Played}
use Rattle.samples.specs.Samples.{length_off, sample_out, some_out, within}
use Rattle.response.specs.Response as formula
use Rattle.response.specs.Calls.{given_checks, recording_checks, recording_outcome}
use Rattle.response.proofs.Enough as of_recording
use Rattle.response.proofs.Late.{refused_late, accepted-late, output-late}
use Rattle.response.proofs.Linear.{response_ext}
use Rattle.response.proofs.Recovery.{recovery}
use Rattle.response.proofs.Register as of_register
use Rattle.response.proofs.Shifted.{at_0 as shift_0}
use Rattle.prediction.specs.Calls.{prediction_checks, prediction_outcome, roomed_checks, roomed_outcome}
use Rattle.legendre.specs.Calls as legendre
use Rattle.legendre.specs.Legendre.{offered, bit as legendre_bit, wave as signal}
use Rattle.legendre.proofs.Exactly as of_legendre
use Rattle.legendre.proofs.Flatness.{flat}
use Rattle.legendre.proofs.Offered as fifteen
use Rattle.legendre.proofs.Recovered.{there_and_back}
use Rattle.legendre.proofs.Worded.{bit-first, bit-square, bit_other}
use Rattle.rounding.specs.Rounding.{away_from_zero, to_even, is_edition, halfway, nearest, nearest_in, rounded}
use Rattle.rounding.proofs.Halves as halves
use Rattle.finding.specs.Finding.{spread, finding}
use Rattle.finding.specs.declared.Finding.{Finding}
use Rattle.finding.specs.declared.Finding.TheVariants as finds
use Rattle.finding.proofs.Exactly.{Clear, Found, found_exactly}
use Rattle.nights.specs.Nights.{period, capture, periods_of, periods_out, night_length, settled, term}
use Rattle.nights.specs.declared.Night.{Night}
use Rattle.nights.proofs.Terms.{settled_at, term-at, term-one}
use Rattle.records.specs.Record.{unseen, standing, overloaded, dead, withdrawn, state, stands, days_in, slot, periods, periods_standing, sample, together, apart, fresh, marked, filed}
use Rattle.records.proofs.Holding.{holds-together}
use Rattle.records.proofs.Totals.{periods_most}
use Rattle.records.proofs.Refiling.{Day}
use Rattle.records.specs.declared.Campaign.{Campaign}
use Rattle.judging.specs.Judging.{found_in, judge_checks, judged_of, judge_outcome, judging, judged_number}
use Rattle.judging.specs.declared.Judged.{Judged}
use Rattle.judging.specs.declared.Judged.TheVariants as judged
use Rattle.judging.specs.declared.Judgement.{Judgement}
use Rattle.judging.proofs.Late.{kept_late}
use Rattle.judging.proofs.Judgements.{finding-accepts, judge_first, judge_told, judged_exactly}
use Rattle.campaign.specs.Calls.{slots_out, edition_out, day_out, start_checks, start_outcome, enter_checks, judged_for, settled_of, term_of, entered, file_outcome, enter_outcome, handed, verdict_of, state_of, keeps, file_all, enter_all, withdraw_checks, withdraw_outcome, verdict_number}
use Rattle.campaign.specs.Calls.{Shown}
use Rattle.campaign.specs.Calls.{Started}
use Rattle.campaign.proofs.EntryCases.{file_first, file_refused, twenty_three, other, unslotted, as_shown, refusal_shown, entry_first, entry_verdict}
use Rattle.campaign.proofs.Passing.{start_tells}
use Rattle.campaign.proofs.Handed.{start_edition}
use Rattle.campaign.specs.declared.Entered.{Entered}
use Rattle.campaign.specs.Calls.{Withdrawn}
use Rattle.campaign.specs.declared.Verdict.TheVariants as verdict
use Rattle.trend.specs.Calls.{worked, mean_at, counts_outcome, response_checks, response_outcome, summary_checks, summary_outcome, summary_number}
use Rattle.trend.proofs.Bounds.{worked_small, mean_fits}
use Rattle.trend.proofs.Enough as of_trend
use Rattle.trend.proofs.Opposed.{Opposed}
use Rattle.trend.proofs.MeansAlone.{in_edition, same_counts, same_summary, same_but_means}
use Rattle.trend.specs.declared.Levels.{Levels}
use Rattle.trend.specs.declared.Summary.{Summary}
use Rattle.trend.specs.declared.Summary.TheVariants as summary
use Rattle.history.specs.Run.{World, Call, names, after, answer, run, under_way, begun, makes, made, term_at, heard, Elsewhere}
use Rattle.history.specs.Run as call
use Rattle.history.proofs.UnderWay.{from_start}
use Rattle.history.proofs.KeptEdition as kept_edition
use Rattle.history.proofs.EveryRun as every-run
use Rattle.history.proofs.AsIf as as_if
use Rattle.history.proofs.ExactLevels.{Exact, levels_carried}
use Rattle.history.proofs.Late.{places, response_of, Given, levels_late, peak_turns}
use Rattle.history.proofs.LateNights.{LateBy, alone_late, answer-late, makes-late, late_by}
use Rattle.demands.specs.Buffers.{KeepsTail, Cleared}
use Rattle.sums.proofs.First.{answers_first, refused_same, either_0, or_exactly, ltb_exactly, exactly, passed_over}
use Rattle.demands.proofs.Checking.{refused_leaves}
use Rattle.demands.proofs.Tails.{sequence_tail, recording_tails, prediction_tail, prediction_in_room_tails, legendre_sequence_tail, legendre_recording_tail, legendre_prediction_tail, start_tails, file_tails, withdraw_tails, response_tails, summary_tails}
use Rattle.demands.proofs.Clearing.{recording_clears, response_clears, summary_clears}
use Rattle.demands.proofs.Measuring.{sequence_at, response-at, response_small, prediction-at, prediction_in_room_at, legendre_sequence_at, legendre_response-at, legendre_response_small, legendre_prediction-at}

-- ---- 1. "Every public call ends, on all inputs, with an answer. It refuses for the causes listed in document 01, in the order given there, and for
-- no other. A refused call changes nothing in the caller's memory or record."
--
-- A function with a proved contract ends, and each contract is an equation to the outcome function named here. `advance` has step's and `fill` play's.
-- `file_all` are the checks of a filing that is handed the verdict v, and `enter_all` those of an entry: 12 among them, the verdict is kept and C days stand.

-- the checks come in this order; the answer's number is that of the first whose test holds, 0 where none does; a refused call hands back what came in
pub record Checked {A : Type 0} (order : List ℕ) (checks : List (ℕ × Bool)) (number : A → ℕ) (back : ℕ → A) (o : A) : Type 0 where
  pub in_order : numbers checks ≡ order
  pub answer : number o ≡ first checks
  pub unchanged : (number o ≡ 0 → ⊥) → o ≡ back (number o)

pub record Refusals : Type 0 where
  pub taps_check : (N taps : ℕ) → Checked (1 ∷ 2 ∷ 3 ∷ 4 ∷ []) (taps_checks N taps) (λ (n : ℕ). n) (λ n. n) (taps_answer N taps)
  pub sequence : (N taps : ℕ) (out : List ℕ)
      → Checked (1 ∷ 2 ∷ 3 ∷ 4 ∷ 6 ∷ []) (sequence_checks N taps out) (λ (o : ℕ × List ℕ). o.0) (λ n. (n, out)) (sequence_outcome N taps out)
  pub new_player : (N taps : ℕ) → Checked (1 ∷ 2 ∷ 3 ∷ []) (shape_checks N taps) result_number Err (new_outcome N taps)
  pub step : (p : Player)
      → Checked (1 ∷ 2 ∷ 3 ∷ 16 ∷ []) (step_checks p) (λ (s : Stepped). result_number s.tick) (λ n. record { tick = Err n; player = p }) (step_outcome p)
  pub play : (p : Player) (signs : List ℤ)
      → Checked (1 ∷ 2 ∷ 3 ∷ 16 ∷ []) (step_checks p) (λ (o : Played × List ℤ). o.0.answer) (λ n. (record { answer = n; player = p }, signs)) (play_outcome p signs)
  pub recording : (N taps : ℕ) (y out room : List ℤ) (tags : List ℕ)
      → Checked (1 ∷ 2 ∷ 3 ∷ 4 ∷ 5 ∷ 6 ∷ 7 ∷ []) (recording_checks N taps y out room tags) (λ (o : ℕ × List ℤ × List ℤ × List ℕ). o.0)
      (λ n. (n, out, room, tags)) (recording_outcome N taps y out room tags)
  pub prediction : (N taps : ℕ) (h out : List ℤ)
      → Checked (1 ∷ 2 ∷ 3 ∷ 4 ∷ 5 ∷ 6 ∷ 7 ∷ 8 ∷ []) (prediction_checks N taps h out) (λ (o : ℕ × List ℤ). o.0) (λ n. (n, out)) (prediction_outcome N taps h out)
  pub prediction_in_room : (N taps : ℕ) (h out room : List ℤ)
      → Checked (1 ∷ 2 ∷ 3 ∷ 4 ∷ 5 ∷ 6 ∷ 7 ∷ 8 ∷ []) (roomed_checks N taps h out room) (λ (o : ℕ × List ℤ × List ℤ). o.0) (λ n. (n, out, room))
      (roomed_outcome N taps h out room)
  pub legendre_sequence : (p : ℕ) (out : List ℕ)
      → Checked (25 ∷ 6 ∷ []) (legendre.sequence_checks p out) (λ (o : ℕ × List ℕ). o.0) (λ n. (n, out)) (legendre.sequence_outcome p out)
  pub legendre_recording : (p : ℕ) (y out : List ℤ)
      → Checked (25 ∷ 5 ∷ 6 ∷ 7 ∷ []) (legendre.recording_checks p y out) (λ (o : ℕ × List ℤ). o.0) (λ n. (n, out)) (legendre.recording_outcome p y out)
  pub legendre_prediction : (p : ℕ) (h out : List ℤ)
      → Checked (25 ∷ 5 ∷ 6 ∷ 7 ∷ 8 ∷ []) (legendre.prediction_checks p h out) (λ (o : ℕ × List ℤ). o.0) (λ n. (n, out)) (legendre.prediction_outcome p h out)
  pub default_taps : (N : ℕ) → Checked (1 ∷ []) ((1, order_out N) ∷ []) result_number Err (default_outcome N)
  pub start : (c : Campaign) (N taps C E : ℕ) (store sums : List ℤ)
      → Checked (1 ∷ 2 ∷ 3 ∷ 4 ∷ 9 ∷ 24 ∷ 6 ∷ []) (start_checks N taps C E store sums) (λ (o : Started × List ℤ × List ℤ). o.0.answer.number)
      (λ n. (record { answer = answer_of N taps n; campaign = c }, store, sums)) (start_outcome c N taps C E store sums)
  pub judge : (N taps : ℕ) (night : Night) (y : List ℤ)
      → Checked (1 ∷ 2 ∷ 3 ∷ 4 ∷ 18 ∷ 5 ∷ 7 ∷ []) (judge_checks N taps night y) (λ (j : Judgement). judged_number j.verdict)
      (λ n. record { verdict = judged.Refused n; period = told N taps n 0 }) (judge_outcome N taps night y)
  pub file : (c : Campaign) (store sums : List ℤ) (d : ℕ) (night : Night) (y : List ℤ) (v : Judged)
      → Checked (15 ∷ 10 ∷ 18 ∷ 5 ∷ 7 ∷ 11 ∷ 23 ∷ 12 ∷ []) (file_all c store sums d night y v) (λ (o : Entered × List ℤ × List ℤ). verdict_number o.0.entry.verdict)
      (λ n. (entered c d (verdict.Refused n), store, sums)) (file_outcome c store sums d night y v)
  pub enter : (c : Campaign) (store sums : List ℤ) (d : ℕ) (night : Night) (y : List ℤ)
      → Checked (15 ∷ 10 ∷ 18 ∷ 5 ∷ 7 ∷ 11 ∷ 12 ∷ []) (enter_all c store sums d night y) (λ (o : Entered × List ℤ × List ℤ). verdict_number o.0.entry.verdict)
      (λ n. (entered c d (verdict.Refused n), store, sums)) (enter_outcome c store sums d night y)
  pub withdraw : (c : Campaign) (store sums : List ℤ) (d : ℕ)
      → Checked (15 ∷ 10 ∷ 13 ∷ []) (withdraw_checks c store sums d) (λ (o : Withdrawn × List ℤ × List ℤ). o.0.answer)
      (λ n. (record { answer = n; campaign = c }, store, sums)) (withdraw_outcome c store sums d)
  pub counts : (c : Campaign) (store sums : List ℤ)
      → Checked (15 ∷ []) ((15, apart c store sums) ∷ []) result_number Err (counts_outcome c store sums)
  pub response : (c : Campaign) (store sums r mean room : List ℤ) (tags : List ℕ)
      → Checked (15 ∷ 6 ∷ 14 ∷ []) (response_checks c store sums r mean room tags) (λ (o : ℕ × List ℤ × List ℤ × List ℤ × List ℕ). o.0)
      (λ n. (n, r, mean, room, tags)) (response_outcome c store sums r mean room tags)
  pub summary : (c : Campaign) (store sums room : List ℤ) (tags : List ℕ)
      → Checked (15 ∷ 6 ∷ []) (summary_checks c store sums room tags) (λ (o : Summary × List ℤ × List ℕ). summary_number o.0)
      (λ n. (summary.Refused n, room, tags)) (summary_outcome c store sums room tags)

-- document 01: "longer buffers keep their tails", accepted or refused (`KeepsTail n`: beyond its first n places a buffer is as it was)
pub record Tails : Type 0 where
  pub sequence : (N taps : ℕ) (out : List ℕ) → KeepsTail (P N) out (sequence_outcome N taps out).1
  pub recording : (N taps : ℕ) (y out room : List ℤ) (tags : List ℕ) → let o = recording_outcome N taps y out room tags in
      KeepsTail (P N) out o.1 × KeepsTail (P N + 1) room o.2 × KeepsTail (P N) tags o.3
  pub prediction : (N taps : ℕ) (h out : List ℤ) → KeepsTail (P N) out (prediction_outcome N taps h out).1
  pub prediction_in_room : (N taps : ℕ) (h out room : List ℤ) → let o = roomed_outcome N taps h out room in
      KeepsTail (P N) out o.1 × KeepsTail (P N + 1) room o.2
  pub legendre_sequence : (p : ℕ) (out : List ℕ) → KeepsTail p out (legendre.sequence_outcome p out).1
  pub legendre_recording : (p : ℕ) (y out : List ℤ) → KeepsTail p out (legendre.recording_outcome p y out).1
  pub legendre_prediction : (p : ℕ) (h out : List ℤ) → KeepsTail p out (legendre.prediction_outcome p h out).1
  pub start : (c : Campaign) (N taps C E : ℕ) (store sums : List ℤ) → let o = start_outcome c N taps C E store sums in
      KeepsTail (C * P N) store o.1 × KeepsTail (P N) sums o.2
  pub file : (c : Campaign) (store sums : List ℤ) (d : ℕ) (night : Night) (y : List ℤ) (v : Judged) → let o = file_outcome c store sums d night y v in
      KeepsTail (c.capacity * P c.order) store o.1 × KeepsTail (P c.order) sums o.2
  pub withdraw : (c : Campaign) (store sums : List ℤ) (d : ℕ) → let o = withdraw_outcome c store sums d in
      KeepsTail (c.capacity * P c.order) store o.1 × KeepsTail (P c.order) sums o.2
  pub response : (c : Campaign) (store sums r mean room : List ℤ) (tags : List ℕ) → let o = response_outcome c store sums r mean room tags in
      KeepsTail (P c.order) r o.1 × KeepsTail (P c.order) mean o.2 × KeepsTail (P c.order + 1) room o.3
      × KeepsTail (P c.order) tags o.4
  pub summary : (c : Campaign) (store sums room : List ℤ) (tags : List ℕ) → let o = summary_outcome c store sums room tags in
      KeepsTail (P c.order + 1) room o.1 × KeepsTail (P c.order) tags o.2

pub checked : {A : Type 0} (order : List ℕ) (checks : List (ℕ × Bool)) (number : A → ℕ) (back : ℕ → A) (accepted : A)
    → numbers checks ≡ order → ((n : ℕ) → number (back n) ≡ n) → number accepted ≡ 0 → Checked order checks number back (outcome checks back accepted)
checked order checks number back accepted e told none =
    record {
      in_order = e;
      answer = answers_first checks number back accepted told none;
      unchanged = refused_same checks number back accepted told none;
    }

pub demand_1 : Refusals × Tails
unfolding taps_answer sequence_outcome default_outcome new_outcome step_outcome play_outcome recording_outcome prediction_outcome roomed_outcome legendre.sequence_outcome legendre.recording_outcome legendre.prediction_outcome start_outcome judge_outcome withdraw_outcome counts_outcome response_outcome summary_outcome
demand_1 = (
  record {
    taps_check = λ N taps. record { in_order = refl; answer = refl; unchanged = λ _. refl };
    sequence = λ N taps out. checked _ _ _ _ _ refl (λ n. refl) refl;
    new_player = λ N taps. checked _ _ _ _ _ refl (λ n. refl) refl;
    step = λ p. checked _ _ _ _ _ refl (λ n. refl) refl;
    play = λ p signs. checked _ _ _ _ _ refl (λ n. refl) refl;
    recording = λ N taps y out room tags. checked _ _ _ _ _ refl (λ n. refl) refl;
    prediction = λ N taps h out. checked _ _ _ _ _ refl (λ n. refl) refl;
    prediction_in_room = λ N taps h out room. checked _ _ _ _ _ refl (λ n. refl) refl;
    legendre_sequence = λ p out. checked _ _ _ _ _ refl (λ n. refl) refl;
    legendre_recording = λ p y out. checked _ _ _ _ _ refl (λ n. refl) refl;
    legendre_prediction = λ p h out. checked _ _ _ _ _ refl (λ n. refl) refl;
    default_taps = λ N. checked _ _ _ _ _ refl (λ n. refl) refl;
    start = λ c N taps C E store sums. checked _ _ _ _ _ refl (λ n. refl) refl;
    judge = λ N taps night y. checked _ _ _ _ _ refl (λ n. refl) (finding-accepts (found_in N night y));
    file = λ c store sums d night y v.
        record { in_order = refl; answer = file_first c store sums d night y v; unchanged = file_refused c store sums d night y v };
    enter = λ c store sums d night y.
        record { in_order = refl; answer = entry_first c store sums d night y; unchanged = file_refused c store sums d night y (judged_for c night y) };
    withdraw = λ c store sums d. checked _ _ _ _ _ refl (λ n. refl) refl;
    counts = λ c store sums. checked _ _ _ _ _ refl (λ n. refl) refl;
    response = λ c store sums r mean room tags. checked _ _ _ _ _ refl (λ n. refl) refl;
    summary = λ c store sums room tags. checked _ _ _ _ _ refl (λ n. refl) (either_0 (λ (o : Summary × List ℤ × List ℕ). summary_number o.0) (eqb (days_in c standing) 0) _ _ refl refl);
  },
  record {
    sequence = sequence_tail;
    recording = recording_tails;
    prediction = prediction_tail;
    prediction_in_room = prediction_in_room_tails;
    legendre_sequence = legendre_sequence_tail;
    legendre_recording = legendre_recording_tail;
    legendre_prediction = legendre_prediction_tail;
    start = start_tails;
    file = file_tails;
    withdraw = withdraw_tails;
    response = response_tails;
    summary = summary_tails;
  },
)

-- ---- 2. "Taps for N stages, N from 2 to 16, are accepted exactly when the register, started at all ones, first returns there after P = 2^N - 1 steps.
-- The response at shift k equals the direct circular cross-correlation of recording and sequence, less the sum of the recording, as document 002
-- defines it before its last division, exact, with no overflow. A predicted recording equals the circular convolution of the given response with the
-- sequence."
--
-- Indices count modulo P: x(j-k) is `wave` at (j + (P - k)) % P. That nothing overflows on the way either is part of each function's proof.

pub record Measures : Type 0 where
  -- `Maximal`: the window is P N again after P N steps, and after no fewer
  pub taps_check : (N taps : ℕ) → 2 ≤ N → N ≤ 16 → taps < 2 ^ N → (taps_answer N taps ≡ 0) ↔ Maximal N taps
  pub sequence : (N taps : ℕ) (out : List ℕ) → (sequence_outcome N taps out).0 ≡ 0
      → (k : ℕ) → k < P N → get_or (sequence_outcome N taps out).1 k 0 ≡ window N taps k % 2
  pub recording : (N taps : ℕ) (y out room : List ℤ) (tags : List ℕ) → let o = recording_outcome N taps y out room tags in o.0 ≡ 0
      → (k : ℕ) → k < P N → at o.1 k ≡ sum (P N) (λ j. at y j *ℤ wave N taps ((j + (P N - k)) % P N)) -ℤ sum (P N) (at y)
  pub no_overflow : (N taps : ℕ) (y out room : List ℤ) (tags : List ℕ) → let o = recording_outcome N taps y out room tags in o.0 ≡ 0
      → (k : ℕ) → k < P N → nat_abs (at o.1 k) ≤ 2 ^ 39
  pub prediction : (N taps : ℕ) (h out : List ℤ) → let o = prediction_outcome N taps h out in o.0 ≡ 0
      → (j : ℕ) → j < P N → at o.1 j ≡ sum (P N) (λ i. at h i *ℤ wave N taps ((j + (P N - i)) % P N))
  pub prediction_in_room : (N taps : ℕ) (h out room : List ℤ) → let o = roomed_outcome N taps h out room in o.0 ≡ 0
      → (j : ℕ) → j < P N → at o.1 j ≡ sum (P N) (λ i. at h i *ℤ wave N taps ((j + (P N - i)) % P N))

pub demand_2 : Measures
unfolding formula.response formula.correlation formula.prediction bit
demand_2 =
    record {
      taps_check = accepted_maximal;
      sequence = sequence_at;
      recording = response-at;
      no_overflow = response_small;
      prediction = prediction-at;
      prediction_in_room = prediction_in_room_at;
    }

-- ---- Document 02: "The maximality check must answer the number of steps after which the register first returns to all ones. … Every call that can refuse
-- with 4 passes the number on … Accepted taps answer P."
--
-- Beside its number n such a call tells `told N taps n was`, where `was` is 0 in the library's answer, and in C what the caller's number held. `Tells`:
-- where n is 0 that is P; where n is 4 the register is back at all ones after that many steps and no fewer, and they are fewer than P; where n is
-- another refusal it is `was`.

pub record Periods : Type 0 where
  pub taps_check : (N taps was : ℕ) → let n = taps_answer N taps in Tells N taps n (told N taps n was) was
  pub sequence : (N taps was : ℕ) (out : List ℕ) → let n = (sequence_outcome N taps out).0 in Tells N taps n (told N taps n was) was
  pub recording : (N taps was : ℕ) (y out room : List ℤ) (tags : List ℕ) → let n = (recording_outcome N taps y out room tags).0 in
      Tells N taps n (told N taps n was) was
  pub prediction : (N taps was : ℕ) (h out : List ℤ) → let n = (prediction_outcome N taps h out).0 in Tells N taps n (told N taps n was) was
  pub prediction_in_room : (N taps was : ℕ) (h out room : List ℤ) → let n = (roomed_outcome N taps h out room).0 in Tells N taps n (told N taps n was) was
  pub start : (c : Campaign) (N taps C E : ℕ) (store sums : List ℤ) → let a = (start_outcome c N taps C E store sums).0.answer in
      Tells N taps a.number a.period 0
  pub judge : (N taps : ℕ) (night : Night) (y : List ℤ) → let j = judge_outcome N taps night y in Tells N taps (judged_number j.verdict) j.period 0

pub how_short : Periods
unfolding taps_answer sequence_outcome recording_outcome prediction_outcome roomed_outcome
how_short =
    record {
      taps_check = λ N taps was. short.how_short N taps (taps_checks N taps) refl tt was;
      sequence = λ N taps was out.
          short.how_short_by N taps (sequence_checks N taps out) refl (λ (o : ℕ × List ℕ). o.0) _ _ (λ n. refl) refl refl tt was;
      recording = λ N taps was y out room tags.
          short.how_short_by N taps (recording_checks N taps y out room tags) refl (λ (o : ℕ × List ℤ × List ℤ × List ℕ). o.0) _ _ (λ n. refl) refl refl tt was;
      prediction = λ N taps was h out.
          short.how_short_by N taps (prediction_checks N taps h out) refl (λ (o : ℕ × List ℤ). o.0) _ _ (λ n. refl) refl refl tt was;
      prediction_in_room = λ N taps was h out room.
          short.how_short_by N taps (roomed_checks N taps h out room) refl (λ (o : ℕ × List ℤ × List ℤ). o.0) _ _ (λ n. refl) refl refl tt was;
      start = λ c N taps C E store sums.
          rw (start_tells c N taps C E store sums) (short.how_short N taps (start_checks N taps C E store sums) refl tt 0);
      judge = λ N taps night y.
          rw (judge_told N taps night y, judge_first N taps night y) (short.how_short N taps (judge_checks N taps night y) refl tt 0);
    }

-- ---- Document 02: "Turning one recording, a response and a summary must work with P tags instead of 2P, and P+1 wide numbers as now. Show that every order
-- gets by on it, and give 6 exactly below it. Tags beyond P stay untouched, where 01 had them zeroed."
--
-- Lent that much, and outputs of P, no order's call answers 6, and it answers what its other checks say (`-enough`). 6 is answered exactly where the
-- checks before it pass and something lent is shorter (`-six`; `given_checks` are 1 to 5). Accepted, the call leaves zeros in the first P+1 wide numbers
-- and the first P tags (`-clears`; `Cleared 0 n`: its first n places hold 0). What lies beyond is as it was, whatever the answer: `Tails` above.

pub record Rooms : Type 0 where
  pub recording_enough : (N taps : ℕ) (y out room : List ℤ) (tags : List ℕ) → P N ≤ length out → P N + 1 ≤ length room → P N ≤ length tags
      → let n = (recording_outcome N taps y out room tags).0 in (n ≡ 6 → ⊥) × (n ≡ first (given_checks N taps y ++ (7, some_out (length y) (at y)) ∷ []))
  pub recording_six : (N taps : ℕ) (y out room : List ℤ) (tags : List ℕ) → ((recording_outcome N taps y out room tags).0 ≡ 6)
      ↔ ((first (given_checks N taps y) ≡ 0) × ((length out < P N) ⊎ (length room < P N + 1) ⊎ (length tags < P N)))
  pub recording_clears : (N taps : ℕ) (y out room : List ℤ) (tags : List ℕ) → let o = recording_outcome N taps y out room tags in o.0 ≡ 0
      → Cleared (pos 0) (P N + 1) o.2 × Cleared 0 (P N) o.3
  pub response_enough : (c : Campaign) (store sums r mean room : List ℤ) (tags : List ℕ) → let p = P c.order in
      p ≤ length r → p ≤ length mean → p + 1 ≤ length room → p ≤ length tags
      → let n = (response_outcome c store sums r mean room tags).0 in
      (n ≡ 6 → ⊥) × (n ≡ first ((15, apart c store sums) ∷ (14, eqb (days_in c standing) 0) ∷ []))
  pub response_six : (c : Campaign) (store sums r mean room : List ℤ) (tags : List ℕ) → let p = P c.order in
      ((response_outcome c store sums r mean room tags).0 ≡ 6)
      ↔ ((first ((15, apart c store sums) ∷ []) ≡ 0) × ((length r < p) ⊎ (length mean < p) ⊎ (length room < p + 1) ⊎ (length tags < p)))
  pub response_clears : (c : Campaign) (store sums r mean room : List ℤ) (tags : List ℕ) → let o = response_outcome c store sums r mean room tags in o.0 ≡ 0
      → Cleared (pos 0) (P c.order + 1) o.3 × Cleared 0 (P c.order) o.4
  pub summary_enough : (c : Campaign) (store sums room : List ℤ) (tags : List ℕ) → let p = P c.order in p + 1 ≤ length room → p ≤ length tags
      → let n = summary_number (summary_outcome c store sums room tags).0 in (n ≡ 6 → ⊥) × (n ≡ first ((15, apart c store sums) ∷ []))
  pub summary_six : (c : Campaign) (store sums room : List ℤ) (tags : List ℕ) → let p = P c.order in
      (summary_number (summary_outcome c store sums room tags).0 ≡ 6)
      ↔ ((first ((15, apart c store sums) ∷ []) ≡ 0) × ((length room < p + 1) ⊎ (length tags < p)))
  -- where a day stands; where none does the room is left alone
  pub summary_clears : (c : Campaign) (store sums room : List ℤ) (tags : List ℕ) (l : Levels) → let o = summary_outcome c store sums room tags in
      o.0 ≡ summary.Measured l → Cleared (pos 0) (P c.order + 1) o.1 × Cleared 0 (P c.order) o.2

pub half_the_tags : Rooms
half_the_tags =
    record {
      recording_enough = of_recording.enough;
      recording_six = of_recording.six_exactly;
      recording_clears = recording_clears;
      response_enough = of_trend.response_enough;
      response_six = of_trend.response_six_exactly;
      response_clears = response_clears;
      summary_enough = of_trend.summary_enough;
      summary_six = of_trend.summary_six_exactly;
      summary_clears = summary_clears;
    }

-- ---- Document 02: "A recording is dead when its largest sample minus its smallest is 7 or less … Overload still comes first."
--
-- `spread y` is the largest sample of y minus its smallest. `Near 7 n f`: no two of f 0 to f (n - 1) are more than 7 apart, which is to say that the spread
-- is 7 or less (`no_two`); `Apart 7 n f`: two of them are. `Clear y`: no sample of y is -8,388,608 or 8,388,607; `FirstAtRail y p`: p is the first place
-- where one is. `Found y f` says of the samples what the finding f means: of Overloaded p `FirstAtRail y p`, of Dead `Clear y` and `Near`, of Kept `Clear y`
-- and `Apart`. Every recording has one finding and only one (`found`). An entry is judged by
-- its samples after the run-in, `settled_of c night y`, which are all where it has none. It has its verdict exactly where no check refuses (`given`; `dead` is its case
-- of Dead), and an accepted one, as every filing, makes of its day the state that goes with it (`day`), by which demand 3 goes.

pub record Verdicts : Type 0 where
  pub no_two : (y : List ℤ) → (le_z (spread y) (pos 7) ≡ true) ↔ Near 7 (length y) (at y)
  pub found : (y : List ℤ) (f : Finding) → (finding y ≡ f) ↔ Found y f
  pub given : (c : Campaign) (store sums : List ℤ) (d : ℕ) (night : Night) (y : List ℤ) (f : Finding)
      → ((enter_outcome c store sums d night y).0.entry.verdict ≡ verdict_of c f)
      ↔ ((first (enter_all c store sums d night y) ≡ 0) × Found (settled_of c night y) f)
  pub dead : (c : Campaign) (store sums : List ℤ) (d : ℕ) (night : Night) (y : List ℤ) → let z = settled_of c night y in
      ((enter_outcome c store sums d night y).0.entry.verdict ≡ verdict.Dead)
      ↔ ((first (enter_all c store sums d night y) ≡ 0) × (Clear z × Near 7 (length z) (at z)))
  pub day : (w : World) (d : ℕ) (night : Night) (y : List ℤ) (s : Shown) (f : Finding) → Found (settled_of w.campaign night y) f
      → makes w (call.file d night y s) ≡ state_of f

pub never_still : Verdicts
never_still =
    record {
      no_two = λ y. spread_exactly 7 (length y) (at y);
      found = found_exactly;
      given = said_of;
      dead = λ c store sums d night y. said_of c store sums d night y finds.Dead;
      day = λ w d night y s f h. ap state_of ((found_exactly (settled_of w.campaign night y) f).1 h);
    }
  where
    said_of : (c : Campaign) (store sums : List ℤ) (d : ℕ) (night : Night) (y : List ℤ) (f : Finding)
        → ((enter_outcome c store sums d night y).0.entry.verdict ≡ verdict_of c f)
        ↔ ((first (enter_all c store sums d night y) ≡ 0) × Found (settled_of c night y) f)
    said_of c store sums d night y f =
        let v = entry_verdict c store sums d night y f in
        let w = found_exactly (settled_of c night y) f in
        (λ q. ((v.0 q).0, w.0 (v.0 q).1), λ h. v.1 (h.0, w.1 h.1))

-- ---- Document 02: "A night's capture is m+1 whole periods, m from 1 to 16; the first is the run-in and is dropped … The other m are summed place by place
-- and that sum is what a slot holds. The record keeps m for each standing day … the old one-period entry stays and counts as m = 1. … Used slots must hold
-- -8,388,607·m to 8,388,606·m, with m from 1 to 16; every other m the record has is 0 … Means and levels divide by (P+1) times the total periods standing,
-- and the levels are exact where that total is a power of two. … Refusals: 18 for m out of range, after 10".
--
-- An entry is given a night, `period` or `capture m`, and its samples y. `settled_of c night y` are those after the run-in and `term_of c night y` their
-- periods summed, which `file_outcome` puts into the slot with `periods_of night`. `periods c s` is the m of slot s, `periods_standing c` the total of
-- them, and `divisor c` is (P+1) times that total.

pub record Nights : Type 0 where
  pub one-period : (c : Campaign) (y : List ℤ) → (periods_of period ≡ 1) × (settled_of c period y ≡ y)
      × (length y ≡ P c.order → term_of c period y ≡ y)
  pub run_in_dropped : (c : Campaign) (m : ℕ) (y : List ℤ) (i : ℕ) → at (settled_of c (capture m) y) i ≡ at y (P c.order + i)
  pub summed : (c : Campaign) (night : Night) (y : List ℤ) (j : ℕ) → j < P c.order
      → at (term_of c night y) j ≡ sum (periods_of night) (λ i. at (settled_of c night y) (i * P c.order + j))
  pub eighteen : (c : Campaign) (store sums : List ℤ) (d m : ℕ) (y : List ℤ)
      → (verdict_number (enter_outcome c store sums d (capture m) y).0.entry.verdict ≡ 18)
      ↔ ((first ((15, apart c store sums) ∷ (10, day_out d) ∷ []) ≡ 0) × ((m < 1) ⊎ (16 < m)))
  pub one-period_never_eighteen : (c : Campaign) (store sums : List ℤ) (d : ℕ) (y : List ℤ)
      → verdict_number (enter_outcome c store sums d period y).0.entry.verdict ≡ 18 → ⊥
  -- of a record that holds together
  pub every_m : (c : Campaign) (store sums : List ℤ) → together c store sums ≡ true → (s : ℕ) → s < 64
      → (slot c s ≡ 0 → periods c s ≡ 0) × ((slot c s ≡ 0 → ⊥) → (1 ≤ periods c s) × (periods c s ≤ 16))
  pub slots_within : (c : Campaign) (store sums : List ℤ) → together c store sums ≡ true → (s : ℕ) → s < c.capacity → (slot c s ≡ 0 → ⊥)
      → (j : ℕ) → j < P c.order → within (periods c s) (sample c store s j) ≡ true
  pub at_most : (c : Campaign) (store sums : List ℤ) → together c store sums ≡ true → periods_standing c ≤ 1024
  pub small : (c : Campaign) (store sums : List ℤ) → together c store sums ≡ true → (k : ℕ) → nat_abs (worked c sums k) < 2 ^ 49
  pub mean_fits : (c : Campaign) (store sums : List ℤ) → together c store sums ≡ true → (days_in c standing ≡ 0 → ⊥)
      → (k : ℕ) → sample_out (rounded c.edition (worked c sums k) ((P c.order + 1) * periods_standing c)) ≡ false
  -- `Exact`: each level is exactly its r over the divisor
  pub exact : (c : Campaign) (store sums room : List ℤ) (tags : List ℕ) → together c store sums ≡ true
      → (n : ℕ) → periods_standing c ≡ 2 ^ n → (l : Levels) → (summary_outcome c store sums room tags).0 ≡ summary.Measured l → Exact c sums l

-- the checks of an entry behind 18
abbrev behind_eighteen : Campaign → ℕ → Night → List ℤ → List (ℕ × Bool)
behind_eighteen c d night y =
    (5, length_off (night_length (P c.order) night) y)
    ∷ (7, some_out (length y) (at y))
    ∷ (11, stands c d)
    ∷ (12, keeps (finding (settled_of c night y)) && eqb (days_in c standing) c.capacity)
    ∷ []

pub several_periods : Nights
several_periods =
    record {
      one-period = λ c y. (refl, nothing_dropped c y, λ e. ap (term (P c.order) 1) (nothing_dropped c y) ∙ term-one (P c.order) y e);
      run_in_dropped = λ c m y i. settled_at (P c.order) (capture m) y i ∙ ap (λ n. at y (n + i)) (one-mul (P c.order));
      summed = λ c night y j l. term-at (P c.order) (periods_of night) (settled_of c night y) j l;
      eighteen = λ c store sums d m y.
          exactly _ 18 ((15, apart c store sums) ∷ (10, day_out d) ∷ []) (periods_out (capture m)) (behind_eighteen c d (capture m) y) (entry_first c store sums d (capture m) y) tt tt tt
          (or_exactly (ltb m 1) (ltb 16 m) (ltb_exactly m 1) (ltb_exactly 16 m));
      one-period_never_eighteen = λ c store sums d y.
          (passed_over _ 18 ((15, apart c store sums) ∷ (10, day_out d) ∷ []) (periods_out period) (behind_eighteen c d period y) (entry_first c store sums d period y) tt refl).0;
      every_m = λ c store sums h s l. let f = ((holds-together c store sums).0 h).filed in (f.uncounted s l, f.counted s l);
      slots_within = λ c store sums h. ((holds-together c store sums).0 h).used;
      at_most = λ c store sums h. periods_most c ((holds-together c store sums).0 h).filed;
      small = λ c store sums h. worked_small c store sums ((holds-together c store sums).0 h);
      mean_fits = λ c store sums h. mean_fits c store sums ((holds-together c store sums).0 h);
      exact = λ c store sums room tags h n e l. levels_carried c store sums room tags h n e l;
    }
  where
    nothing_dropped : (c : Campaign) (y : List ℤ) → settled_of c period y ≡ y
    nothing_dropped c y = ap (λ n. drop n y) (zero-mul (P c.order))

-- ---- Document 02: "Split entering in two: judging reads the recording and writes nothing; filing takes the recording and the verdict shown and does what
-- entering did. A judged verdict says kept without a slot. … Demand 3 counts a filing where it counted an entry …; a call that still does both … is a
-- filing with the verdict that judging gives. A judgement is not a call that names a day. Refusals: 23 when the verdict handed to filing is not what judging
-- gives for that recording, just before 12; judging refuses 1, 2, 3, 4, 18, 5, 7 in that order."
--
-- `judge_outcome` has no record, day or memory to write. `judging N taps night y` is its verdict, and `judged_of f` the verdict of the finding f, which has no slot.
-- `enter_checks` are 15, 10, 18, 5, 7, 11: 23 comes exactly where they pass and the verdict is another, whatever its case or place (`twenty_three`). The order of
-- both lists of checks is in `Refusals` above. `unslotted` takes the slot from a filed verdict. Demand 3 below is over runs in which `call.file` stands where
-- `call.enter` stood, and an entry is such a call (`entry`).

pub record Judgements : Type 0 where
  pub given : (N taps : ℕ) (night : Night) (y : List ℤ) (f : Finding)
      → (judging N taps night y ≡ judged_of f) ↔ ((first (judge_checks N taps night y) ≡ 0) × Found (settled (P N) night y) f)
  pub then_filed : (c : Campaign) (store sums : List ℤ) (d : ℕ) (night : Night) (y : List ℤ)
      → file_outcome c store sums d night y (judge_outcome c.order c.taps night y).verdict ≡ enter_outcome c store sums d night y
  pub as_shown : (c : Campaign) (store sums : List ℤ) (d : ℕ) (night : Night) (y : List ℤ) (v : Judged) → let o = file_outcome c store sums d night y v in
      verdict_number o.0.entry.verdict ≡ 0 → unslotted o.0.entry.verdict ≡ v
  pub twenty_three : (c : Campaign) (store sums : List ℤ) (d : ℕ) (night : Night) (y : List ℤ) (v : Judged)
      → (verdict_number (file_outcome c store sums d night y v).0.entry.verdict ≡ 23)
      ↔ ((first (enter_checks c store sums d night y) ≡ 0) × (v ≡ judging c.order c.taps night y → ⊥))
  pub other : (c : Campaign) (store sums : List ℤ) (d : ℕ) (night : Night) (y : List ℤ) (v : Judged) → first (enter_checks c store sums d night y) ≡ 0
      → (v ≡ judging c.order c.taps night y → ⊥) → file_outcome c store sums d night y v ≡ (entered c d (verdict.Refused 23), store, sums)
  -- a refusal that is handed in is never what judging gives there
  pub refusal : (c : Campaign) (store sums : List ℤ) (d : ℕ) (night : Night) (y : List ℤ) (n : ℕ) → first (enter_checks c store sums d night y) ≡ 0
      → file_outcome c store sums d night y (judged.Refused n) ≡ (entered c d (verdict.Refused 23), store, sums)
  -- where the verdict is right, 23 never comes
  pub right : (c : Campaign) (store sums : List ℤ) (d : ℕ) (night : Night) (y : List ℤ) (v : Judged) → v ≡ judging c.order c.taps night y
      → verdict_number (file_outcome c store sums d night y v).0.entry.verdict ≡ 23 → ⊥
  -- in a run
  pub leaves : (w : World) (N taps : ℕ) (night : Night) (y : List ℤ) → after w (call.judge N taps night y) ≡ w
  pub names-none : (N taps : ℕ) (night : Night) (y : List ℤ) (d : ℕ) → names (call.judge N taps night y) d ≡ false
  pub entry : (w : World) (d : ℕ) (night : Night) (y : List ℤ) → let v = judging w.campaign.order w.campaign.taps night y in
      (after w (call.enter d night y) ≡ after w (call.file d night y (handed v))) × (answer w (call.enter d night y) ≡ answer w (call.file d night y (handed v)))

pub judge_first_file_later : Judgements
judge_first_file_later =
    record {
      given = λ N taps night y f.
          let w = found_exactly (settled (P N) night y) f in
          let q = judged_exactly N taps night y f in
          (λ e. ((q.0 e).0, w.0 (q.0 e).1), λ h. q.1 (h.0, w.1 h.1));
      then_filed = λ c store sums d night y. refl;
      as_shown = as_shown;
      twenty_three = twenty_three;
      other = other;
      refusal = refusal_shown;
      right = λ c store sums d night y v e h. ((twenty_three c store sums d night y v).0 h).1 e;
      leaves = λ w N taps night y. refl;
      names-none = λ N taps night y d. refl;
      entry = λ w d night y. (refl, refl);
    }

-- ---- Document 02: "Report rules edition 2 round an exact half to the even neighbour: 4/8 becomes 0, 12/8 becomes 2. Edition 1, halves away from zero, stays for
-- trends already begun. A campaign keeps the edition chosen at its start … What does not depend on halves is proved once over both. … Holding together also
-- wants an edition of 1 or 2. Refusals: 24 for an edition other than 1 or 2, after 9 at the start".
--
-- `rounded e z d` is z / d in edition e, the mean of a response that comes to z over the divisor d. `halfway a d`: a / d is a whole number and a half; its
-- neighbours are then a / d, the quotient without its half, and a / d + 1. The four are 4/8, 12/8, -4/8 and -12/8, in edition 2 and beside it in edition 1.
-- `run` and `begun` are as in demand 3, of which the edition is a part; `in_edition c e` is the record c in edition e.

pub record Editions : Type 0 where
  -- in every edition: no whole number is nearer, the sign, a bound, the range of samples
  pub nearest : (e : ℕ) (z : ℤ) (d : ℕ) → 0 < d → (w : ℤ) → nat_abs (z -ℤ rounded e z d *ℤ pos d) ≤ nat_abs (z -ℤ w *ℤ pos d)
  pub sign : (e : ℕ) (z : ℤ) (d : ℕ) → 0 < d → rounded e (neg_ℤ z) d ≡ neg_ℤ (rounded e z d)
  pub bound : (e : ℕ) (z : ℤ) (d b : ℕ) → 0 < d → nat_abs z ≤ b * d → nat_abs (rounded e z d) ≤ b
  pub fits : (c : Campaign) (store sums : List ℤ) → together c store sums ≡ true → (days_in c standing ≡ 0 → ⊥)
      → (k : ℕ) → sample_out (mean_at c sums k) ≡ false
  -- where no half is, they agree
  pub agree : (e f : ℕ) (z : ℤ) (d : ℕ) → 0 < d → halfway (nat_abs z) d ≡ false → rounded e z d ≡ rounded f z d
  -- on an exact half edition 1 has the neighbour away from zero, edition 2 the even one
  pub half : (a d : ℕ) → (halfway a d ≡ true) ↔ (2 * (a % d) ≡ d)
  pub away : (z : ℤ) (d : ℕ) → 0 < d → halfway (nat_abs z) d ≡ true → nat_abs (rounded away_from_zero z d) ≡ nat_abs z / d + 1
  pub even : (z : ℤ) (d : ℕ) → 0 < d → halfway (nat_abs z) d ≡ true → nat_abs (rounded to_even z d) ≡ nat_abs z / d + nat_abs z / d % 2
  pub four : (rounded to_even (pos 4) 8 ≡ pos 0) × (rounded to_even (pos 12) 8 ≡ pos 2) × (rounded to_even (negsuc 3) 8 ≡ pos 0) × (rounded to_even (negsuc 11) 8 ≡ negsuc 1)
  pub four_before : (rounded away_from_zero (pos 4) 8 ≡ pos 1) × (rounded away_from_zero (pos 12) 8 ≡ pos 2) × (rounded away_from_zero (negsuc 3) 8 ≡ negsuc 0)
      × (rounded away_from_zero (negsuc 11) 8 ≡ negsuc 1)
  -- the edition chosen at an accepted start is kept, in every run, whatever it began with, and no other call changes it
  pub chosen : (c : Campaign) (N taps C E : ℕ) (store sums : List ℤ) → let o = (start_outcome c N taps C E store sums).0 in
      o.answer.number ≡ 0 → o.campaign.edition ≡ E
  pub kept : (w : World) (cs : List Call) → (run w cs).campaign.edition ≡ (begun w cs).edition
  pub stays : (w : World) (k : Call) → call.starts k ≡ false → (after w k).campaign.edition ≡ w.campaign.edition
  pub held : (c : Campaign) (store sums : List ℤ) → together c store sums ≡ true → (c.edition ≡ 1) ⊎ (c.edition ≡ 2)
  pub twenty_four : (c : Campaign) (N taps C E : ℕ) (store sums : List ℤ) → ((start_outcome c N taps C E store sums).0.answer.number ≡ 24)
      ↔ ((first (taps_checks N taps ++ (9, slots_out C) ∷ []) ≡ 0) × ((E ≡ 1 → ⊥) × (E ≡ 2 → ⊥)))
  -- the same record in the other edition: counts and levels are equal, and a response's answer, r, room and tags
  pub means_alone : (c : Campaign) (e : ℕ) (store sums r mean room : List ℤ) (tags : List ℕ) → is_edition c.edition ≡ true → is_edition e ≡ true
      → let o = response_outcome (in_edition c e) store sums r mean room tags in let u = response_outcome c store sums r mean room tags in
      (counts_outcome (in_edition c e) store sums ≡ counts_outcome c store sums)
      × (summary_outcome (in_edition c e) store sums room tags ≡ summary_outcome c store sums room tags)
      × ((o.0 ≡ u.0) × (o.1 ≡ u.1) × (o.3 ≡ u.3) × (o.4 ≡ u.4))

pub halves_to_even : Editions
unfolding nearest nearest_in
halves_to_even =
    record {
      nearest = halves.nearest_of_all;
      sign = halves.opposite;
      bound = halves.rounded_bound;
      fits = λ c store sums h. mean_fits c store sums ((holds-together c store sums).0 h);
      agree = halves.alike;
      half = λ a d. (eqb-true (2 * (a % d)) d, eq-eqb (2 * (a % d)) d);
      away = halves.half_away;
      even = halves.half_to_even;
      four = (refl, refl, refl, refl);
      four_before = (refl, refl, refl, refl);
      chosen = λ c N taps C E store sums z. start_edition c N taps C E store sums ∙ ap (λ n. cond (eqb n 0) E c.edition) z;
      kept = kept_edition.kept;
      stays = kept_edition.stays;
      held = λ c store sums h. one_of c.edition ((holds-together c store sums).0 h).edition;
      twenty_four = λ c N taps C E store sums.
          exactly _ 24 (taps_checks N taps ++ (9, slots_out C) ∷ []) (edition_out E) ((6, ltb (length store) (C * P N) || ltb (length sums) (P N)) ∷ [])
          (ap (λ (a : Answer). a.number) (start_tells c N taps C E store sums)) tt tt tt (neither E);
      means_alone = λ c e store sums r mean room tags p q.
          (same_counts c e store sums p q, same_summary c e store sums p q room tags, same_but_means c e store sums p q r mean room tags);
    }
  where
    one_of : (e : ℕ) → is_edition e ≡ true → (e ≡ 1) ⊎ (e ≡ 2)
    one_of e h = elim (ℕ_discrete e 1) [
      | yes p ↦ inl p
      | no p ↦ inr (eqb-true e 2 (or_rest (eqb e 1) (eqb e 2) h (ne_eqb e 1 p)))
    ]

    neither : (e : ℕ) → (edition_out e ≡ true) ↔ ((e ≡ 1 → ⊥) × (e ≡ 2 → ⊥))
    neither e = (
      λ h. (λ p. subst T (ap edition_out p) (subst T (sym h) tt), λ p. subst T (ap edition_out p) (subst T (sym h) tt)),
      λ n. ap₂ (λ a b. not (a || b)) (ne_eqb e 1 n.0) (ne_eqb e 2 n.1),
    )

-- ---- Document 02: "a recording rotated by d places (place j holds what place j+d held, modulo P) gives a response rotated by the same d, for every accepted
-- register, every recording in range and every d from 0 to P-1, and … the highest and lowest levels, and the size of the level at the peak, are unchanged when
-- one such day stands alone, neither recording being set aside. Where several places are equally large the peak remains the first, so its sign may change if two
-- of them have opposite signs, and otherwise may not."
--
-- `late P d y` is y with each of its periods of P rotated by d: a recording is one period, and a capture several. `LateBy d`: two runs of the same order and taps,
-- in each of which one day stands alone, with as many periods, and at place j of the second's slot lies what place j + d of the first's does. `Given w l`: a
-- summary of w gives the levels l. `places w` is P, and `response_of w` is r from the sums. `Opposed n r`: two of the places 0 to n - 1 where |r| is largest have
-- opposite signs. `neg x` is the double x with the other sign.

pub record Lateness : Type 0 where
  pub rotated : (P d m : ℕ) (y : List ℤ) → length y ≡ m * P → (i j : ℕ) → i < m → j < P → at (late P d y) (i * P + j) ≡ at y (i * P + (j + d) % P)
  -- one recording, accepted or refused
  pub recording : (N taps d : ℕ) (y out room : List ℤ) (tags : List ℕ) → let o = recording_outcome N taps y out room tags in o.0 ≡ 0
      → let v = recording_outcome N taps (late (P N) d y) out room tags in
      (v.0 ≡ 0) × ((k : ℕ) → k < P N → at v.1 k ≡ at o.1 ((k + d) % P N)) × (v.2 ≡ o.2) × (v.3 ≡ o.3)
  pub refused : (N taps d : ℕ) (y out room : List ℤ) (tags : List ℕ) → ((recording_outcome N taps y out room tags).0 ≡ 0 → ⊥)
      → recording_outcome N taps (late (P N) d y) out room tags ≡ recording_outcome N taps y out room tags
  -- a night of either kind: one is judged kept exactly if the other is; entered, both answer the same number, and make the same of the day
  pub judged : (N taps d : ℕ) (night : Night) (y : List ℤ) → (judging N taps night (late (P N) d y) ≡ judged.Kept) ↔ (judging N taps night y ≡ judged.Kept)
  pub entered : (w : World) (day d : ℕ) (night : Night) (y : List ℤ) → let z = late (P w.campaign.order) d y in
      (answer w (call.enter day night z) ≡ answer w (call.enter day night y))
      × (answer w (call.enter day night y) ≡ 0 → makes w (call.enter day night z) ≡ makes w (call.enter day night y))
  -- entered where no day stands, and kept, either stands alone
  pub alone : (w₀ : World) (cs : List Call) → under_way w₀ cs ≡ true → ((e : ℕ) → 1 ≤ e → e ≤ 366 → made w₀ cs e ≡ standing → ⊥)
      → (day d : ℕ) (night : Night) (y : List ℤ) → let w = run w₀ cs in
      answer w (call.enter day night y) ≡ 0 → makes w (call.enter day night y) ≡ standing
      → LateBy d w₀ w₀ (call.enter day night y ∷ cs) (call.enter day night (late (P w.campaign.order) d y) ∷ cs) day day
  -- the levels of two such campaigns
  pub levels : (d : ℕ) (w₁ w₂ : World) (cs₁ cs₂ : List Call) (day₁ day₂ : ℕ) → under_way w₁ cs₁ ≡ true → under_way w₂ cs₂ ≡ true
      → LateBy d w₁ w₂ cs₁ cs₂ day₁ day₂ → (l₁ l₂ : Levels) → Given (run w₁ cs₁) l₁ → Given (run w₂ cs₂) l₂
      → (l₂.highest ≡ l₁.highest) × (l₂.lowest ≡ l₁.lowest) × ((l₂.peak ≡ l₁.peak) ⊎ (l₂.peak ≡ neg l₁.peak))
      × ((Opposed (places (run w₁ cs₁)) (response_of (run w₁ cs₁)) → ⊥) → l₂.peak ≡ l₁.peak)
  -- and where two of the largest places have opposite signs, some d does change the sign
  pub sign : (w₁ : World) (cs₁ : List Call) (day₁ : ℕ) → under_way w₁ cs₁ ≡ true → Opposed (places (run w₁ cs₁)) (response_of (run w₁ cs₁))
      → (d : ℕ) × (d < places (run w₁ cs₁)) × ((w₂ : World) (cs₂ : List Call) (day₂ : ℕ) → under_way w₂ cs₂ ≡ true → LateBy d w₁ w₂ cs₁ cs₂ day₁ day₂
      → (l₁ l₂ : Levels) → Given (run w₁ cs₁) l₁ → Given (run w₂ cs₂) l₂ → (l₂.peak ≡ neg l₁.peak) × (l₂.peak ≡ l₁.peak → ⊥))

pub starts-late : Lateness
starts-late =
    record {
      rotated = λ P d m y. late_place P d y m;
      recording = λ N taps d y out room tags e.
          let a = accepted-late N taps d y out room tags e in
          (ap (λ o. o.0) a, output-late N taps d y out room tags e, ap (λ o. o.2) a, ap (λ o. o.3) a);
      refused = refused_late;
      judged = λ N taps d night y. kept_late N d night y taps;
      entered = λ w day d night y. (answer-late w day d night y, makes-late w day d night y);
      alone = λ w₀ cs u none day d night y e k. late_by w₀ cs u day night y (λ f r. none f r.first r.last) e k d;
      levels = λ d w₁ w₂ cs₁ cs₂ day₁ day₂ u₁ u₂ b l₁ l₂ g₁ g₂.
          let s = alone_late d w₁ w₂ cs₁ cs₂ u₁ u₂ day₁ day₂ b in
          let m = levels_late d (run w₁ cs₁) (run w₂ cs₂) (every-run.holds w₁ cs₁ u₁) (every-run.holds w₂ cs₂ u₂) s g₁ g₂ in
          (m.highest, m.lowest, m.size, m.peak);
      sign = λ w₁ cs₁ day₁ u₁ o.
          let t = peak_turns (run w₁ cs₁) (every-run.holds w₁ cs₁ u₁) o in (
            t.by,
            t.by_within,
            λ w₂ cs₂ day₂ u₂ b. t.turns (run w₂ cs₂) (every-run.holds w₂ cs₂ u₂) (alone_late t.by w₁ w₂ cs₁ cs₂ u₁ u₂ day₁ day₂ b),
          );
    }

-- ---- Document 02: "period p, x(0) = -1, x(n) = 1 when n is a square modulo p, otherwise -1. Offer exactly p = 7, 11, 19, 23, 31, 43, 47, 59, 67, 71, 79, 83, 103,
-- 107 and 127. The autocorrelation is p at shift 0 and -1 elsewhere and the sequence sums to -1, so the formula of 01 recovers p+1 times the response by direct
-- correlation, with no working room. Sequence, prediction and one recording are wanted … The recovery law is to be shown once over any sequence with these two
-- properties, registers included. Refusals: 25 for another period, in the place of 1 to 4; then 5, 6, 7, 8 as they stand."
--
-- `signal p n` is x(n); place n of the sequence's output is the bit s(n), 0 where x(n) is 1 and 1 where it is -1. Indices count modulo p, as in demand 2. The order of
-- the checks is in `Refusals` above, and what a longer output keeps in `Tails`.

-- p is one of the fifteen
abbrev pub Offered : ℕ → Type 0
Offered p =
    (p ≡ 7) ⊎ (p ≡ 11) ⊎ (p ≡ 19) ⊎ (p ≡ 23) ⊎ (p ≡ 31) ⊎ (p ≡ 43) ⊎ (p ≡ 47) ⊎ (p ≡ 59) ⊎ (p ≡ 67) ⊎ (p ≡ 71) ⊎ (p ≡ 79) ⊎ (p ≡ 83) ⊎ (p ≡ 103)
    ⊎ (p ≡ 107) ⊎ (p ≡ 127)

-- n is a square modulo p
abbrev pub Square : ℕ → ℕ → Type 0
Square p n = (i : ℕ) × (i * i % p ≡ n)

-- f has `one` where the request has 1, and `minus` where it has -1
pub record AsWorded {A : Type 0} (p : ℕ) (one minus : A) (f : ℕ → A) : Type 0 where
  pub at_0 : f 0 ≡ minus
  pub square : (n : ℕ) → 0 < n → n < p → Square p n → f n ≡ one
  pub otherwise : (n : ℕ) → 0 < n → n < p → (Square p n → ⊥) → f n ≡ minus

-- the two properties, of any x of period P
pub record TwoProperties (P : ℕ) (x : ℕ → ℤ) : Type 0 where
  pub sums : sum P x ≡ negsuc 0
  pub at_0 : sum P (λ j. x j *ℤ x ((j + 0) % P)) ≡ pos P
  pub elsewhere : (d : ℕ) → 0 < d → d < P → sum P (λ j. x j *ℤ x ((j + d) % P)) ≡ negsuc 0

pub record ShortRooms : Type 0 where
  pub twenty-five : (p : ℕ) → ((out : List ℕ) → ((legendre.sequence_outcome p out).0 ≡ 25) ↔ (Offered p → ⊥))
      × ((y out : List ℤ) → ((legendre.recording_outcome p y out).0 ≡ 25) ↔ (Offered p → ⊥))
      × ((h out : List ℤ) → ((legendre.prediction_outcome p h out).0 ≡ 25) ↔ (Offered p → ⊥))
  -- and it is offered: with an output of p, and p samples in their range, no call refuses it
  pub taken : (p : ℕ) → Offered p → ((out : List ℕ) → p ≤ length out → (legendre.sequence_outcome p out).0 ≡ 0)
      × ((y out : List ℤ) → length y ≡ p → p ≤ length out → ((j : ℕ) → j < p → sample_out (at y j) ≡ false) → (legendre.recording_outcome p y out).0 ≡ 0)
      × ((h out : List ℤ) → length h ≡ p → p ≤ length out → ((j : ℕ) → j < p → sample_out (at h j) ≡ false)
      → ((j : ℕ) → j < p → sample_out (sum p (λ i. at h i *ℤ signal p ((j + (p - i)) % p))) ≡ false) → (legendre.prediction_outcome p h out).0 ≡ 0)
  pub as_worded : (p : ℕ) → Offered p → AsWorded p (pos 1) (negsuc 0) (signal p)
  pub sequence : (p : ℕ) (out : List ℕ) → let o = legendre.sequence_outcome p out in o.0 ≡ 0 → AsWorded p 0 1 (λ n. get_or o.1 n 0)
  pub two_properties : (p : ℕ) → Offered p → TwoProperties p (signal p)
  -- the formula of 01
  pub recording : (p : ℕ) (y out : List ℤ) → let o = legendre.recording_outcome p y out in o.0 ≡ 0
      → (k : ℕ) → k < p → at o.1 k ≡ sum p (λ j. at y j *ℤ signal p ((j + (p - k)) % p)) -ℤ sum p (at y)
  pub no_overflow : (p : ℕ) (y out : List ℤ) → let o = legendre.recording_outcome p y out in o.0 ≡ 0
      → (k : ℕ) → k < p → nat_abs (at o.1 k) ≤ (p + 1) * 2 ^ 23
  pub prediction : (p : ℕ) (h out : List ℤ) → let o = legendre.prediction_outcome p h out in o.0 ≡ 0
      → (j : ℕ) → j < p → at o.1 j ≡ sum p (λ i. at h i *ℤ signal p ((j + (p - i)) % p))
  -- it recovers p+1 times the response: of every recording that is a convolution of a whole-number response, and from the one call through the other
  pub recovers : (p : ℕ) (y out : List ℤ) → let o = legendre.recording_outcome p y out in o.0 ≡ 0
      → (h : ℕ → ℤ) → ((j : ℕ) → j < p → at y j ≡ sum p (λ i. h i *ℤ signal p ((j + (p - i)) % p)))
      → (k : ℕ) → k < p → at o.1 k ≡ pos (p + 1) *ℤ h k
  pub there_and_back : (p : ℕ) (h out back : List ℤ) → let y = legendre.prediction_outcome p h out in y.0 ≡ 0 → p ≤ length back
      → let o = legendre.recording_outcome p (take p y.1) back in (o.0 ≡ 0) × ((k : ℕ) → k < p → at o.1 k ≡ pos (p + 1) *ℤ at h k)
  -- shown once over any sequence with these two properties, registers included
  pub any_sequence : (P : ℕ) (x : ℕ → ℤ) → TwoProperties P x → (h y : ℕ → ℤ)
      → ((j : ℕ) → j < P → y j ≡ sum P (λ i. h i *ℤ x ((j + (P - i)) % P)))
      → (k : ℕ) → k < P → sum P (λ j. y j *ℤ x ((j + (P - k)) % P)) -ℤ sum P y ≡ pos (P + 1) *ℤ h k
  pub registers : (N taps : ℕ) → taps_answer N taps ≡ 0 → TwoProperties (P N) (wave N taps)
  -- no working room: 6 exactly where 25 and 5 pass and the output is shorter than p
  pub sequence_six : (p : ℕ) (out : List ℕ) → ((legendre.sequence_outcome p out).0 ≡ 6) ↔ (Offered p × (length out < p))
  pub recording_six : (p : ℕ) (y out : List ℤ) → ((legendre.recording_outcome p y out).0 ≡ 6) ↔ ((Offered p × (length y ≡ p)) × (length out < p))
  pub prediction_six : (p : ℕ) (h out : List ℤ) → ((legendre.prediction_outcome p h out).0 ≡ 6) ↔ ((Offered p × (length h ≡ p)) × (length out < p))

pub short_rooms : ShortRooms
unfolding formula.response formula.correlation formula.prediction formula.autocorrelation signal sign
short_rooms =
    record {
      twenty-five = λ p. (of_legendre.sequence_other p, of_legendre.recording_other p, of_legendre.prediction_other p);
      taken = λ p o. (λ out. of_legendre.sequence_taken p out o, λ y out. of_legendre.recording_taken p y out o, λ h out. of_legendre.prediction_taken p h out o);
      as_worded = λ p o. worded p ((fifteen.one_of p).1 o) sign (signal p) (λ n _. refl);
      sequence = λ p out e. worded p (not-false (offered p) (of_legendre.sequence_passed p out e).0) (λ s. s) _ (legendre_sequence_at p out e);
      two_properties = λ p o. properties p (signal p) (flat p ((fifteen.one_of p).1 o));
      recording = legendre_response-at;
      no_overflow = legendre_response_small;
      prediction = legendre_prediction-at;
      recovers = λ p y out e h each k l.
          legendre_response-at p y out e k l ∙ recovered p (signal p) (flat p (not-false (offered p) (of_legendre.recording-passed p y out e).0)) h (at y) each k l;
      there_and_back = λ p h out back e l.
          let o = there_and_back p h out back e l in (
            ap (λ (b : ℕ × List ℤ). b.0) o,
            λ k m. ap (λ (b : ℕ × List ℤ). at b.1 k) o ∙ at-put p _ back k (pos 0) m ∙ ap (λ n. pos n *ℤ at h k) (sym (add-one p)),
          );
      any_sequence = λ n x t. recovered n x (record { mean = t.sums; power = sym (shift_0 n x) ∙ t.at_0; shifted = t.elsewhere });
      registers = λ N taps e. properties (P N) (wave N taps) (of_register.flat N taps (generator ((accepted_exactly N taps).0 e)));
      sequence_six = of_legendre.sequence_six;
      recording_six = of_legendre.recording_six;
      prediction_six = of_legendre.prediction_six;
    }
  where
    worded : {A : Type 0} (p : ℕ) → offered p ≡ true → (of : ℕ → A) (f : ℕ → A) → ((n : ℕ) → n < p → f n ≡ of (legendre_bit p n)) → AsWorded p (of 0) (of 1) f
    worded p o of f is =
        let some = (fifteen.short p o).0 in
        record {
          at_0 = is 0 some ∙ ap of (bit-first p);
          square = λ n a b q. is n b ∙ ap of (bit-square p n a some q.0 q.1);
          otherwise = λ n a b none. is n b ∙ ap of (bit_other p n a (λ i e. none (i, e)));
        }

    properties : (n : ℕ) (x : ℕ → ℤ) → formula.Flat n x → TwoProperties n x
    properties n x f = record { sums = f.mean; at_0 = shift_0 n x ∙ f.power; elsewhere = f.shifted }

    recovered : (n : ℕ) (x : ℕ → ℤ) → formula.Flat n x → (h y : ℕ → ℤ) → ((j : ℕ) → j < n → y j ≡ formula.prediction n x h j)
        → (k : ℕ) → k < n → formula.response n x y k ≡ pos (n + 1) *ℤ h k
    recovered n x t h y each k l = response_ext n x each k ∙ recovery n x t h k l ∙ ap (λ m. pos m *ℤ h k) (sym (add-one n))

-- ---- 3. "After any run of calls from a fresh campaign, refused ones included and its lent memory untouched between, each day's state is what the last
-- accepted call naming that day made it, or unseen if there was none. The sums total, place by place, the last recordings accepted for exactly the days
-- then standing. If at least one day stands, and each such recording is the circular convolution of a whole-number response with the sequence, the
-- answer at every place is exactly P + 1 times the sum of those responses there."
--
-- Request 1 of document 02 reads it with a day's term as the sum of its periods, `term_at P (heard w₀ cs d) j` at place j, each a convolution of its own
-- whole-number response: h d p is that of period p of day d. The calls `cs`, the latest first, lead from w₀, a record and memory that may hold anything, to w. A start may come again: refused, the campaign goes
-- on; accepted, it names every day, and a new campaign begins. The order, taps, capacity and edition are those of the last accepted
-- start (`begun`).

pub record Said (w₀ : World) (cs : List Call) (w : World) : Type 0 where
  pub each_day : (d : ℕ) → 1 ≤ d → d ≤ 366 → state w.campaign d ≡ made w₀ cs d
  pub sums : let N = (begun w₀ cs).order in (j : ℕ) → j < P N
      → at w.sums j ≡ sum 366 (λ i. cond (eqb (made w₀ cs (i + 1)) standing) (term_at (P N) (heard w₀ cs (i + 1)) j) (pos 0))
  pub periods : periods_standing w.campaign ≡ total 366 (λ i. cond (eqb (made w₀ cs (i + 1)) standing) (heard w₀ cs (i + 1)).periods 0)
  pub response : let N = (begun w₀ cs).order in (h : ℕ → ℕ → ℕ → ℤ)
      → ((d : ℕ) → 1 ≤ d → d ≤ 366 → made w₀ cs d ≡ standing → (p : ℕ) → p < (heard w₀ cs d).periods → (j : ℕ) → j < P N
      → at (heard w₀ cs d).samples (p * P N + j) ≡ sum (P N) (λ i. h d p i *ℤ wave N (begun w₀ cs).taps ((j + (P N - i)) % P N)))
      → (d : ℕ) → 1 ≤ d → d ≤ 366 → made w₀ cs d ≡ standing
      → (r mean room : List ℤ) (tags : List ℕ) → P N ≤ length r → P N ≤ length mean → P N + 1 ≤ length room → P N ≤ length tags
      → let o = response_outcome w.campaign w.store w.sums r mean room tags in
      (o.0 ≡ 0)
      × ((k : ℕ) → k < P N → at o.1 k
      ≡ pos (P N + 1) *ℤ sum 366 (λ i. cond (eqb (made w₀ cs (i + 1)) standing) (sum (heard w₀ cs (i + 1)).periods (λ p. h (i + 1) p k)) (pos 0)))
  -- and what document 01 adds
  pub order : w.campaign.order ≡ (begun w₀ cs).order
  pub taps : w.campaign.taps ≡ (begun w₀ cs).taps
  pub capacity : w.campaign.capacity ≡ (begun w₀ cs).capacity
  pub edition : w.campaign.edition ≡ (begun w₀ cs).edition
  pub holds : together w.campaign w.store w.sums ≡ true
  pub no_fifteen : (call : Call) → answer w call ≡ 15 → ⊥
  pub refused : (call : Call) → (answer w call ≡ 0 → ⊥) → after w call ≡ w
  pub counts : let days : ℕ → ℕ = λ q. many 366 (λ i. eqb (made w₀ cs (i + 1)) q) in counts_outcome w.campaign w.store w.sums
      ≡ Ok (record {
        unseen = days unseen;
        standing = days standing;
        overloaded = days overloaded;
        dead = days dead;
        withdrawn = days withdrawn;
      })

-- of every run in which a start was accepted
pub said : (w₀ : World) (cs : List Call) → under_way w₀ cs ≡ true → Said w₀ cs (run w₀ cs)
unfolding every-run.days_made every-run.responses formula.prediction
said w₀ cs u =
    record {
      each_day = λ d a b. every-run.each_day w₀ cs u d (record { first = a; last = b });
      sums = every-run.sums_are w₀ cs u;
      periods = every-run.periods_are w₀ cs u;
      response = λ h v d a b e r mean room tags l1 l2 l3 l4.
          rw (add-one (P (begun w₀ cs).order))
          (every-run.recovered w₀ cs u h (λ d y. v d y.first y.last) d (record { first = a; last = b }) e r mean room tags
          (record { r_long = l1; mean_long = l2; room_long = l3; tags_long = l4 }));
      order = (every-run.same_order w₀ cs u).0;
      taps = (every-run.same_order w₀ cs u).1;
      capacity = (every-run.same_order w₀ cs u).2;
      edition = (every-run.same_order w₀ cs u).3;
      holds = every-run.holds w₀ cs u;
      no_fifteen = every-run.no_fifteen w₀ cs u;
      refused = refused_leaves (run w₀ cs);
      counts = every-run.counts_are w₀ cs u;
    }

-- so of every run that begins with an accepted start
pub demand_3 : (w₀ : World) (N taps C E : ℕ) → (start_outcome w₀.campaign N taps C E w₀.store w₀.sums).0.answer.number ≡ 0
    → (cs : List Call) → let all = cs ++ call.start N taps C E ∷ [] in Said w₀ all (run w₀ all)
demand_3 w₀ N taps C E e cs = said _ _ (from_start w₀ N taps C E e cs)

-- ---- Document 01: "A kept entry followed at once by its withdrawal gives back store, sums and slots bit for bit. With calls on other days between, the sums
-- and the set of standing days are as if it had not come, provided none of those calls was refused with 12; slots may differ."
--
-- At once the table of m is back as well. It holds of every filing, by whatever verdict, and so of an entry. `makes` is what an accepted call makes of its day: standing, so it is kept. `Elsewhere`: the calls between name other days than d, and none of
-- them is refused with 12.

pub record TakenBack (w₀ : World) (cs : List Call) (d : ℕ) (night : Night) (y : List ℤ) (s : Shown) : Type 0 where
  pub at_once : let w = run w₀ (call.withdraw d ∷ call.file d night y s ∷ cs) in
      (w.store ≡ (run w₀ cs).store) × (w.sums ≡ (run w₀ cs).sums) × (w.campaign.slots ≡ (run w₀ cs).campaign.slots)
      × (w.campaign.periods ≡ (run w₀ cs).campaign.periods)
  pub as_if : (between : List Call) → Elsewhere w₀ d (call.file d night y s ∷ cs) between
      → let with_it = run w₀ (call.withdraw d ∷ between ++ call.file d night y s ∷ cs) in
      let without_it = run w₀ (between ++ cs) in
      (answer (run w₀ (between ++ call.file d night y s ∷ cs)) (call.withdraw d) ≡ 0)
      × ((j : ℕ) → j < P (begun w₀ cs).order → at with_it.sums j ≡ at without_it.sums j)
      × ((e : ℕ) → 1 ≤ e → e ≤ 366 → stands with_it.campaign e ≡ stands without_it.campaign e)

pub taken_back : (w₀ : World) (cs : List Call) → under_way w₀ cs ≡ true → (d : ℕ) → 1 ≤ d → d ≤ 366 → (night : Night) (y : List ℤ) (s : Shown)
    → answer (run w₀ cs) (call.file d night y s) ≡ 0 → makes (run w₀ cs) (call.file d night y s) ≡ standing → TakenBack w₀ cs d night y s
unfolding run
taken_back w₀ cs u d a b night y s e k =
    let r : Day d = record { first = a; last = b } in
    let o = as_if.at_once w₀ cs u d night y s r e k in
    record {
      at_once = (o.store, o.sums, o.slots, o.periods);
      as_if = λ between n.
          let t = as_if.as_if w₀ cs u d night y s r e k between n in (
            t.0,
            t.1.sums,
            λ i l h. t.1.days i (record { first = l; last = h }),
          );
    }

-- ---- It is about something: order 2, taps 3, two slots, on memory that held nines; two nights, of which the second is a capture of two periods that is judged
-- first and then filed, the first withdrawn; computed.

-- the convolution of 9, 0, -4 with the sequence 1, 1, 0
abbrev pub night_1 : List ℤ
night_1 = negsuc 4 ∷ negsuc 12 ∷ pos 13 ∷ []

-- a run-in at the rail, and then the convolutions of 4, 0, 1 and of 2, 1, 0
abbrev pub night_2 : List ℤ
night_2 = pos 8388607 ∷ pos 0 ∷ pos 0 ∷ negsuc 4 ∷ negsuc 2 ∷ pos 3 ∷ negsuc 0 ∷ negsuc 2 ∷ pos 1 ∷ []

-- samples 7 apart
abbrev pub night_3 : List ℤ
night_3 = pos 0 ∷ pos 7 ∷ pos 3 ∷ []

abbrev pub nights : List Call
nights = call.file 2 (capture 2) night_2 (handed judged.Kept) ∷ call.judge 2 3 (capture 2) night_2 ∷ call.enter 1 period night_1 ∷ call.start 2 3 2 away_from_zero ∷ []

-- what is lent, and what the start, each night and the withdrawal make of it
abbrev pub lent : World
lent = record { campaign = fresh 3 5 1 away_from_zero; store = replicate 7 (pos 9); sums = replicate 4 (pos 9) }

abbrev pub began : World
began =
    record {
      campaign = fresh 2 3 2 away_from_zero;
      store = pos 0 ∷ pos 0 ∷ pos 0 ∷ pos 0 ∷ pos 0 ∷ pos 0 ∷ pos 9 ∷ [];
      sums = pos 0 ∷ pos 0 ∷ pos 0 ∷ pos 9 ∷ [];
    }

abbrev pub one_night : World
one_night =
    record {
      campaign = filed (fresh 2 3 2 away_from_zero) 1 standing 0 1 1;
      store = negsuc 4 ∷ negsuc 12 ∷ pos 13 ∷ pos 0 ∷ pos 0 ∷ pos 0 ∷ pos 9 ∷ [];
      sums = negsuc 4 ∷ negsuc 12 ∷ pos 13 ∷ pos 9 ∷ [];
    }

abbrev pub two_nights : World
two_nights =
    record {
      campaign = filed (filed (fresh 2 3 2 away_from_zero) 1 standing 0 1 1) 2 standing 1 2 2;
      store = negsuc 4 ∷ negsuc 12 ∷ pos 13 ∷ negsuc 5 ∷ negsuc 5 ∷ pos 4 ∷ pos 9 ∷ [];
      sums = negsuc 10 ∷ negsuc 18 ∷ pos 17 ∷ pos 9 ∷ [];
    }

abbrev pub one-dead : World
one-dead = record { campaign = marked two_nights.campaign 3 dead; store = two_nights.store; sums = two_nights.sums }

abbrev pub one_left : World
one_left =
    record {
      campaign = filed (filed (filed (fresh 2 3 2 away_from_zero) 1 standing 0 1 1) 2 standing 1 2 2) 1 withdrawn 0 0 0;
      store = pos 0 ∷ pos 0 ∷ pos 0 ∷ negsuc 5 ∷ negsuc 5 ∷ pos 4 ∷ pos 9 ∷ [];
      sums = negsuc 5 ∷ negsuc 5 ∷ pos 4 ∷ pos 9 ∷ [];
    }

-- a response with one place more than it needs in r, and twice the tags
abbrev pub asked : World → ℕ × List ℤ × List ℤ × List ℤ × List ℕ
asked w = response_outcome w.campaign w.store w.sums (replicate 4 (pos 9)) (replicate 3 (pos 9)) (replicate 4 (pos 9)) (replicate 6 9)

-- its tags after it
abbrev pub half-zeros : List ℕ
half-zeros = 0 ∷ 0 ∷ 0 ∷ 9 ∷ 9 ∷ 9 ∷ []

pub record Witness : Type 0 where
  pub started : (start_outcome lent.campaign 2 3 2 away_from_zero lent.store lent.sums).0.answer.number ≡ 0
  pub begins : run lent (call.start 2 3 2 away_from_zero ∷ []) ≡ began
  pub first_night : (answer began (call.enter 1 period night_1) ≡ 0) × (run lent (call.enter 1 period night_1 ∷ call.start 2 3 2 away_from_zero ∷ []) ≡ one_night)
  pub second_judged : judge_outcome 2 3 (capture 2) night_2 ≡ record { verdict = judged.Kept; period = 3 }
  pub second_night : (answer one_night (call.file 2 (capture 2) night_2 (handed judged.Kept)) ≡ 0) × (run lent nights ≡ two_nights)
  -- another verdict is refused, and all is as it was
  pub second_otherwise : (answer one_night (call.file 2 (capture 2) night_2 (handed judged.Dead)) ≡ 23)
      × (after one_night (call.file 2 (capture 2) night_2 (handed judged.Dead)) ≡ one_night)
  pub both : asked two_nights ≡ (0, pos 60 ∷ pos 4 ∷ negsuc 11 ∷ pos 9 ∷ [], pos 5 ∷ pos 0 ∷ negsuc 0 ∷ [], replicate 4 (pos 0), half-zeros)
  -- a third night is dead, and store and sums stay
  pub quiet_night : (answer two_nights (call.enter 3 period night_3) ≡ 0)
      × (after two_nights (call.enter 3 period night_3) ≡ one-dead)
  pub withdrawal : (answer two_nights (call.withdraw 1) ≡ 0) × (run lent (call.withdraw 1 ∷ nights) ≡ one_left)
  pub days : (made lent (call.withdraw 1 ∷ nights) 1 ≡ withdrawn) × (made lent (call.withdraw 1 ∷ nights) 2 ≡ standing)
      × (made lent (call.withdraw 1 ∷ nights) 3 ≡ unseen)
  pub second : asked one_left ≡ (0, pos 24 ∷ pos 4 ∷ pos 4 ∷ pos 9 ∷ [], pos 3 ∷ pos 1 ∷ pos 1 ∷ [], replicate 4 (pos 0), half-zeros)
  -- a start refused with 4 tells after how many steps the register returns
  pub short_start : start_outcome lent.campaign 4 15 2 away_from_zero lent.store lent.sums
      ≡ (record { answer = record { number = 4; period = 5 }; campaign = lent.campaign }, lent.store, lent.sums)
  -- a refused start leaves the campaign, an accepted one begins another
  pub refused_start : (answer two_nights (call.start 17 3 2 away_from_zero) ≡ 1) × (after two_nights (call.start 17 3 2 away_from_zero) ≡ two_nights)
  pub no_edition : (answer two_nights (call.start 2 3 2 3) ≡ 24) × (after two_nights (call.start 2 3 2 3) ≡ two_nights)
  pub new_start : (answer two_nights (call.start 2 3 1 to_even) ≡ 0)
      × (after two_nights (call.start 2 3 1 to_even)
      ≡ record {
        campaign = fresh 2 3 1 to_even;
        store = pos 0 ∷ pos 0 ∷ pos 0 ∷ negsuc 5 ∷ negsuc 5 ∷ pos 4 ∷ pos 9 ∷ [];
        sums = pos 0 ∷ pos 0 ∷ pos 0 ∷ pos 9 ∷ [];
      })

start_computed : ((start_outcome lent.campaign 2 3 2 away_from_zero lent.store lent.sums).0.answer.number ≡ 0) × (after lent (call.start 2 3 2 away_from_zero) ≡ began)
unfolding start_outcome register.period seek table put window step dot ones
start_computed = (refl, refl)

first_computed : (answer began (call.enter 1 period night_1) ≡ 0) × (after began (call.enter 1 period night_1) ≡ one_night)
unfolding file_outcome judge_outcome term finding together taps_answer register.period seek some every many total sum table put put_at window step dot ones
first_computed = (refl, refl)

judged_computed : judge_outcome 2 3 (capture 2) night_2 ≡ record { verdict = judged.Kept; period = 3 }
unfolding judge_outcome finding register.period seek some every window step dot ones
judged_computed = refl

second_computed : (answer one_night (call.file 2 (capture 2) night_2 (handed judged.Kept)) ≡ 0) × (after one_night (call.file 2 (capture 2) night_2 (handed judged.Kept)) ≡ two_nights)
unfolding file_outcome judge_outcome term finding together taps_answer register.period seek some every many total sum table put put_at window step dot ones
second_computed = (refl, refl)

otherwise_computed : (answer one_night (call.file 2 (capture 2) night_2 (handed judged.Dead)) ≡ 23)
    × (after one_night (call.file 2 (capture 2) night_2 (handed judged.Dead)) ≡ one_night)
unfolding file_outcome judge_outcome term finding together taps_answer register.period seek some every many total sum table put put_at window step dot ones
otherwise_computed = (refl, refl)

quiet_computed : (answer two_nights (call.enter 3 period night_3) ≡ 0)
    × (after two_nights (call.enter 3 period night_3) ≡ one-dead)
unfolding file_outcome judge_outcome term finding together taps_answer register.period seek some every many total sum table put put_at window step dot ones
quiet_computed = (refl, refl)

withdrawal_computed : (answer two_nights (call.withdraw 1) ≡ 0) × (after two_nights (call.withdraw 1) ≡ one_left)
unfolding withdraw_outcome together taps_answer register.period seek some every many total sum table put put_at window step dot ones
withdrawal_computed = (refl, refl)

led : (run lent (call.start 2 3 2 away_from_zero ∷ []) ≡ began) × (run lent (call.enter 1 period night_1 ∷ call.start 2 3 2 away_from_zero ∷ []) ≡ one_night)
    × (run lent nights ≡ two_nights) × (run lent (call.withdraw 1 ∷ nights) ≡ one_left)
unfolding run
led =
    let a = start_computed.1 in
    let b = ap (λ w. after w (call.enter 1 period night_1)) a ∙ first_computed.1 in
    let c = ap (λ w. after w (call.file 2 (capture 2) night_2 (handed judged.Kept))) b ∙ second_computed.1 in
    (a, b, c, ap (λ w. after w (call.withdraw 1)) c ∙ withdrawal_computed.1)

pub witness : Witness
unfolding start_outcome response_outcome together taps_answer register.period seek some every many total sum sign table put nearest nearest_in formula.response formula.correlation wave bit window step dot ones
witness =
    record {
      started = start_computed.0;
      begins = led.0;
      first_night = (first_computed.0, led.1);
      second_judged = judged_computed;
      second_night = (second_computed.0, led.2);
      second_otherwise = otherwise_computed;
      both = refl;
      quiet_night = quiet_computed;
      withdrawal = (withdrawal_computed.0, led.3);
      days = (day 1 (omega arith) (omega arith), day 2 (omega arith) (omega arith), day 3 (omega arith) (omega arith));
      second = refl;
      short_start = refl;
      refused_start = (refl, refl);
      no_edition = (refl, refl);
      new_start = (refl, refl);
    }
  where
    day : (d : ℕ) → 1 ≤ d → d ≤ 366 → made lent (call.withdraw 1 ∷ nights) d ≡ state one_left.campaign d
    day d a b =
        sym ((demand_3 lent 2 3 2 away_from_zero start_computed.0 (call.withdraw 1 ∷ call.file 2 (capture 2) night_2 (handed judged.Kept) ∷ call.judge 2 3 (capture 2) night_2 ∷ call.enter 1 period night_1 ∷ [])).each_day d a b)
        ∙ ap (λ w. state w.campaign d) led.3
