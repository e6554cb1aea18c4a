-- Any two outcomes that a call's contract permits are equal: for every public call of register, response, Legendre sequences, judging and campaign, what
-- its contract tells of two ends of one call makes the answers equal, and the record, the player and all memory lent. Assumes nothing.
use mathlib.Core.Path.{◌≡◌, refl, sym, ap, ap₂, ◌∙◌}
use mathlib.Core.List.{List, [], ◌∷◌}
use Prim.Native.Nat.{ℕ}
use contract.Lifetimes.{Lfts}
use borrow.Fn.Kinds.{ParamKind, ResultKind, Dens, Out, ended_of, res_t}
use denote.Triple.Clauses.{AtExit}
use lib.IntN.{ℤ}
use lib.Dec.{T}
use mathlib.Core.Bool.{Bool}
use Rattle.std.specs.Prelude.{Result, Ok, Err}
use Rattle.sums.specs.Refusals.{outcome}
use Rattle.sums.proofs.First.{lacks, not_first, answers_first}
use Rattle.refusals.specs.Causes.{answer, numbered, result_number, answer_period}
use Rattle.refusals.specs.declared.Refusal.{Refusal}
use Rattle.refusals.proofs.Causes.{same_said, same_numbered, same_answered, numbered_answer}
use Rattle.register.specs.Calls.{told, order_out, shape_checks}
use Rattle.defaults.specs.Calls.{default_rows, takes, default_outcome}
use Rattle.player.specs.Calls.{Stepped, Played, fresh_player, new_outcome, step_checks, step_outcome, play_outcome}
use Rattle.legendre.specs.Calls as legendre
use Rattle.records.specs.Record.{apart}
use Rattle.campaign.specs.Calls.{Withdrawn as Left, withdraw_checks, withdraw_outcome}
use Rattle.trend.specs.Calls.{tally, counts_outcome, response_checks, response_outcome}
use Rattle.trend.specs.declared.Tally.{Tally}
use Rattle.player.specs.declared.Player.{Player}
use Rattle.judging.specs.declared.Judgement.{Judgement}
use Rattle.campaign.specs.declared.Started.{Started}
use Rattle.campaign.specs.declared.Entered.{Entered}
use Rattle.campaign.specs.declared.Withdrawn.{Withdrawn}
use Rattle.trend.specs.declared.Summary.{Summary}
use Rattle.register.proofs.taps.check_taps.Kinds as check_taps_kinds
use Rattle.register.proofs.taps.check_taps.Reads as check_taps
use Rattle.defaults.proofs.taps.default_taps.Kinds as default_taps_kinds
use Rattle.defaults.proofs.taps.default_taps.Reads as default_taps
use Rattle.register.proofs.sequence.sequence.Kinds as sequence_kinds
use Rattle.register.proofs.sequence.sequence.Reads as sequence
use Rattle.player.proofs.clock.new_player.Kinds as new_player_kinds
use Rattle.player.proofs.clock.new_player.Reads as new_player
use Rattle.player.proofs.clock.step_player.Kinds as step_player_kinds
use Rattle.player.proofs.clock.step_player.Reads as step_player
use Rattle.player.proofs.clock.play.Kinds as play_kinds
use Rattle.player.proofs.clock.play.Reads as play
use Rattle.response.proofs.one_recording.Kinds as one-recording_kinds
use Rattle.response.proofs.one_recording.Reads as one-recording
use Rattle.prediction.proofs.predict.Kinds as predict_kinds
use Rattle.prediction.proofs.predict.Reads as predict
use Rattle.prediction.proofs.predict_in_room.Kinds as predict_in_room_kinds
use Rattle.prediction.proofs.predict_in_room.Reads as predict_in_room
use Rattle.legendre.proofs.sequence.sequence.Kinds as legendre_sequence_kinds
use Rattle.legendre.proofs.sequence.sequence.Reads as legendre_sequence
use Rattle.legendre.proofs.one_recording.Kinds as legendre_recording_kinds
use Rattle.legendre.proofs.one_recording.Reads as legendre_recording
use Rattle.legendre.proofs.predict.Kinds as legendre_predict_kinds
use Rattle.legendre.proofs.predict.Reads as legendre_predict
use Rattle.campaign.proofs.starting.start.Kinds as start_kinds
use Rattle.campaign.proofs.starting.start.Reads as start
use Rattle.judging.proofs.judging.judge.Kinds as judge_kinds
use Rattle.judging.proofs.judging.judge.Reads as judge
use Rattle.campaign.proofs.entering.file.Kinds as file_kinds
use Rattle.campaign.proofs.entering.file.Reads as file
use Rattle.campaign.proofs.entering.enter.Kinds as enter_kinds
use Rattle.campaign.proofs.entering.enter.Reads as enter
use Rattle.campaign.proofs.withdrawing.withdraw.Kinds as withdraw_kinds
use Rattle.campaign.proofs.withdrawing.withdraw.Reads as withdraw
use Rattle.trend.proofs.counting.counts.Kinds as counts_kinds
use Rattle.trend.proofs.counting.counts.Reads as counts
use Rattle.trend.proofs.answering.response.Kinds as response_kinds
use Rattle.trend.proofs.answering.response.Reads as response
use Rattle.trend.proofs.summarising.summary.Kinds as summary_kinds
use Rattle.trend.proofs.summarising.summary.Reads as summary

-- what a contract permits determines what is seen of the result and of the parameters at the end
abbrev pub Determined : (n : ℕ) (ps : List (ParamKind n)) (r : ResultKind n) (A : Type 0) → Out n ps r
    → ((κs : Lfts n) → (res_t r κs).Denot → AtExit (ended_of n ps r) κs → A) → Type 0
Determined n ps r A permits seen =
    (κs : Lfts n) (a : Dens κs ps) (x y : (res_t r κs).Denot) (s t : AtExit (ended_of n ps r) κs) → permits κs a x s → permits κs a y t
    → seen κs x s ≡ seen κs y t

-- ---- an answer is known by its number, and by its period where it has one

-- the answer itself, of a call whose outcome has it in numbers, and none of whose checks has the number 4
numbered_one : {A : Type 0} (checks : List (ℕ × Bool)) (made : A) → T (lacks 4 checks) → (x y : Result A Refusal)
    → numbered x ≡ outcome checks Err (Ok made) → numbered y ≡ outcome checks Err (Ok made) → x ≡ y
numbered_one checks made t x y p q =
    let n = sym (numbered_answer x) ∙ ap result_number p ∙ answers_first checks result_number Err (Ok made) (λ n. refl) refl in
    same_numbered x y (p ∙ sym q) (λ z. not_first 4 checks t (sym n ∙ z))

-- the same with what is lent
answered_one : {B : Type 0} (checks : List (ℕ × Bool)) (was made : B) → T (lacks 4 checks) → (x y : Result Unit Refusal) (s t : B)
    → ◌≡◌ {A = ℕ × B} (answer x, s) (outcome checks (λ n. (n, was)) (0, made)) → ◌≡◌ {A = ℕ × B} (answer y, t) (outcome checks (λ n. (n, was)) (0, made))
    → ◌≡◌ {A = Result Unit Refusal × B} (x, s) (y, t)
answered_one {B} checks was made l x y s t p q =
    let n = ap (λ (o : ℕ × B). o.0) p ∙ answers_first checks (λ (o : ℕ × B). o.0) (λ n. (n, was)) (0, made) (λ n. refl) refl in
    ap₂ (λ x y. (x, y)) (same_answered x y (ap (λ (o : ℕ × B). o.0) (p ∙ sym q)) (λ z. not_first 4 checks l (sym n ∙ z))) (ap (λ (o : ℕ × B). o.1) (p ∙ sym q))

-- the same of a call that asks for maximal taps, whose answer has a period
told_one : {A B : Type 0} (N taps : ℕ) (with : ℕ → B → A) (number : A → ℕ) (rest : A → B) → ((n : ℕ) (b : B) → number (with n b) ≡ n) → ((n : ℕ) (b : B) → rest (with n b) ≡ b)
    → {e : A} (x y : Result ℕ Refusal) (s t : B)
    → (with (answer x) s ≡ e) × (answer_period x ≡ told N taps (answer x) 0) → (with (answer y) t ≡ e) × (answer_period y ≡ told N taps (answer y) 0)
    → ◌≡◌ {A = Result ℕ Refusal × B} (x, s) (y, t)
told_one N taps with number rest back kept x y s t (p, h) (q, k) =
    let n : answer x ≡ answer y = sym (back (answer x) s) ∙ ap number (p ∙ sym q) ∙ back (answer y) t in
    ap₂ (λ x y. (x, y)) (same_said x y (ap₂ (λ n p. record { number = n; period = p }) n (h ∙ ap (λ n. told N taps n 0) n ∙ sym k)))
    (sym (kept (answer x) s) ∙ ap rest (p ∙ sym q) ∙ kept (answer y) t)

-- ---- register

pub check_taps_determined : Determined 0 check_taps_kinds.ps check_taps_kinds.r (Result ℕ Refusal) check_taps.Learnt (λ κs r s. r)
check_taps_determined κs a x y s t p q = same_said x y (p ∙ sym q)

pub default_taps_determined : Determined 0 default_taps_kinds.ps default_taps_kinds.r (Result ℕ Refusal) default_taps.Learnt (λ κs r s. r)
unfolding default_outcome
default_taps_determined κs a x y s t p q = numbered_one ((1, order_out a.0) ∷ []) (takes default_rows a.0) tt x y p q

pub sequence_determined : Determined 1 sequence_kinds.ps sequence_kinds.r (Result ℕ Refusal × List ℕ) sequence.Learnt (λ κs r s. (r, s.1.1.0.now))
sequence_determined κs a x y s t p q = told_one a.0 a.1.0 (λ n (o : List ℕ). (n, o)) (λ o. o.0) (λ o. o.1) (λ n o. refl) (λ n o. refl) x y _ _ p q

pub new_player_determined : Determined 0 new_player_kinds.ps new_player_kinds.r (Result Player Refusal) new_player.Learnt (λ κs r s. r)
unfolding new_outcome
new_player_determined κs a x y s t p q = numbered_one (shape_checks a.0 a.1.0) (fresh_player a.0 a.1.0) tt x y p q

-- a tick with its player
ticked_one : (before : Player) (x y : Result ℤ Refusal) (s t : Player) → step_outcome before ≡ record { tick = numbered x; player = s }
    → step_outcome before ≡ record { tick = numbered y; player = t } → ◌≡◌ {A = Result ℤ Refusal × Player} (x, s) (y, t)
unfolding step_outcome
ticked_one before x y s t p q =
    let n = sym (numbered_answer x) ∙ ap (λ (o : Stepped). result_number o.tick) (sym p)
    ∙ answers_first (step_checks before) (λ (o : Stepped). result_number o.tick) (λ n. record { tick = Err n; player = before }) _ (λ n. refl) refl in
    ap₂ (λ x y. (x, y)) (same_numbered x y (ap (λ (o : Stepped). o.tick) (sym p ∙ q)) (λ z. not_first 4 (step_checks before) tt (sym n ∙ z))) (ap (λ (o : Stepped). o.player) (sym p ∙ q))

-- an answer with its player and its signs
played_one : (before : Player) (l : List ℤ) (x y : Result Unit Refusal) (s t : Player) (m n : List ℤ)
    → play_outcome before l ≡ (record { answer = answer x; player = s }, m) → play_outcome before l ≡ (record { answer = answer y; player = t }, n)
    → ◌≡◌ {A = Result Unit Refusal × Player × List ℤ} (x, s, m) (y, t, n)
unfolding play_outcome
played_one before l x y s t m n p q =
    let k = ap (λ (o : Played × List ℤ). o.0.answer) (sym p)
    ∙ answers_first (step_checks before) (λ (o : Played × List ℤ). o.0.answer) (λ n. (record { answer = n; player = before }, l)) _ (λ n. refl) refl in
    ap₂ (λ x (o : Player × List ℤ). (x, o.0, o.1)) (same_answered x y (ap (λ (o : Played × List ℤ). o.0.answer) (sym p ∙ q)) (λ z. not_first 4 (step_checks before) tt (sym k ∙ z)))
    (ap (λ (o : Played × List ℤ). (o.0.player, o.1)) (sym p ∙ q))

pub step_player_determined : Determined 0 step_player_kinds.ps step_player_kinds.r (Result ℤ Refusal × Player) step_player.Learnt (λ κs r s. (r.tick, r.player))
step_player_determined κs a x y s t p q = ticked_one a.0 x.tick y.tick x.player y.player (sym p) (sym q)

pub play_determined : Determined 1 play_kinds.ps play_kinds.r (Result Unit Refusal × Player × List ℤ) play.Learnt (λ κs r s. (r.answer, r.player, s.1.0.now))
play_determined κs a x y s t p q = played_one a.0 a.1.0.now x.answer y.answer x.player y.player _ _ (sym p) (sym q)

-- the two that hold their player behind a reference, of which a contract tells in its own words
pub advance_determined : (before : Player) (x y : Result ℤ Refusal) (s t : Player) → step_outcome before ≡ record { tick = numbered x; player = s }
    → step_outcome before ≡ record { tick = numbered y; player = t } → ◌≡◌ {A = Result ℤ Refusal × Player} (x, s) (y, t)
advance_determined = ticked_one

pub fill_determined : (before : Player) (l : List ℤ) (x y : Result Unit Refusal) (s t : Player) (m n : List ℤ)
    → play_outcome before l ≡ (record { answer = answer x; player = s }, m) → play_outcome before l ≡ (record { answer = answer y; player = t }, n)
    → ◌≡◌ {A = Result Unit Refusal × Player × List ℤ} (x, s, m) (y, t, n)
fill_determined = played_one

-- ---- response

pub one-recording_determined : Determined 4 one-recording_kinds.ps one-recording_kinds.r (Result ℕ Refusal × List ℤ × List ℤ × List ℕ) one-recording.Learnt
    (λ κs r s. (r, s.1.1.1.0.now, s.1.1.1.1.0.now, s.1.1.1.1.1.0.now))
one-recording_determined κs a x y s t p q =
    ap (λ (o : Result ℕ Refusal × (List ℤ × List ℤ × List ℕ)). (o.0, o.1.0, o.1.1, o.1.2))
    (told_one a.0 a.1.0 (λ n (o : List ℤ × List ℤ × List ℕ). (n, o.0, o.1, o.2)) (λ o. o.0) (λ o. (o.1, o.2, o.3)) (λ n o. refl) (λ n o. refl) x y _ _ p q)

pub predict_determined : Determined 2 predict_kinds.ps predict_kinds.r (Result ℕ Refusal × List ℤ) predict.Learnt (λ κs r s. (r, s.1.1.1.0.now))
predict_determined κs a x y s t p q = told_one a.0 a.1.0 (λ n (o : List ℤ). (n, o)) (λ o. o.0) (λ o. o.1) (λ n o. refl) (λ n o. refl) x y _ _ p q

pub predict_in_room_determined : Determined 3 predict_in_room_kinds.ps predict_in_room_kinds.r (Result ℕ Refusal × List ℤ × List ℤ) predict_in_room.Learnt
    (λ κs r s. (r, s.1.1.1.0.now, s.1.1.1.1.0.now))
predict_in_room_determined κs a x y s t p q =
    ap (λ (o : Result ℕ Refusal × (List ℤ × List ℤ)). (o.0, o.1.0, o.1.1))
    (told_one a.0 a.1.0 (λ n (o : List ℤ × List ℤ). (n, o.0, o.1)) (λ o. o.0) (λ o. (o.1, o.2)) (λ n o. refl) (λ n o. refl) x y _ _ p q)

-- ---- Legendre sequences

pub legendre_sequence_determined : Determined 1 legendre_sequence_kinds.ps legendre_sequence_kinds.r (Result Unit Refusal × List ℕ) legendre_sequence.Learnt (λ κs r s. (r, s.1.0.now))
unfolding legendre.sequence_outcome
legendre_sequence_determined κs a x y s t p q = answered_one (legendre.sequence_checks a.0 a.1.0.now) a.1.0.now _ tt x y _ _ p q

pub legendre_recording_determined : Determined 2 legendre_recording_kinds.ps legendre_recording_kinds.r (Result Unit Refusal × List ℤ) legendre_recording.Learnt (λ κs r s. (r, s.1.1.0.now))
unfolding legendre.recording_outcome
legendre_recording_determined κs a x y s t p q = answered_one (legendre.recording_checks a.0 a.1.0.now a.1.1.0.now) a.1.1.0.now _ tt x y _ _ p q

pub legendre_predict_determined : Determined 2 legendre_predict_kinds.ps legendre_predict_kinds.r (Result Unit Refusal × List ℤ) legendre_predict.Learnt (λ κs r s. (r, s.1.1.0.now))
unfolding legendre.prediction_outcome
legendre_predict_determined κs a x y s t p q = answered_one (legendre.prediction_checks a.0 a.1.0.now a.1.1.0.now) a.1.1.0.now _ tt x y _ _ p q

-- ---- judging

pub judge_determined : Determined 1 judge_kinds.ps judge_kinds.r Judgement judge.Learnt (λ κs r s. r)
judge_determined κs a x y s t p q = p ∙ sym q

-- ---- campaign

pub start_determined : Determined 2 start_kinds.ps start_kinds.r (Started × List ℤ × List ℤ) start.Learnt (λ κs r s. (r, s.1.1.1.1.1.0.now, s.1.1.1.1.1.1.0.now))
start_determined κs a x y s t p q =
    let e = p ∙ sym q in
    ap₂ (λ a (b : List ℤ × List ℤ). (a, b.0, b.1))
    (ap₂ (λ a c. record { answer = a; campaign = c }) (same_said x.answer y.answer (ap (λ o. o.0.answer) e)) (ap (λ o. o.0.campaign) e))
    (ap (λ o. (o.1, o.2)) e)

pub file_determined : Determined 3 file_kinds.ps file_kinds.r (Entered × List ℤ × List ℤ) file.Learnt (λ κs r s. (r, s.1.0.now, s.1.1.0.now))
file_determined κs a x y s t p q = p ∙ sym q

pub enter_determined : Determined 3 enter_kinds.ps enter_kinds.r (Entered × List ℤ × List ℤ) enter.Learnt (λ κs r s. (r, s.1.0.now, s.1.1.0.now))
enter_determined κs a x y s t p q = p ∙ sym q

pub withdraw_determined : Determined 2 withdraw_kinds.ps withdraw_kinds.r (Withdrawn × List ℤ × List ℤ) withdraw.Learnt (λ κs r s. (r, s.1.0.now, s.1.1.0.now))
unfolding withdraw_outcome
withdraw_determined κs a x y s t p q =
    let e = p ∙ sym q in
    let checks = withdraw_checks a.0 a.1.0.now a.1.1.0.now a.1.1.1.0 in
    let n = ap (λ (o : Left × List ℤ × List ℤ). o.0.answer) p ∙ answers_first checks (λ (o : Left × List ℤ × List ℤ). o.0.answer) (λ n. (record { answer = n; campaign = a.0 }, a.1.0.now, a.1.1.0.now)) _ (λ n. refl) refl in
    ap₂ (λ a (b : List ℤ × List ℤ). (a, b.0, b.1))
    (ap₂ (λ a c. record { answer = a; campaign = c }) (same_answered x.answer y.answer (ap (λ (o : Left × List ℤ × List ℤ). o.0.answer) e) (λ z. not_first 4 checks tt (sym n ∙ z))) (ap (λ (o : Left × List ℤ × List ℤ). o.0.campaign) e))
    (ap (λ (o : Left × List ℤ × List ℤ). (o.1, o.2)) e)

pub counts_determined : Determined 2 counts_kinds.ps counts_kinds.r (Result Tally Refusal) counts.Learnt (λ κs r s. r)
unfolding counts_outcome
counts_determined κs a x y s t p q = numbered_one ((15, apart a.0 a.1.0.now a.1.1.0.now) ∷ []) (tally a.0) tt x y p q

pub response_determined : Determined 6 response_kinds.ps response_kinds.r (Result Unit Refusal × List ℤ × List ℤ × List ℤ × List ℕ) response.Learnt (λ κs r s. (r, s.1.1.1.0.now, s.1.1.1.1.0.now, s.1.1.1.1.1.0.now, s.1.1.1.1.1.1.0.now))
unfolding response_outcome
response_determined κs a x y s t p q =
    let e = p ∙ sym q in
    let checks = response_checks a.0 a.1.0.now a.1.1.0.now a.1.1.1.0.now a.1.1.1.1.0.now a.1.1.1.1.1.0.now a.1.1.1.1.1.1.0.now in
    let n = ap (λ (o : ℕ × List ℤ × List ℤ × List ℤ × List ℕ). o.0) p ∙ answers_first checks (λ (o : ℕ × List ℤ × List ℤ × List ℤ × List ℕ). o.0) (λ n. (n, a.1.1.1.0.now, a.1.1.1.1.0.now, a.1.1.1.1.1.0.now, a.1.1.1.1.1.1.0.now)) _ (λ n. refl) refl in
    ap₂ (λ a (b : List ℤ × List ℤ × List ℤ × List ℕ). (a, b.0, b.1, b.2, b.3)) (same_answered x y (ap (λ (o : ℕ × List ℤ × List ℤ × List ℤ × List ℕ). o.0) e) (λ z. not_first 4 checks tt (sym n ∙ z)))
    (ap (λ (o : ℕ × List ℤ × List ℤ × List ℤ × List ℕ). (o.1, o.2, o.3, o.4)) e)

pub summary_determined : Determined 4 summary_kinds.ps summary_kinds.r (Summary × List ℤ × List ℕ) summary.Learnt (λ κs r s. (r, s.1.1.1.0.now, s.1.1.1.1.0.now))
summary_determined κs a x y s t p q = p ∙ sym q
