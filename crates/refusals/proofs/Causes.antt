-- No refusal has the number 0, and its number and its steps tell which it is: so two answers that read alike are one. Assumes nothing.
use Rattle.std.proofs.Common.{ℕ, ◌≡◌, refl, sym, ap, ap₂, ◌∙◌, arith, cond, true, false, Result, Ok, Err, is_ok}
use Rattle.std.specs.Result.{IsErrAnd}
use mathlib.Core.Bool.{true≢false}
use lib.Dec.{eqb}
use Rattle.refusals.specs.Causes.{number, steps, answer, numbered, result_number, answer_period, said}
use Rattle.refusals.specs.declared.Answer.{Answer}
use Rattle.refusals.specs.declared.Refusal.{Refusal}
use Rattle.refusals.specs.declared.Refusal.TheVariants as refusal

pub never_0 : (e : Refusal) → number e ≡ 0 → ⊥
never_0 refusal.Order h = omega arith
never_0 refusal.Taps h = omega arith
never_0 refusal.TapZero h = omega arith
never_0 (refusal.NotMaximal p) h = omega arith
never_0 refusal.Length h = omega arith
never_0 refusal.Room h = omega arith
never_0 refusal.Sample h = omega arith
never_0 refusal.Predicted h = omega arith
never_0 refusal.Slots h = omega arith
never_0 refusal.Day h = omega arith
never_0 refusal.Standing h = omega arith
never_0 refusal.Full h = omega arith
never_0 refusal.NotStanding h = omega arith
never_0 refusal.NothingStands h = omega arith
never_0 refusal.Apart h = omega arith
never_0 refusal.Window h = omega arith
never_0 refusal.Program h = omega arith
never_0 refusal.Periods h = omega arith
never_0 refusal.Verdict h = omega arith
never_0 refusal.Edition h = omega arith
never_0 refusal.NotOffered h = omega arith

-- only a refusal with 4 tells steps
pub no_steps : (e : Refusal) → (number e ≡ 4 → ⊥) → steps e ≡ 0
no_steps refusal.Order h = refl
no_steps refusal.Taps h = refl
no_steps refusal.TapZero h = refl
no_steps (refusal.NotMaximal p) h = absurd (h refl)
no_steps refusal.Length h = refl
no_steps refusal.Room h = refl
no_steps refusal.Sample h = refl
no_steps refusal.Predicted h = refl
no_steps refusal.Slots h = refl
no_steps refusal.Day h = refl
no_steps refusal.Standing h = refl
no_steps refusal.Full h = refl
no_steps refusal.NotStanding h = refl
no_steps refusal.NothingStands h = refl
no_steps refusal.Apart h = refl
no_steps refusal.Window h = refl
no_steps refusal.Program h = refl
no_steps refusal.Periods h = refl
no_steps refusal.Verdict h = refl
no_steps refusal.Edition h = refl
no_steps refusal.NotOffered h = refl

-- the refusal of a number and its steps
cause : ℕ → ℕ → Refusal
cause n p =
    cond (eqb n 1) refusal.Order (
    cond (eqb n 2) refusal.Taps (
    cond (eqb n 3) refusal.TapZero (
    cond (eqb n 4) (refusal.NotMaximal p) (
    cond (eqb n 5) refusal.Length (
    cond (eqb n 6) refusal.Room (
    cond (eqb n 7) refusal.Sample (
    cond (eqb n 8) refusal.Predicted (
    cond (eqb n 9) refusal.Slots (
    cond (eqb n 10) refusal.Day (
    cond (eqb n 11) refusal.Standing (
    cond (eqb n 12) refusal.Full (
    cond (eqb n 13) refusal.NotStanding (
    cond (eqb n 14) refusal.NothingStands (
    cond (eqb n 15) refusal.Apart (
    cond (eqb n 16) refusal.Window (
    cond (eqb n 17) refusal.Program (
    cond (eqb n 18) refusal.Periods (
    cond (eqb n 23) refusal.Verdict (
    cond (eqb n 24) refusal.Edition (
    refusal.NotOffered))))))))))))))))))))

caused : (e : Refusal) → cause (number e) (steps e) ≡ e
unfolding cause
caused refusal.Order = refl
caused refusal.Taps = refl
caused refusal.TapZero = refl
caused (refusal.NotMaximal p) = refl
caused refusal.Length = refl
caused refusal.Room = refl
caused refusal.Sample = refl
caused refusal.Predicted = refl
caused refusal.Slots = refl
caused refusal.Day = refl
caused refusal.Standing = refl
caused refusal.Full = refl
caused refusal.NotStanding = refl
caused refusal.NothingStands = refl
caused refusal.Apart = refl
caused refusal.Window = refl
caused refusal.Program = refl
caused refusal.Periods = refl
caused refusal.Verdict = refl
caused refusal.Edition = refl
caused refusal.NotOffered = refl

pub same_refusal : (d e : Refusal) → number d ≡ number e → steps d ≡ steps e → d ≡ e
same_refusal d e n p = sym (caused d) ∙ ap₂ cause n p ∙ caused e

-- two answers of a call that asks for maximal taps
pub same_said : (r s : Result ℕ Refusal) → said r ≡ said s → r ≡ s
same_said (Ok p) (Ok q) h = ap Ok (ap (λ (a : Answer). a.period) h)
same_said (Ok p) (Err e) h = absurd (never_0 e (sym (ap (λ (a : Answer). a.number) h)))
same_said (Err e) (Ok q) h = absurd (never_0 e (ap (λ (a : Answer). a.number) h))
same_said (Err d) (Err e) h = ap Err (same_refusal d e (ap (λ (a : Answer). a.number) h) (ap (λ (a : Answer). a.period) h))

-- two answers in numbers, where none of them is 4
pub same_numbered : {A : Type 0} (r s : Result A Refusal) → numbered r ≡ numbered s → (answer r ≡ 4 → ⊥) → r ≡ s
same_numbered (Ok v) (Ok w) h n = ap Ok (cc)
same_numbered (Ok v) (Err e) h n = absurd (cc)
same_numbered (Err d) (Ok w) h n = absurd (cc)
same_numbered (Err d) (Err e) h n =
    let k : number d ≡ number e = cc in ap Err (same_refusal d e k (no_steps d n ∙ sym (no_steps e (λ z. n (k ∙ z)))))

pub same_answered : (r s : Result Unit Refusal) → answer r ≡ answer s → (answer r ≡ 4 → ⊥) → r ≡ s
same_answered (Ok u) (Ok v) h n = refl
same_answered (Ok u) (Err e) h n = absurd (never_0 e (sym h))
same_answered (Err d) (Ok u) h n = absurd (never_0 d h)
same_answered (Err d) (Err e) h n = ap Err (same_refusal d e h (no_steps d n ∙ sym (no_steps e (λ z. n (h ∙ z)))))

-- the number of an answer in numbers is the answer's
pub numbered_answer : {A : Type 0} (r : Result A Refusal) → result_number (numbered r) ≡ answer r
numbered_answer (Ok v) = refl
numbered_answer (Err e) = refl

-- ---- in the code

-- what the exit of a `?` hands back
pub exits : {A : Type 0} (r : Result A Refusal) (d : Refusal) → IsErrAnd r (λ e. e ≡ d) → r ≡ Err d
exits (Ok v) d h = absurd h
exits (Err e) d h = ap Err h

-- accepted is to be `Ok`
pub ok_answers : {A : Type 0} (r : Result A Refusal) → is_ok r ≡ true → answer r ≡ 0
ok_answers (Ok v) h = refl
ok_answers (Err e) h = absurd (true≢false (sym h))

pub err_answers : {A : Type 0} (r : Result A Refusal) → is_ok r ≡ false → answer r ≡ 0 → ⊥
err_answers (Ok v) h = λ _. true≢false h
err_answers (Err e) h = never_0 e
