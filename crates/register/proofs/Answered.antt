-- What the taps check answers, by the answer of the checks 1, 2 and 3 and by whether the register is maximal. Assumes nothing.
use mathlib.Core.Path.{◌≡◌, refl, sym, ap, ap₂, ◌∙◌}
use mathlib.Core.Logic.{inl, inr}
use mathlib.Core.Bool.{Bool, true, false, cond, not}
use mathlib.Core.List.{[], ◌∷◌}
use Prim.Native.Nat.{ℕ}
use borrow.Author.Tests.{eqb-true}
use lib.Dec.{eqb}
use Rattle.std.specs.Prelude.{Result, Ok, Err}
use Rattle.sums.specs.Refusals.{first}
use Rattle.sums.proofs.First.{not_first, refused_first, passed_first}
use Rattle.refusals.specs.Causes.{number, steps, answer, answer_period, said}
use Rattle.refusals.specs.declared.Answer.{Answer}
use Rattle.refusals.specs.declared.Refusal.{Refusal}
use Rattle.refusals.specs.declared.Refusal.TheVariants.{NotMaximal}
use Rattle.refusals.proofs.Causes.{never_0, no_steps}
use Rattle.register.specs.Register.{P, period, Accepted}
use Rattle.register.specs.Calls.{not_maximal, told, answer_of, shape_checks, taps_answer}
use Rattle.register.proofs.HowShort.{told-period, told_none, period-told}
use Rattle.register.proofs.Judged.{maximal_period, accepted_exactly}

-- a number with the period that goes with it
pub saying : (N taps : ℕ) (r : Result ℕ Refusal) {n : ℕ} → answer r ≡ n → answer_period r ≡ told N taps n 0 → said r ≡ answer_of N taps n
saying N taps r e h = ap₂ (λ n p. record { number = n; period = p }) e h

module _ (N taps : ℕ) where
  -- refused with 1, 2 or 3
  pub shape_refuses : (d : Refusal) → number d ≡ first (shape_checks N taps) → said (Err d) ≡ answer_of N taps (taps_answer N taps)
  unfolding taps_answer
  shape_refuses d e =
      let some = λ (z : first (shape_checks N taps) ≡ 0). never_0 d (e ∙ z) in
      let four = λ (z : number d ≡ 4). not_first 4 (shape_checks N taps) tt (sym e ∙ z) in
      let same = e ∙ sym (refused_first (shape_checks N taps) ((4, not_maximal N taps) ∷ []) some) in
      saying N taps (Err d) same (no_steps d four ∙ sym (told_none N taps _ 0 (λ z. never_0 d (same ∙ z)) (λ z. four (same ∙ z))))

  module _ (shape : first (shape_checks N taps) ≡ 0) where
    -- what the fourth check leaves to say
    pub fourth : (b : Bool) → b ≡ eqb (period N taps) (P N) → taps_answer N taps ≡ cond b 0 4
    unfolding taps_answer
    fourth b e =
        passed_first (shape_checks N taps) ((4, not_maximal N taps) ∷ []) tt shape ∙ ap says (sym e) ∙ turned b
      where
        says : Bool → ℕ
        says b = cond (not b) 4 0

        turned : (b : Bool) → says b ≡ cond b 0 4
        turned true = refl
        turned false = refl

    pub maximal_accepted : (p : ℕ) → p ≡ P N → true ≡ eqb (period N taps) (P N) → said (Ok p) ≡ answer_of N taps (taps_answer N taps)
    maximal_accepted p h e =
        saying N taps (Ok p) (sym (fourth true e)) (h ∙ sym (eqb-true (period N taps) (P N) (sym e)) ∙ sym (told-period N taps _ 0 (inl (fourth true e))))

    pub short_refused : (p : ℕ) → p ≡ period N taps → false ≡ eqb (period N taps) (P N) → said (Err (NotMaximal p)) ≡ answer_of N taps (taps_answer N taps)
    short_refused p h e = saying N taps (Err (NotMaximal p)) (sym (fourth false e)) (h ∙ sym (told-period N taps _ 0 (inr (fourth false e))))

-- a refusal with another number than 4 tells no period
pub silent : (N taps : ℕ) (d : Refusal) → (number d ≡ 4 → ⊥) → steps d ≡ told N taps (number d) 0
silent N taps d h = no_steps d h ∙ sym (told_none N taps (number d) 0 (never_0 d) h)

-- ---- what a call knows once the taps check has answered

-- accepted, with the period p
pub record Took (N taps p : ℕ) : Type 0 where
  pub passed : taps_answer N taps ≡ 0
  pub accepted : Accepted N taps
  pub full : p ≡ P N
  pub whole : p ≡ period N taps

module _ (N taps : ℕ) where
  pub took : {p : ℕ} → said (Ok p) ≡ answer_of N taps (taps_answer N taps) → Took N taps p
  took e =
      let z = sym (ap (λ (a : Answer). a.number) e) in
      let a = (accepted_exactly N taps).0 z in
      let q = period-told N taps e in
      record { passed = z; accepted = a; full = q ∙ (maximal_period N taps a.shaped.tapped).1 a.maximal; whole = q }

  pub refused_by : (d : Refusal) → said (Err d) ≡ answer_of N taps (taps_answer N taps) → number d ≡ taps_answer N taps
  refused_by d e = ap (λ (a : Answer). a.number) e
