-- The period told beside an answer's number, for every call whose checks begin with the taps check's: refused with 4 it is the first return, below P, and
-- accepted it is P. It is the window's first return: the tags' may come later, and neither need divide P. Assumes nothing.
use mathlib.Core.Path.{◌≡◌, refl, sym, ap, ap₂, subst, ◌∙◌}
use mathlib.Core.Logic.{◌⊎◌, inl, inr}
use mathlib.Core.Bool.{Bool, true, false, cond, not, ◌||◌, or-true}
use mathlib.Core.List.{List, [], ◌∷◌, ◌++◌}
use Prim.Native.Nat.{ℕ, ◌%◌, ◌<◌}
use native.Mathlib.Decide.{ℕ_discrete}
use native.Mathlib.Omega.{arith}
use borrow.Author.Tests.{eqb-false, eq-eqb, ne_eqb}
use lib.Count.{ones}
use lib.Dec.{T, eqb}
use lib.ListN.{drop}
use Rattle.sums.specs.Lists.{seek}
use Rattle.sums.specs.Refusals.{first, outcome}
use Rattle.sums.proofs.First.{lacks, not_first, refused_first, passed_first, answers_first}
use Rattle.register.specs.Register.{P, dot, step, window, period, tag-step, tag, Shaped}
use Rattle.register.specs.Calls.{not_maximal, told, answer_of, Reached, shape_checks, taps_checks, taps_answer}
use Rattle.refusals.specs.declared.Answer.{Answer}
use Rattle.register.proofs.Judged.{FirstReturn, first_return, maximal_period, shaped, passes_shape, accepted_exactly}

module _ (N taps : ℕ) (more : List (ℕ × Bool)) where
  pub passed_taps : first (taps_checks N taps ++ more) ≡ 0 → taps_answer N taps ≡ 0
  unfolding taps_answer
  passed_taps e = elim (ℕ_discrete (first (taps_checks N taps)) 0) [
    | yes z ↦ z
    | no h ↦ sym (refused_first (taps_checks N taps) more h) ∙ e
  ]

  passed_shape : first (taps_checks N taps ++ more) ≡ 4 → Shaped N taps
  passed_shape e = elim (ℕ_discrete (first (shape_checks N taps)) 0) [
    | yes z ↦ shaped N taps z
    | no h ↦ absurd (not_first 4 (shape_checks N taps) tt (sym (refused_first (shape_checks N taps) ((4, not_maximal N taps) ∷ more) h) ∙ e))
  ]

  -- a refusal with 4 is the taps check's, where the checks after it have no 4
  fourth : T (lacks 4 more) → first (taps_checks N taps ++ more) ≡ 4 → taps_answer N taps ≡ 4
  unfolding taps_answer
  fourth t e = elim (ℕ_discrete (first (taps_checks N taps)) 0) [
    | yes z ↦ absurd (not_first 4 more t (sym (passed_first (taps_checks N taps) more tt z) ∙ e))
    | no h ↦ sym (refused_first (taps_checks N taps) more h) ∙ e
  ]

-- ---- what the period says

-- the first return at 0 and at 4, and what was there at any other number
pub told-period : (N taps n was : ℕ) → (n ≡ 0) ⊎ (n ≡ 4) → told N taps n was ≡ period N taps
told-period N taps n was (inl z) = ap (λ b. cond (b || eqb n 4) (period N taps) was) (eq-eqb n 0 z)
told-period N taps n was (inr e) = ap (λ b. cond (eqb n 0 || b) (period N taps) was) (eq-eqb n 4 e) ∙ ap (λ b. cond b (period N taps) was) (or-true (eqb n 0))

pub told_none : (N taps n was : ℕ) → (n ≡ 0 → ⊥) → (n ≡ 4 → ⊥) → told N taps n was ≡ was
told_none N taps n was h k = ap₂ (λ a b. cond (a || b) (period N taps) was) (ne_eqb n 0 h) (ne_eqb n 4 k)

-- accepted it is P; refused with 4 the first return, which comes before P steps; at any other refusal it is what was there
pub record Tells (N taps n period was : ℕ) : Type 0 where
  pub accepted : n ≡ 0 → period ≡ P N
  pub short : n ≡ 4 → FirstReturn N taps period × (period < P N)
  pub silent : (n ≡ 0 → ⊥) → (n ≡ 4 → ⊥) → period ≡ was

-- the first return comes before P steps where the register is not maximal
before_P : (N taps : ℕ) → taps_answer N taps ≡ 4 → FirstReturn N taps (period N taps) × (period N taps < P N)
unfolding taps_answer
before_P N taps e =
    let s = passed_shape N taps [] e in
    let r = first_return N taps s.tapped in
    let q = sym (passed_first (shape_checks N taps) ((4, not_maximal N taps) ∷ []) tt (passes_shape N taps s)) ∙ e in
    (r, omega (arith, r.within, apart (eqb (period N taps) (P N)) refl q))
  where
    apart : (b : Bool) → eqb (period N taps) (P N) ≡ b → first ((4, not b) ∷ []) ≡ 4 → period N taps ≡ P N → ⊥
    apart true e q = absurd (omega arith)
    apart false e q = eqb-false (period N taps) (P N) e

-- ---- of any list of checks that begins with the taps check's four

module _ (N taps : ℕ) (checks : List (ℕ × Bool)) (begins : taps_checks N taps ++ drop 4 checks ≡ checks) where
  -- what its answer says of the register
  pub reached : Reached N taps (first checks)
  reached =
      subst (λ l. Reached N taps (first l)) begins
      (record { accepted = λ e. (accepted_exactly N taps).0 (passed_taps N taps (drop 4 checks) e); shaped = passed_shape N taps (drop 4 checks) })

  -- what the period told beside it says, where none of its other checks has the number 4
  pub how_short : T (lacks 4 (drop 4 checks)) → (was : ℕ) → Tells N taps (first checks) (told N taps (first checks) was) was
  how_short t was =
      subst (λ l. Tells N taps (first l) (told N taps (first l) was) was) begins
      (record {
        accepted = λ z.
            let a = (accepted_exactly N taps).0 (passed_taps N taps (drop 4 checks) z) in
            told-period N taps _ was (inl z) ∙ (maximal_period N taps a.shaped.tapped).1 a.maximal;
        short = λ e. rw (told-period N taps _ was (inr e)) (before_P N taps (fourth N taps (drop 4 checks) t e));
        silent = told_none N taps _ was;
      })

  -- the same of an outcome of these checks, by the number read off it
  module _ {A : Type 0} (number : A → ℕ) (back : ℕ → A) (accepted : A) (refused : (n : ℕ) → number (back n) ≡ n) (none : number accepted ≡ 0)
      {o : A} (e : o ≡ outcome checks back accepted) where
    is_first : number o ≡ first checks
    is_first = ap number e ∙ answers_first checks number back accepted refused none

    pub reached_by : Reached N taps (number o)
    reached_by = rw is_first reached

    pub how_short_by : T (lacks 4 (drop 4 checks)) → (was : ℕ) → Tells N taps (number o) (told N taps (number o) was) was
    how_short_by t was = rw is_first (how_short t was)

-- ---- a call that tells what another answers

-- the period that goes with its number
pub period-told : (N taps : ℕ) {r : Answer} {n : ℕ} → r ≡ answer_of N taps n → r.period ≡ told N taps r.number 0
period-told N taps q = ap (λ (a : Answer). a.period) q ∙ sym (ap (λ (a : Answer). told N taps a.number 0) q)

-- and its outcome, where `with n o` is the outcome o with the number n
pub passed_on : {A : Type 0} (N taps : ℕ) (with : ℕ → A → A) {r : Answer} {n : ℕ} {o e : A} → with n o ≡ o → r ≡ answer_of N taps n → o ≡ e
    → (with r.number o ≡ e) × (r.period ≡ told N taps r.number 0)
passed_on N taps with {o = o} same q h = (ap (λ (a : Answer). with a.number o) q ∙ same ∙ h, period-told N taps q)

-- these two equations leave one outcome and one period
pub same-told : {A : Type 0} (N taps was : ℕ) (number : A → ℕ) {o p e : A} {k l : ℕ}
    → (o ≡ e) × (k ≡ told N taps (number o) was) → (p ≡ e) × (l ≡ told N taps (number p) was) → ◌≡◌ {A = A × ℕ} (o, k) (p, l)
same-told N taps was number (a, b) (c, d) =
    ap₂ (λ x y. (x, y)) (a ∙ sym c) (b ∙ ap (λ o. told N taps (number o) was) (a ∙ sym c) ∙ sym d)

-- ---- the numbers of 02, and first returns of every kind

pub record Returns : Type 0 where
  pub order_4_taps_15 : period 4 15 ≡ 5
  pub order_4_taps_5 : period 4 5 ≡ 6
  -- all ones are back after one step, the tags after four
  pub order_3_taps_7 : (period 3 7 ≡ 1) × (tag 3 7 1 ≡ 2) × (tag 3 7 2 ≡ 4) × (tag 3 7 3 ≡ 7) × (tag 3 7 4 ≡ 1)
  -- 21 steps, which do not divide 31, and the tags' too
  pub order_5_taps_3 : (period 5 3 ≡ 21) × (tag 5 3 21 ≡ 1) × (P 5 % 21 ≡ 10)
  pub accepted : period 4 3 ≡ P 4

pub returns : Returns
unfolding period seek window step dot ones tag tag-step
returns =
    record {
      order_4_taps_15 = refl;
      order_4_taps_5 = refl;
      order_3_taps_7 = (refl, refl, refl, refl, refl);
      order_5_taps_3 = (refl, refl, refl);
      accepted = refl;
    }
