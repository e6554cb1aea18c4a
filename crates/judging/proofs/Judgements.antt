-- What judging comes to: its number is that of the first check that holds; where none does, its verdict is that of the finding, and no refusal. Two verdicts
-- are the same just where they are equal. Assumes nothing.
use mathlib.Core.Path.{◌≡◌, refl, sym, ap, subst, ◌∙◌}
use mathlib.Core.Logic.{◌↔◌}
use mathlib.Core.Bool.{true, false, not}
use mathlib.Core.List.{List}
use Prim.Native.Nat.{ℕ}
use native.Mathlib.Omega.{arith}
use borrow.Author.Tests.{eqb-true, eq-eqb}
use lib.Dec.{T, eqb}
use lib.IntN.{ℤ}
use Rattle.sums.specs.Refusals.{first}
use Rattle.sums.proofs.Everywhere.{and-true, both_true, never_true}
use Rattle.sums.proofs.First.{answers_first, read_off, accepted_with}
use Rattle.register.specs.Calls.{told}
use Rattle.finding.specs.declared.Finding.{Finding}
use Rattle.finding.specs.declared.Finding.TheVariants as found
use Rattle.nights.specs.declared.Night.{Night}
use Rattle.judging.specs.Judging.{found_in, judge_checks, judged_of, judge_outcome, judging, judged_number, case_of, carried, same}
use Rattle.judging.specs.declared.Judged.{Judged}
use Rattle.judging.specs.declared.Judged.TheVariants as judged
use Rattle.judging.specs.declared.Judgement.{Judgement}

-- ---- the same verdict

-- a verdict by its case and what it carries
alike : (v w : Judged) → case_of v ≡ case_of w → carried v ≡ carried w → v ≡ w
alike judged.Kept judged.Kept e f = refl
alike judged.Kept (judged.Overloaded q) e f = absurd (omega arith)
alike judged.Kept judged.Dead e f = absurd (omega arith)
alike judged.Kept (judged.Refused k) e f = absurd (omega arith)
alike (judged.Overloaded p) judged.Kept e f = absurd (omega arith)
alike (judged.Overloaded p) (judged.Overloaded q) e f = ap judged.Overloaded f
alike (judged.Overloaded p) judged.Dead e f = absurd (omega arith)
alike (judged.Overloaded p) (judged.Refused k) e f = absurd (omega arith)
alike judged.Dead judged.Kept e f = absurd (omega arith)
alike judged.Dead (judged.Overloaded q) e f = absurd (omega arith)
alike judged.Dead judged.Dead e f = refl
alike judged.Dead (judged.Refused k) e f = absurd (omega arith)
alike (judged.Refused n) judged.Kept e f = absurd (omega arith)
alike (judged.Refused n) (judged.Overloaded q) e f = absurd (omega arith)
alike (judged.Refused n) judged.Dead e f = absurd (omega arith)
alike (judged.Refused n) (judged.Refused k) e f = ap judged.Refused f

pub same_exactly : (v w : Judged) → (same v w ≡ true) ↔ (v ≡ w)
same_exactly v w = (
  λ h. let p = and-true (eqb (case_of v) (case_of w)) (eqb (carried v) (carried w)) h in
      alike v w (eqb-true (case_of v) (case_of w) p.0) (eqb-true (carried v) (carried w) p.1),
  λ e. both_true (eq-eqb (case_of v) (case_of w) (ap case_of e)) (eq-eqb (carried v) (carried w) (ap carried e)),
)

-- they differ just where they are not equal
pub differ_exactly : (v w : Judged) → (not (same v w) ≡ true) ↔ (v ≡ w → ⊥)
differ_exactly v w = (
  λ h e. subst T (sym h ∙ ap not ((same_exactly v w).1 e)) tt,
  λ n. ap not (never_true (same v w) (λ h. n ((same_exactly v w).0 h))),
)

pub same_itself : (v : Judged) → not (same v v) ≡ false
same_itself v = ap not ((same_exactly v v).1 refl)

-- ---- what judging gives

-- the verdict of a finding accepts
pub finding-accepts : (f : Finding) → judged_number (judged_of f) ≡ 0
finding-accepts (found.Overloaded p) = refl
finding-accepts found.Dead = refl
finding-accepts found.Kept = refl

module _ (N taps : ℕ) (night : Night) (y : List ℤ) where
  pub judge_first : judged_number (judging N taps night y) ≡ first (judge_checks N taps night y)
  unfolding judge_outcome
  judge_first =
      answers_first (judge_checks N taps night y) (λ (j : Judgement). judged_number j.verdict) _ _ (λ n. refl) (finding-accepts (found_in N night y))

  -- with the period that goes with its number
  pub judge_told : (judge_outcome N taps night y).period ≡ told N taps (judged_number (judging N taps night y)) 0
  unfolding judge_outcome
  judge_told =
      read_off (judge_checks N taps night y) (λ (j : Judgement). j.period) (λ n. told N taps n 0) _ _ (λ n. refl) refl
      ∙ sym (ap (λ n. told N taps n 0) judge_first)

  pub judge_found : first (judge_checks N taps night y) ≡ 0 → judging N taps night y ≡ judged_of (found_in N night y)
  unfolding judge_outcome
  judge_found z = ap (λ (j : Judgement). j.verdict) (accepted_with _ _ (judge_checks N taps night y) (first (judge_checks N taps night y)) refl z)

  -- it gives the verdict of a finding exactly where no check refuses and the samples after the run-in are found to be this
  pub judged_exactly : (f : Finding) → (judging N taps night y ≡ judged_of f) ↔ ((first (judge_checks N taps night y) ≡ 0) × (found_in N night y ≡ f))
  judged_exactly f = (
    λ e. let z = sym judge_first ∙ ap judged_number e ∙ finding-accepts f in (z, injective (found_in N night y) f (sym (judge_found z) ∙ e)),
    λ h. judge_found h.0 ∙ ap judged_of h.1,
  )
    where
      -- the finding of a verdict; a refusal has none, so any will do
      behind : Judged → Finding
      behind judged.Kept = found.Kept
      behind (judged.Overloaded p) = found.Overloaded p
      behind judged.Dead = found.Dead
      behind (judged.Refused n) = found.Kept

      same-finding : (g : Finding) → behind (judged_of g) ≡ g
      same-finding (found.Overloaded p) = refl
      same-finding found.Dead = refl
      same-finding found.Kept = refl

      injective : (g k : Finding) → judged_of g ≡ judged_of k → g ≡ k
      injective g k e = sym (same-finding g) ∙ ap behind e ∙ same-finding k
