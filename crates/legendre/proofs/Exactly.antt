-- Document 02, request 10, of each of the three calls: 25 exactly where the period is none of the list, 6 exactly where what comes before it passes and the output is
-- shorter than p, and 0 where the period, the lengths and the samples are as they should be. Assumes nothing.
use mathlib.Core.Path.{◌≡◌, refl, sym, ap, ◌∙◌, subst}
use mathlib.Core.Logic.{◌↔◌}
use mathlib.Core.Bool.{Bool, true, false, not}
use mathlib.Core.List.{List, [], ◌∷◌, ◌++◌}
use Prim.Native.Nat.{ℕ, ◌≤◌, ◌<◌}
use native.Mathlib.Omega.{arith}
use borrow.Author.Tests.{eq-eqb, le-ltb, not-false}
use lib.Dec.{T}
use lib.IntN.{ℤ}
use lib.ListN.{length}
use types.Run.{OneOf}
use Rattle.sums.specs.Lists.{at}
use Rattle.sums.specs.Refusals.{first}
use Rattle.sums.proofs.First.{numbered, lacks, Passed, passes, accepts, exactly, ltb_exactly, answers_first}
use Rattle.sums.proofs.Members.{among_none}
use Rattle.sums.proofs.Somewhere.{some-none}
use Rattle.samples.specs.Samples.{length_off, sample_out, some_out}
use Rattle.legendre.specs.Legendre.{periods, offered}
use Rattle.legendre.specs.Calls.{not_offered, too_short, sequence_checks, sequence_outcome, given_checks, recording_checks, recording_outcome, predicted, eighth, prediction_checks, prediction_outcome}
use Rattle.legendre.proofs.Offered.{one_of, given-passed}

-- ---- any call that answers the first of its checks

module _ (p : ℕ) where
  -- what 25 lets pass, 5 and 7
  offers : OneOf periods p → not_offered p ≡ false
  offers o = ap not ((one_of p).1 o)

  long : (y : List ℤ) → length y ≡ p → length_off p y ≡ false
  long y e = ap not (eq-eqb (length y) p e)

  in_range : (y : List ℤ) → length y ≡ p → ((j : ℕ) → j < p → sample_out (at y j) ≡ false) → some_out (length y) (at y) ≡ false
  in_range y e inside = some-none (λ j. sample_out (at y j)) (length y) (λ j l. inside j (omega arith))

  another : (not_offered p ≡ true) ↔ (OneOf periods p → ⊥)
  unfolding offered
  another = (λ e o. subst T (offers o) (subst T (sym e) tt), λ n. ap not (among_none periods p n))

  -- 25 alone, and 25 and 5
  period-passed : (first ((25, not_offered p) ∷ []) ≡ 0) ↔ OneOf periods p
  period-passed = (
    λ z. (one_of p).0 (not-false (offered p) (passes ((25, not_offered p) ∷ []) tt z).0),
    λ o. accepts ((25, not_offered p) ∷ []) (offers o, tt),
  )

  both_passed : (y : List ℤ) → (first (given_checks p y) ≡ 0) ↔ (OneOf periods p × (length y ≡ p))
  both_passed y = (
    λ z. let g = given-passed p y z in ((one_of p).0 g.0, g.1),
    λ h. accepts (given_checks p y) (offers h.0, (long y h.1, tt)),
  )

  module _ (answer : ℕ) where
    other : (late : List (ℕ × Bool)) → answer ≡ first ((25, not_offered p) ∷ late) → T (lacks 25 late) → (answer ≡ 25) ↔ (OneOf periods p → ⊥)
    other late told others =
        let e = exactly answer 25 [] (not_offered p) late told tt tt others another in
        (λ h. (e.0 h).1, λ h. e.1 (refl, h))

    six : {Early : Type 0} (out : ℕ) (early late : List (ℕ × Bool)) → answer ≡ first (early ++ (6, too_short p out) ∷ late)
        → T (numbered early) → T (lacks 6 early) → T (lacks 6 late) → (first early ≡ 0) ↔ Early → (answer ≡ 6) ↔ (Early × (out < p))
    six out early late told t before behind passed =
        let e = exactly answer 6 early (too_short p out) late told t before behind (ltb_exactly out p) in
        (λ h. (passed.0 (e.0 h).0, (e.0 h).1), λ h. e.1 (passed.1 h.0, h.1))

-- ---- sequence

module _ (p : ℕ) (out : List ℕ) where
  sequence_first : (sequence_outcome p out).0 ≡ first (sequence_checks p out)
  unfolding sequence_outcome
  sequence_first = answers_first (sequence_checks p out) (λ (o : ℕ × List ℕ). o.0) _ _ (λ n. refl) refl

  pub sequence_passed : (sequence_outcome p out).0 ≡ 0 → Passed (sequence_checks p out)
  sequence_passed e = passes (sequence_checks p out) tt (sym sequence_first ∙ e)

  pub sequence_other : ((sequence_outcome p out).0 ≡ 25) ↔ (OneOf periods p → ⊥)
  sequence_other = other p _ ((6, too_short p (length out)) ∷ []) sequence_first tt

  pub sequence_taken : OneOf periods p → p ≤ length out → (sequence_outcome p out).0 ≡ 0
  sequence_taken o l = sequence_first ∙ accepts (sequence_checks p out) (offers p o, (le-ltb (length out) p l, tt))

  pub sequence_six : ((sequence_outcome p out).0 ≡ 6) ↔ (OneOf periods p × (length out < p))
  sequence_six = six p _ (length out) ((25, not_offered p) ∷ []) [] sequence_first tt tt tt (period-passed p)

-- ---- one recording and a prediction

-- 5, 6, 7 and what comes after them
abbrev behind : ℕ → List ℤ → List ℤ → List (ℕ × Bool) → List (ℕ × Bool)
behind p y out more = (5, length_off p y) ∷ (6, too_short p (length out)) ∷ (7, some_out (length y) (at y)) ∷ more

module _ (p : ℕ) (y out : List ℤ) where
  recording-first : (recording_outcome p y out).0 ≡ first (recording_checks p y out)
  unfolding recording_outcome
  recording-first = answers_first (recording_checks p y out) (λ (o : ℕ × List ℤ). o.0) _ _ (λ n. refl) refl

  pub recording-passed : (recording_outcome p y out).0 ≡ 0 → Passed (recording_checks p y out)
  recording-passed e = passes (recording_checks p y out) tt (sym recording-first ∙ e)

  pub recording_other : ((recording_outcome p y out).0 ≡ 25) ↔ (OneOf periods p → ⊥)
  recording_other = other p _ (behind p y out []) recording-first tt

  pub recording_taken : OneOf periods p → length y ≡ p → p ≤ length out → ((j : ℕ) → j < p → sample_out (at y j) ≡ false) → (recording_outcome p y out).0 ≡ 0
  recording_taken o e l inside = recording-first ∙ accepts (recording_checks p y out) (offers p o, (long p y e, (le-ltb (length out) p l, (in_range p y e inside, tt))))

  pub recording_six : ((recording_outcome p y out).0 ≡ 6) ↔ ((OneOf periods p × (length y ≡ p)) × (length out < p))
  recording_six = six p _ (length out) (given_checks p y) ((7, some_out (length y) (at y)) ∷ []) recording-first tt tt tt (both_passed p y)

module _ (p : ℕ) (h out : List ℤ) where
  prediction-first : (prediction_outcome p h out).0 ≡ first (prediction_checks p h out)
  unfolding prediction_outcome
  prediction-first = answers_first (prediction_checks p h out) (λ (o : ℕ × List ℤ). o.0) _ _ (λ n. refl) refl

  pub prediction-passed : (prediction_outcome p h out).0 ≡ 0 → Passed (prediction_checks p h out)
  prediction-passed e = passes (prediction_checks p h out) tt (sym prediction-first ∙ e)

  pub prediction_other : ((prediction_outcome p h out).0 ≡ 25) ↔ (OneOf periods p → ⊥)
  prediction_other = other p _ (behind p h out (eighth p h)) prediction-first tt

  pub prediction_taken : OneOf periods p → length h ≡ p → p ≤ length out → ((j : ℕ) → j < p → sample_out (at h j) ≡ false)
      → ((j : ℕ) → j < p → sample_out (predicted p h j) ≡ false) → (prediction_outcome p h out).0 ≡ 0
  prediction_taken o e l inside heard =
      prediction-first ∙ accepts (prediction_checks p h out) (offers p o, (long p h e, (le-ltb (length out) p l, (in_range p h e inside, (some-none (λ j. sample_out (predicted p h j)) p heard, tt)))))

  pub prediction_six : ((prediction_outcome p h out).0 ≡ 6) ↔ ((OneOf periods p × (length h ≡ p)) × (length out < p))
  prediction_six = six p _ (length out) (given_checks p h) ((7, some_out (length h) (at h)) ∷ eighth p h) prediction-first tt tt tt (both_passed p h)
