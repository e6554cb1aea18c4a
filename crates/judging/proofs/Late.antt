-- Document 02, request 8: a night of either kind that starts late is refused for the same cause, and judged the same but for the place of an overload.
-- Assumes nothing.
use mathlib.Core.Path.{◌≡◌, refl, sym, ap, ap₂, ◌∙◌}
use mathlib.Core.Logic.{◌↔◌}
use mathlib.Core.Bool.{Bool, false, cond}
use mathlib.Core.List.{List, [], ◌∷◌, ◌++◌}
use Prim.Native.Nat.{ℕ, zero, suc, ◌+◌}
use native.Mathlib.Omega.{arith}
use borrow.Author.Tests.{eqb-true, not-false}
use lib.Dec.{eqb}
use lib.IntN.{ℤ}
use lib.ListN.{length}
use Rattle.sums.specs.Lists.{at}
use Rattle.sums.specs.Refusals.{first, answered}
use Rattle.sums.specs.Turned.{late}
use Rattle.sums.proofs.First.{behind, passes}
use Rattle.sums.proofs.Reordered.{some_reordered}
use Rattle.sums.proofs.Turned.{late_long, late_reordered}
use Rattle.register.specs.Register.{P}
use Rattle.register.specs.Calls.{told, taps_checks}
use Rattle.samples.specs.Samples.{length_off, sample_out, some_out}
use Rattle.finding.specs.Finding.{finding}
use Rattle.finding.specs.declared.Finding.{Finding}
use Rattle.finding.specs.declared.Finding.TheVariants as found
use Rattle.finding.proofs.Late.{found_late}
use Rattle.nights.specs.Nights.{lead, periods_of, periods_out, night_length, settled}
use Rattle.nights.specs.declared.Night.{Night}
use Rattle.nights.proofs.Terms.{settled_long}
use Rattle.nights.proofs.Late.{settled-late}
use Rattle.judging.specs.Judging.{night_checks, found_in, judge_checks, judged_of, judge_outcome, judging, case_of}
use Rattle.judging.specs.declared.Judged.{Judged}
use Rattle.judging.specs.declared.Judged.TheVariants as judged
use Rattle.judging.specs.declared.Judgement.{Judgement}

-- a night that 5 does not refuse is as long as it must be
pub as_long : (N : ℕ) (night : Night) (y : List ℤ) → length_off (night_length (P N) night) y ≡ false → length y ≡ night_length (P N) night
as_long N night y e = eqb-true (length y) (night_length (P N) night) (not-false (eqb (length y) (night_length (P N) night)) e)

module _ (N d : ℕ) (night : Night) (y : List ℤ) where
  -- 18, 5 and 7 among other checks: those behind them need be the same only of a night that is as long as it must be
  pub first-late : (early more other : List (ℕ × Bool)) → (length y ≡ night_length (P N) night → first more ≡ first other)
      → first (early ++ (night_checks N night (late (P N) d y) ++ more)) ≡ first (early ++ (night_checks N night y ++ other))
  first-late early more other same =
      rw (late_long (P N) d y) (behind early 18 (periods_out night) _ _ (λ _.
      behind [] 5 (length_off (night_length (P N) night) y) ((7, some_out (length y) (at (late (P N) d y))) ∷ more) ((7, some_out (length y) (at y)) ∷ other) ranged))
    where
      ranged : length_off (night_length (P N) night) y ≡ false
          → first ((7, some_out (length y) (at (late (P N) d y))) ∷ more) ≡ first ((7, some_out (length y) (at y)) ∷ other)
      ranged e =
          let long = as_long N night y e in
          ap₂ (λ b n. cond b 7 n) (some_reordered (late_reordered (P N) d y (lead night + periods_of night) long) sample_out) (same long)

  -- what is read off what is found, but for an overload's place
  pub found_in_late : {A : Type 0} (read : Finding → A) → ((p q : ℕ) → read (found.Overloaded p) ≡ read (found.Overloaded q))
      → length y ≡ night_length (P N) night → read (found_in N night (late (P N) d y)) ≡ read (found_in N night y)
  found_in_late read alike long =
      ap (λ z. read (finding z)) (settled-late (P N) d night y long)
      ∙ found_late (P N) d (periods_of night) (settled (P N) night y) (settled_long (P N) night y long) read alike

  -- the judgement, by the number of the first check that holds
  abbrev given : ℕ → ℕ → Finding → Judgement
  given taps n f =
      answered n (λ n. record { verdict = judged.Refused n; period = told N taps n 0 }) (record { verdict = judged_of f; period = told N taps 0 0 })

  -- and off a verdict
  pub judged-late : (taps : ℕ) {A : Type 0} (read : Judged → A) → ((p q : ℕ) → read (judged.Overloaded p) ≡ read (judged.Overloaded q))
      → read (judging N taps night (late (P N) d y)) ≡ read (judging N taps night y)
  unfolding judge_outcome
  judged-late taps read alike =
      ap (λ n. read (given taps n (found_in N night (late (P N) d y))).verdict) (first-late (taps_checks N taps) [] [] (λ _. refl))
      ∙ go (first (judge_checks N taps night y)) refl
    where
      go : (n : ℕ) → first (judge_checks N taps night y) ≡ n → read (given taps n (found_in N night (late (P N) d y))).verdict ≡ read (given taps n (found_in N night y)).verdict
      go zero e =
          found_in_late (λ f. read (judged_of f)) alike (as_long N night y (passes (judge_checks N taps night y) tt e).1.1.1.1.1.0)
      go (suc n) e = refl

  pub kept_late : (taps : ℕ) → (judging N taps night (late (P N) d y) ≡ judged.Kept) ↔ (judging N taps night y ≡ judged.Kept)
  kept_late taps = (
    λ e. is_kept (judging N taps night y) (sym same ∙ ap case_of e),
    λ e. is_kept (judging N taps night (late (P N) d y)) (same ∙ ap case_of e),
  )
    where
      same : case_of (judging N taps night (late (P N) d y)) ≡ case_of (judging N taps night y)
      same = judged-late taps case_of (λ p q. refl)

      is_kept : (v : Judged) → case_of v ≡ 0 → v ≡ judged.Kept
      is_kept judged.Kept e = refl
      is_kept (judged.Overloaded p) e = absurd (omega arith)
      is_kept judged.Dead e = absurd (omega arith)
      is_kept (judged.Refused n) e = absurd (omega arith)
