-- Document 02, request 5, "judging refuses 1, 2, 3, 4, 18, 5, 7 in that order": the checks' numbers as they stand, and for each two neighbours a night to which
-- both apply, with its verdict; then each verdict. Order 2, so that P is 3. Assumes nothing.
use mathlib.Core.Path.{◌≡◌, refl}
use mathlib.Core.List.{List, [], ◌∷◌, ◌++◌}
use Prim.Native.Nat.{ℕ}
use lib.Count.{ones}
use lib.IntN.{ℤ, pos}
use lib.ListN.{replicate}
use Rattle.sums.specs.Lists.{seek, some, every}
use Rattle.sums.specs.Refusals.{numbers}
use Rattle.register.specs.Register.{dot, step, window, period}
use Rattle.finding.specs.Finding.{finding}
use Rattle.nights.specs.declared.Night.{Night}
use Rattle.nights.specs.declared.Night.TheVariants.{Period, Capture}
use Rattle.judging.specs.Judging.{judge_checks, judge_outcome, judging}
use Rattle.judging.specs.declared.Judged.TheVariants.{Kept, Overloaded, Dead, Refused}

-- a period that may just stand, one that is dead and not constant, and one that begins with z
abbrev barely : List ℤ
barely = pos 8 ∷ pos 0 ∷ pos 0 ∷ []

abbrev dithers : List ℤ
dithers = pos 7 ∷ pos 0 ∷ pos 3 ∷ []

abbrev with : ℤ → List ℤ
with z = z ∷ pos 0 ∷ pos 0 ∷ []

-- a run-in at a rail, which is neither judged nor counted
abbrev rails : List ℤ
rails = replicate 3 (pos 8388607)

pub record Order : Type 0 where
  pub judge : (N taps : ℕ) (night : Night) (y : List ℤ) → numbers (judge_checks N taps night y) ≡ 1 ∷ 2 ∷ 3 ∷ 4 ∷ 18 ∷ 5 ∷ 7 ∷ []
  pub judge_1_2 : judging 1 2 Period barely ≡ Refused 1
  pub judge_2_3 : judging 2 4 Period barely ≡ Refused 2
  pub judge_3_4 : judging 2 2 Period barely ≡ Refused 3
  pub judge_4_5 : judging 2 1 Period (pos 1 ∷ []) ≡ Refused 4
  pub judge_4_18 : (judging 2 1 (Capture 0) barely ≡ Refused 4) × (judging 2 1 (Capture 17) barely ≡ Refused 4)
  pub judge_18_5 : (judging 2 3 (Capture 0) barely ≡ Refused 18) × (judging 2 3 (Capture 17) barely ≡ Refused 18)
  pub judge_5_7 : (judging 2 3 Period (pos 8388608 ∷ []) ≡ Refused 5) × (judging 2 3 (Capture 1) (with (pos 8388608)) ≡ Refused 5)
  pub judge_7_verdict : (judging 2 3 Period (pos 8388608 ∷ pos 8388607 ∷ pos 8388607 ∷ []) ≡ Refused 7)
      × (judging 2 3 (Capture 1) (with (pos 8388608) ++ dithers) ≡ Refused 7)
  pub overloaded-dead : (judging 2 3 Period rails ≡ Overloaded 0) × (judging 2 3 (Capture 1) (dithers ++ rails) ≡ Overloaded 0)
  pub overloaded : (judging 2 3 Period (pos 0 ∷ pos 0 ∷ pos 8388607 ∷ []) ≡ Overloaded 2)
      × (judging 2 3 (Capture 2) (rails ++ barely ++ pos 0 ∷ pos 8388607 ∷ pos 0 ∷ []) ≡ Overloaded 4)
  pub dead : (judging 2 3 Period dithers ≡ Dead) × (judging 2 3 (Capture 1) (rails ++ dithers) ≡ Dead)
  pub kept : (judging 2 3 Period barely ≡ Kept) × (judging 2 3 (Capture 1) (rails ++ barely) ≡ Kept)
  -- refused with 4 it tells the first return, which comes after one step, and accepted P
  pub period : ((judge_outcome 2 1 Period barely).period ≡ 1) × ((judge_outcome 2 3 Period barely).period ≡ 3) × ((judge_outcome 2 3 (Capture 0) barely).period ≡ 0)

pub order : Order
unfolding judge_outcome finding period seek some every window step dot ones
order =
    record {
      judge = λ N taps night y. refl;
      judge_1_2 = refl;
      judge_2_3 = refl;
      judge_3_4 = refl;
      judge_4_5 = refl;
      judge_4_18 = (refl, refl);
      judge_18_5 = (refl, refl);
      judge_5_7 = (refl, refl);
      judge_7_verdict = (refl, refl);
      overloaded-dead = (refl, refl);
      overloaded = (refl, refl);
      dead = (refl, refl);
      kept = (refl, refl);
      period = (refl, refl, refl);
    }
