-- Document 01, "Order of checks", of a prediction: the checks' numbers as they stand, and for each two neighbours an input to which both
-- apply, with its answer. Order 2, so that P is 3. Assumes nothing.
use mathlib.Core.Path.{◌≡◌, refl}
use mathlib.Core.List.{List, [], ◌∷◌}
use Prim.Native.Nat.{ℕ}
use lib.Count.{ones}
use lib.IntN.{ℤ, pos}
use lib.ListN.{replicate}
use Rattle.sums.specs.Sum.{sum, sign}
use Rattle.sums.specs.Lists.{seek, some}
use Rattle.sums.specs.Refusals.{numbers}
use Rattle.register.specs.Register.{dot, step, window, bit, wave, period}
use Rattle.response.specs.Response.{prediction}
use Rattle.prediction.specs.Calls.{prediction_checks, prediction_outcome, roomed_checks, roomed_outcome}

-- two samples, and three with one outside the range
abbrev two : List ℤ
two = pos 1 ∷ pos 0 ∷ []

abbrev beyond : List ℤ
beyond = pos 8388608 ∷ pos 0 ∷ pos 0 ∷ []

-- the answers, by the lengths lent
abbrev foretold : ℕ → ℕ → List ℤ → ℕ → ℕ
foretold N taps h out = (prediction_outcome N taps h (replicate out (pos 9))).0

-- in a lent room
abbrev roomed : ℕ → ℕ → List ℤ → ℕ → ℕ → ℕ
roomed N taps h out room = (roomed_outcome N taps h (replicate out (pos 9)) (replicate room (pos 9))).0

pub record Order : Type 0 where
  pub prediction : (N taps : ℕ) (h out : List ℤ) → numbers (prediction_checks N taps h out) ≡ 1 ∷ 2 ∷ 3 ∷ 4 ∷ 5 ∷ 6 ∷ 7 ∷ 8 ∷ []
  pub foretold_1_2 : foretold 1 2 two 3 ≡ 1
  pub foretold_2_3 : foretold 2 4 two 3 ≡ 2
  pub foretold_3_4 : foretold 2 2 two 3 ≡ 3
  pub foretold_4_5 : foretold 2 1 two 3 ≡ 4
  pub foretold_5_6 : foretold 2 3 two 2 ≡ 5
  pub foretold_6_7 : foretold 2 3 beyond 2 ≡ 6
  pub foretold_7_8 : foretold 2 3 beyond 3 ≡ 7
  -- 8,388,607 in the first two places predicts minus twice that at the second
  pub foretold_8 : foretold 2 3 (pos 8388607 ∷ pos 8388607 ∷ pos 0 ∷ []) 3 ≡ 8
  pub prediction_in_room : (N taps : ℕ) (h out room : List ℤ) → numbers (roomed_checks N taps h out room) ≡ 1 ∷ 2 ∷ 3 ∷ 4 ∷ 5 ∷ 6 ∷ 7 ∷ 8 ∷ []
  pub roomed_4_5 : roomed 2 1 two 3 4 ≡ 4
  pub roomed_5_6 : (roomed 2 3 two 2 4 ≡ 5) × (roomed 2 3 two 3 3 ≡ 5)
  pub roomed_6_7 : (roomed 2 3 beyond 2 4 ≡ 6) × (roomed 2 3 beyond 3 3 ≡ 6)
  pub roomed_7_8 : roomed 2 3 beyond 3 4 ≡ 7
  pub roomed_8 : roomed 2 3 (pos 8388607 ∷ pos 8388607 ∷ pos 0 ∷ []) 3 4 ≡ 8

pub order : Order
unfolding prediction_outcome roomed_outcome prediction period seek some sum sign wave bit window step dot ones
order =
    record {
      prediction = λ N taps h out. refl;
      foretold_1_2 = refl;
      foretold_2_3 = refl;
      foretold_3_4 = refl;
      foretold_4_5 = refl;
      foretold_5_6 = refl;
      foretold_6_7 = refl;
      foretold_7_8 = refl;
      foretold_8 = refl;
      prediction_in_room = λ N taps h out room. refl;
      roomed_4_5 = refl;
      roomed_5_6 = (refl, refl);
      roomed_6_7 = (refl, refl);
      roomed_7_8 = refl;
      roomed_8 = refl;
    }
