-- Document 01, "Order of checks", with document 02, request 10, of the three calls of Legendre sequences: the checks' numbers as they stand, and for each two
-- neighbours an input to which both apply, with its answer. Period 7, and 13, which is not offered. Assumes nothing.
use mathlib.Core.Path.{◌≡◌, refl}
use mathlib.Core.List.{List, [], ◌∷◌}
use Prim.Native.Nat.{ℕ}
use lib.IntN.{ℤ, pos}
use lib.ListN.{replicate}
use Rattle.sums.specs.Sum.{sum, sign}
use Rattle.sums.specs.Lists.{some}
use Rattle.sums.specs.Refusals.{numbers}
use Rattle.response.specs.Response.{prediction}
use Rattle.legendre.specs.Legendre.{offered, bit, wave}
use Rattle.legendre.specs.Calls.{sequence_checks, sequence_outcome, recording_checks, recording_outcome, prediction_checks, prediction_outcome}

-- two samples, and seven with one outside the range
abbrev two : List ℤ
two = pos 1 ∷ pos 0 ∷ []

abbrev beyond : List ℤ
beyond = pos 8388608 ∷ replicate 6 (pos 0)

-- the answers, by the length of the output
abbrev told : ℕ → ℕ → ℕ
told p out = (sequence_outcome p (replicate out 9)).0

abbrev recorded : ℕ → List ℤ → ℕ → ℕ
recorded p y out = (recording_outcome p y (replicate out (pos 9))).0

abbrev foretold : ℕ → List ℤ → ℕ → ℕ
foretold p h out = (prediction_outcome p h (replicate out (pos 9))).0

pub record Order : Type 0 where
  pub sequence : (p : ℕ) (out : List ℕ) → numbers (sequence_checks p out) ≡ 25 ∷ 6 ∷ []
  pub told_25_6 : told 13 12 ≡ 25
  pub told_6 : told 7 6 ≡ 6
  pub recording : (p : ℕ) (y out : List ℤ) → numbers (recording_checks p y out) ≡ 25 ∷ 5 ∷ 6 ∷ 7 ∷ []
  pub recorded_25_5 : recorded 13 two 13 ≡ 25
  pub recorded_5_6 : recorded 7 two 6 ≡ 5
  pub recorded_6_7 : recorded 7 beyond 6 ≡ 6
  pub recorded_7 : recorded 7 beyond 7 ≡ 7
  pub prediction : (p : ℕ) (h out : List ℤ) → numbers (prediction_checks p h out) ≡ 25 ∷ 5 ∷ 6 ∷ 7 ∷ 8 ∷ []
  pub foretold_25_5 : foretold 13 two 13 ≡ 25
  pub foretold_5_6 : foretold 7 two 6 ≡ 5
  pub foretold_6_7 : foretold 7 beyond 6 ≡ 6
  pub foretold_7_8 : foretold 7 beyond 7 ≡ 7
  -- 8,388,607 in the first two places predicts twice that at the third
  pub foretold_8 : foretold 7 (pos 8388607 ∷ pos 8388607 ∷ replicate 5 (pos 0)) 7 ≡ 8

pub order : Order
unfolding sequence_outcome recording_outcome prediction_outcome prediction offered wave bit some sum sign
order =
    record {
      sequence = λ p out. refl;
      told_25_6 = refl;
      told_6 = refl;
      recording = λ p y out. refl;
      recorded_25_5 = refl;
      recorded_5_6 = refl;
      recorded_6_7 = refl;
      recorded_7 = refl;
      prediction = λ p h out. refl;
      foretold_25_5 = refl;
      foretold_5_6 = refl;
      foretold_6_7 = refl;
      foretold_7_8 = refl;
      foretold_8 = refl;
    }
