-- Document 01, "Order of checks", of one recording: the checks' numbers as they stand, and for each two neighbours an input to which both
-- apply, with its answer. Order 2, so that P is 3. Assumes nothing.
use mathlib.Core.Path.{◌≡◌, refl}
use mathlib.Core.List.{List, [], ◌∷◌}
use Prim.Native.Nat.{ℕ}
use lib.Count.{ones}
use lib.IntN.{ℤ, pos}
use lib.ListN.{replicate}
use Rattle.sums.specs.Lists.{seek, some}
use Rattle.sums.specs.Refusals.{numbers}
use Rattle.register.specs.Register.{dot, step, window, period}
use Rattle.response.specs.Calls.{recording_checks, recording_outcome}

-- two samples, and three with one outside the range
abbrev two : List ℤ
two = pos 1 ∷ pos 0 ∷ []

abbrev beyond : List ℤ
beyond = pos 8388608 ∷ pos 0 ∷ pos 0 ∷ []

-- the answer, by the lengths lent
abbrev recorded : ℕ → ℕ → List ℤ → ℕ → ℕ → ℕ → ℕ
recorded N taps y out room tags = (recording_outcome N taps y (replicate out (pos 9)) (replicate room (pos 9)) (replicate tags 9)).0

pub record Order : Type 0 where
  pub recording : (N taps : ℕ) (y out room : List ℤ) (tags : List ℕ)
      → numbers (recording_checks N taps y out room tags) ≡ 1 ∷ 2 ∷ 3 ∷ 4 ∷ 5 ∷ 6 ∷ 7 ∷ []
  pub recorded_1_2 : recorded 1 2 two 3 4 3 ≡ 1
  pub recorded_2_3 : recorded 2 4 two 3 4 3 ≡ 2
  pub recorded_3_4 : recorded 2 2 two 3 4 3 ≡ 3
  pub recorded_4_5 : recorded 2 1 two 3 4 3 ≡ 4
  pub recorded_5_6 : (recorded 2 3 two 2 4 3 ≡ 5) × (recorded 2 3 two 3 3 3 ≡ 5) × (recorded 2 3 two 3 4 2 ≡ 5)
  pub recorded_6_7 : (recorded 2 3 beyond 2 4 3 ≡ 6) × (recorded 2 3 beyond 3 3 3 ≡ 6) × (recorded 2 3 beyond 3 4 2 ≡ 6)
  pub recorded_7 : recorded 2 3 beyond 3 4 3 ≡ 7

pub order : Order
unfolding recording_outcome period seek some window step dot ones
order =
    record {
      recording = λ N taps y out room tags. refl;
      recorded_1_2 = refl;
      recorded_2_3 = refl;
      recorded_3_4 = refl;
      recorded_4_5 = refl;
      recorded_5_6 = (refl, refl, refl);
      recorded_6_7 = (refl, refl, refl);
      recorded_7 = refl;
    }
