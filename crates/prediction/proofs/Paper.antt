-- Document 01, "Numbers to hold it to": P1 to P12, one table under one claim, computed from the outcome functions; at P8 to P12 the taps check's
-- answer with its period, which 02 wants told. Order 3, taps 3 unless said. Assumes nothing.
use mathlib.Core.Path.{◌≡◌, refl}
use mathlib.Core.List.{List, [], ◌∷◌}
use Prim.Native.Nat.{ℕ}
use lib.Count.{ones}
use lib.IntN.{ℤ, pos, negsuc}
use lib.ListN.{replicate}
use Rattle.sums.specs.Sum.{sum, sign}
use Rattle.sums.specs.Lists.{seek, some, table, put}
use Rattle.register.specs.Register.{dot, step, window, bit, wave, period}
use Rattle.register.specs.Calls.{answer_of, taps_answer, sequence_outcome}
use Rattle.refusals.specs.declared.Answer.{Answer}
use Rattle.response.specs.Response.{correlation, response, prediction}
use Rattle.response.specs.Calls.{recording_outcome}
use Rattle.prediction.specs.Calls.{prediction_outcome}

-- seven of a number
abbrev seven : ℤ → List ℤ
seven z = replicate 7 z

-- 8 wide numbers and 7 tags, as they are lent here and as they are handed back
abbrev wide : ℤ → List ℤ
wide z = replicate 8 z

abbrev tags : ℕ → List ℕ
tags t = replicate 7 t

-- the taps check's answer, and the one with this number and this period
abbrev checked : ℕ → ℕ → Answer
checked N taps = answer_of N taps (taps_answer N taps)

abbrev says : ℕ → ℕ → Answer
says n p = record { number = n; period = p }

-- what one recording comes to, and that it comes to this response
abbrev turned : List ℤ → ℕ × List ℤ × List ℤ × List ℕ
turned y = recording_outcome 3 3 y (seven (pos 9)) (wide (pos 9)) (tags 9)

abbrev gives : List ℤ → ℕ × List ℤ × List ℤ × List ℕ
gives r = (0, r, wide (pos 0), tags 0)

pub record Paper : Type 0 where
  pub p1 : prediction_outcome 3 3 (pos 2 ∷ pos 0 ∷ negsuc 0 ∷ pos 0 ∷ pos 0 ∷ pos 0 ∷ pos 0 ∷ []) (seven (pos 9))
      ≡ (0, negsuc 0 ∷ negsuc 2 ∷ negsuc 0 ∷ pos 3 ∷ pos 3 ∷ negsuc 2 ∷ pos 1 ∷ [])
  pub p2 : turned (negsuc 0 ∷ negsuc 2 ∷ negsuc 0 ∷ pos 3 ∷ pos 3 ∷ negsuc 2 ∷ pos 1 ∷ [])
      ≡ gives (pos 16 ∷ pos 0 ∷ negsuc 7 ∷ pos 0 ∷ pos 0 ∷ pos 0 ∷ pos 0 ∷ [])
  pub p3 : turned (pos 0 ∷ pos 0 ∷ pos 0 ∷ pos 5 ∷ pos 0 ∷ pos 0 ∷ pos 0 ∷ [])
      ≡ gives (pos 0 ∷ negsuc 9 ∷ negsuc 9 ∷ negsuc 9 ∷ pos 0 ∷ negsuc 9 ∷ pos 0 ∷ [])
  pub p4 : turned (seven (pos 1)) ≡ gives (seven (negsuc 7))
  pub p5 : turned (seven (pos 0)) ≡ gives (seven (pos 0))
  pub p6 : turned (seven (negsuc 8388607)) ≡ gives (seven (pos 67108864))
  pub p7 : sequence_outcome 2 3 (9 ∷ 9 ∷ 9 ∷ []) ≡ (0, 1 ∷ 1 ∷ 0 ∷ [])
  pub p8 : checked 2 1 ≡ says 4 1
  pub p9 : checked 2 2 ≡ says 3 0
  pub p10 : checked 2 4 ≡ says 2 0
  pub p11 : checked 4 15 ≡ says 4 5
  pub p12 : checked 4 5 ≡ says 4 6

pub paper : Paper
unfolding prediction_outcome recording_outcome response correlation prediction sequence_outcome taps_answer period seek some table put sum sign wave bit window step dot ones
paper =
    record {
      p1 = refl;
      p2 = refl;
      p3 = refl;
      p4 = refl;
      p5 = refl;
      p6 = refl;
      p7 = refl;
      p8 = refl;
      p9 = refl;
      p10 = refl;
      p11 = refl;
      p12 = refl;
    }
