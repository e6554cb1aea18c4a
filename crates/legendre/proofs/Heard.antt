-- The samples of a prediction, by what the ones meet, where they stand until they are handed over. Assumes nothing.
use mathlib.Core.Path.{◌≡◌, sym, ap, ap₂, ◌∙◌}
use mathlib.Core.Bool.{false}
use mathlib.Core.List.{List}
use Prim.Native.Nat.{ℕ, ◌^◌, ◌<◌}
use native.Mathlib.Omega.{arith}
use lib.IntN.{ℤ, pos, nat_abs, ◌-ℤ◌, ◌*ℤ◌}
use lib.ListN.{length, take}
use Rattle.sums.specs.Sum.{sum}
use Rattle.sums.specs.Lists.{at, table, put}
use Rattle.sums.proofs.Parts.{take_put}
use Rattle.sums.proofs.Tables.{table_ext}
use Rattle.legendre.specs.Calls.{predicted}
use Rattle.legendre.specs.Working.{Passed, met}
use Rattle.legendre.proofs.OnesMeet.{prediction-met, met_size, prediction_size}

module _ (h sums : List ℤ) (s : Passed h) (e : (j : ℕ) → j < length h → at sums j ≡ met (length h) false (at h) j) where
  pub met_small : (j : ℕ) → j < length h → nat_abs (at sums j) < 2 ^ 30
  met_small j l = rw (e j l) (met_size h s false j)

  module _ (whole : ℤ) (w : whole ≡ sum (length h) (at h)) where
    each : (j : ℕ) → j < length h → whole -ℤ pos 2 *ℤ at sums j ≡ predicted (length h) h j
    each j l = ap₂ (λ a b. a -ℤ pos 2 *ℤ b) w (e j l) ∙ sym (prediction-met (length h) s.period (at h) j l)

    pub heard_small : (j : ℕ) → j < length h → nat_abs (whole -ℤ pos 2 *ℤ at sums j) < 2 ^ 31
    heard_small j l = rw (each j l) (omega (arith, prediction_size h s j))

    pub heard_is : {heard : List ℤ} → heard ≡ put (table (length h) (λ j. whole -ℤ pos 2 *ℤ at sums j)) sums → take (length h) heard ≡ table (length h) (predicted (length h) h)
    heard_is q = ap (take (length h)) q ∙ take_put (length h) (λ j. whole -ℤ pos 2 *ℤ at sums j) sums ∙ table_ext (length h) each
