-- The formula recovers: a recording predicted at a period offered, turned into its response, is p + 1 times the response that it was
-- predicted from, exactly, with every check passed; and so from the one call's output through the other. Assumes nothing.
use borrow.Author.Tests.{le-ltb, eq-eqb, not-false}
use mathlib.Core.Path.{◌≡◌, refl, ap, ◌∙◌}
use mathlib.Core.Bool.{true, false}
use mathlib.Core.List.{List}
use Prim.Native.Nat.{ℕ, suc, ◌≤◌, ◌<◌}
use lib.IntN.{ℤ, pos, ◌*ℤ◌}
use lib.ListN.{length, take}
use Rattle.sums.specs.Lists.{at, table, put}
use Rattle.sums.proofs.First.{accepted_is}
use Rattle.sums.proofs.Parts.{take_put}
use Rattle.sums.proofs.Tables.{length-table, at_table, table_ext}
use Rattle.samples.specs.Samples.{some_out}
use Rattle.samples.proofs.Sizes.{table_out}
use Rattle.response.proofs.Linear.{response_ext}
use Rattle.legendre.specs.Legendre.{offered, wave}
use Rattle.legendre.specs.Calls.{predicted, recording_outcome, prediction_checks, prediction_outcome}
use Rattle.legendre.proofs.Exactly.{prediction-passed}
use Rattle.legendre.proofs.Flatness.{recovered}

module _ (p : ℕ) (h out : List ℤ) (one : offered p ≡ true) (inside : some_out p (predicted p h) ≡ false) (room : p ≤ length out) where
  -- the recording predicted
  heard : List ℤ
  heard = table p (predicted p h)

  long : length heard ≡ p
  unfolding heard
  long = length-table p (predicted p h)

  each : (j : ℕ) → j < p → at heard j ≡ predicted p h j
  unfolding heard
  each j l = at_table p (predicted p h) j (pos 0) l

  in_range : some_out (length heard) (at heard) ≡ false
  unfolding heard
  in_range = table_out p (predicted p h) ∙ inside

  pub recovers : recording_outcome p (table p (predicted p h)) out ≡ (0, put (table p (λ k. pos (suc p) *ℤ at h k)) out)
  unfolding recording_outcome heard
  recovers =
      simp (one, eq-eqb (length heard) p long, le-ltb (length out) p room, in_range)
      (ap (λ t. (0, put t out)) (table_ext p (λ k l. response_ext p (wave p) each k ∙ recovered p one (at h) k l)))

module _ (p : ℕ) (h out back : List ℤ) (accepted : (prediction_outcome p h out).0 ≡ 0) (room : p ≤ length back) where
  written : prediction_outcome p h out ≡ (0, put (table p (predicted p h)) out)
  unfolding prediction_outcome
  written = accepted_is (prediction_checks p h out) (λ (o : ℕ × List ℤ). o.0) _ _ (λ n. refl) accepted

  -- an output that is longer has the recording in front
  pub there_and_back : recording_outcome p (take p (prediction_outcome p h out).1) back ≡ (0, put (table p (λ k. pos (suc p) *ℤ at h k)) back)
  there_and_back =
      let c = prediction-passed p h out accepted in
      ap (λ (o : ℕ × List ℤ). recording_outcome p (take p o.1) back) written
      ∙ ap (λ y. recording_outcome p y back) (take_put p (predicted p h) out)
      ∙ recovers p h back (not-false (offered p) c.0) c.1.1.1.1.0 room
