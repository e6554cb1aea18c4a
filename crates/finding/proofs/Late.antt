-- Document 02, request 8: a recording that starts late is kept exactly if the other is, and dead exactly if the other is; an overload is at another place.
-- Assumes nothing.
use mathlib.Core.Path.{◌≡◌, refl, sym, ap, ap₂, ◌∙◌}
use mathlib.Core.Bool.{Bool, true, false, cond}
use mathlib.Core.List.{List}
use Prim.Native.Nat.{ℕ, ◌*◌}
use native.Mathlib.Decide.{dec_lt}
use native.Mathlib.Omega.{arith}
use lib.Dec.{ltb}
use lib.IntN.{ℤ, pos, ◌-ℤ◌}
use lib.ListN.{length}
use lib.Signed.{le_z}
use Rattle.sums.specs.Lists.{at, some}
use Rattle.sums.specs.Turned.{late}
use Rattle.sums.proofs.Reordered.{Reordered, some_reordered, largest_reordered, smallest_reordered}
use Rattle.sums.proofs.Somewhere.{seek-some}
use Rattle.sums.proofs.Turned.{late_long, late-none, late_reordered}
use Rattle.samples.specs.Samples.{rail}
use Rattle.finding.specs.Finding.{rail_place, dead_spread, still, judged, finding}
use Rattle.std.proofs.Common.{Some, None}
use Rattle.finding.specs.declared.Finding.{Finding}
use Rattle.finding.specs.declared.Finding.TheVariants as found

module _ (P d m : ℕ) (y : List ℤ) (long : length y ≡ m * P) where
  order : Reordered (length y) (at y) (at (late P d y))
  order = late_reordered P d y m long

  same-rail : ltb (rail_place (late P d y)) (length (late P d y)) ≡ ltb (rail_place y) (length y)
  same-rail =
      seek-some (λ j. rail (at (late P d y) j)) (length (late P d y)) ∙ ap (λ n. some n (λ j. rail (at (late P d y) j))) (late_long P d y)
      ∙ some_reordered order rail ∙ sym (seek-some (λ j. rail (at y j)) (length y))

  same-still : still (late P d y) ≡ still y
  same-still = elim (dec_lt 0 (length y)) [
    | yes o ↦ rw (late_long P d y) (ap₂ (λ a b. le_z (a -ℤ b) (pos dead_spread)) (largest_reordered order o) (smallest_reordered order o))
    | no o ↦ ap still (late-none P d y (omega arith))
  ]

  -- all that may be read off a finding but an overload's place
  pub found_late : {A : Type 0} (read : Finding → A) → ((p q : ℕ) → read (found.Overloaded p) ≡ read (found.Overloaded q))
      → read (finding (late P d y)) ≡ read (finding y)
  unfolding finding
  found_late read alike = rw (same-rail, same-still) (go (ltb (rail_place y) (length y)))
    where
      go : (b : Bool) → read (judged (cond b (Some (rail_place (late P d y))) None) (still y)) ≡ read (judged (cond b (Some (rail_place y)) None) (still y))
      go true = alike (rail_place (late P d y)) (rail_place y)
      go false = refl
