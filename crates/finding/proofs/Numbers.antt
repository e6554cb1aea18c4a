-- Document 02, request 2, at its edge, computed: 6 and 7 apart are dead, 8 is kept, at the first, a middle and the last place, at both signs and
-- next to both rails; and a rail comes first. Assumes nothing.
use mathlib.Core.Path.{◌≡◌, refl}
use mathlib.Core.List.{List, [], ◌∷◌}
use lib.IntN.{ℤ, pos, negsuc}
use lib.ListN.{replicate}
use Rattle.sums.specs.Lists.{seek, every}
use Rattle.finding.specs.Finding.{finding}
use Rattle.finding.specs.declared.Finding.TheVariants.{Overloaded, Dead, Kept}

-- seven samples, all z but one
abbrev first : ℤ → ℤ → List ℤ
first z one = one ∷ replicate 6 z

abbrev middle : ℤ → ℤ → List ℤ
middle z one = z ∷ z ∷ z ∷ one ∷ replicate 3 z

abbrev last : ℤ → ℤ → List ℤ
last z one = z ∷ z ∷ z ∷ z ∷ z ∷ z ∷ one ∷ []

pub record Edges : Type 0 where
  pub constant : finding (replicate 7 (pos 5)) ≡ Dead
  pub six : (finding (first (pos 0) (pos 6)) ≡ Dead) × (finding (middle (pos 0) (negsuc 5)) ≡ Dead) × (finding (last (negsuc 2) (pos 3)) ≡ Dead)
  pub seven : (finding (first (pos 0) (negsuc 6)) ≡ Dead) × (finding (middle (negsuc 3) (pos 3)) ≡ Dead) × (finding (last (pos 0) (pos 7)) ≡ Dead)
  pub eight : (finding (first (negsuc 3) (pos 4)) ≡ Kept) × (finding (middle (pos 0) (pos 8)) ≡ Kept) × (finding (last (pos 0) (negsuc 7)) ≡ Kept)
  -- no two neighbours, and no sample and the first, are more than 4 apart
  pub both_ways : finding (pos 0 ∷ pos 4 ∷ pos 0 ∷ negsuc 3 ∷ pos 0 ∷ pos 0 ∷ pos 0 ∷ []) ≡ Kept
  pub under_the_upper_rail : (finding (first (pos 8388606) (pos 8388599)) ≡ Dead) × (finding (last (pos 8388606) (pos 8388598)) ≡ Kept)
  pub over_the_lower_rail : (finding (first (negsuc 8388606) (negsuc 8388599)) ≡ Dead) × (finding (last (negsuc 8388606) (negsuc 8388598)) ≡ Kept)
  pub from_end_to_end : finding (negsuc 8388606 ∷ pos 8388606 ∷ []) ≡ Kept
  -- a rail comes first
  pub dead-at_a_rail : (finding (replicate 7 (pos 8388607)) ≡ Overloaded 0) × (finding (middle (pos 8388600) (pos 8388607)) ≡ Overloaded 3)
      × (finding (last (negsuc 8388600) (negsuc 8388607)) ≡ Overloaded 6)

pub edges : Edges
unfolding finding seek every
edges =
    record {
      constant = refl;
      six = (refl, refl, refl);
      seven = (refl, refl, refl);
      eight = (refl, refl, refl);
      both_ways = refl;
      under_the_upper_rail = (refl, refl);
      over_the_lower_rail = (refl, refl);
      from_end_to_end = refl;
      dead-at_a_rail = (refl, refl, refl);
    }
