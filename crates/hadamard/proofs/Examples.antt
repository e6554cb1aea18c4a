-- The definitions at small numbers. Assumes nothing.
use mathlib.Core.Path.{◌≡◌, refl}
use mathlib.Core.List.{List, [], ◌∷◌}
use lib.IntN.{ℤ, pos, negsuc}
use Rattle.sums.specs.Sum.{sum, total, sign}
use Rattle.sums.specs.Lists.{table}
use Rattle.hadamard.specs.Transform.{common, transformed, loudness}
use Rattle.hadamard.specs.Butterflies.{zip, folded, level, half_levels, two_levels, each_half}

-- 1101 and 0111 in binary
bits : common 4 13 7 ≡ 2
unfolding common
bits = refl

abbrev ramp : List ℤ
ramp = pos 1 ∷ pos 2 ∷ pos 3 ∷ negsuc 3 ∷ []

whole : table 4 (transformed 2 ramp) ≡ pos 2 ∷ pos 6 ∷ pos 4 ∷ negsuc 7 ∷ []
unfolding table transformed sum sign common
whole = refl

sizes : loudness ramp ≡ 10
unfolding loudness total
sizes = refl

once : level 2 ramp ≡ pos 4 ∷ negsuc 1 ∷ negsuc 1 ∷ pos 6 ∷ []
unfolding folded zip
once = refl

halves : half_levels 1 ramp ≡ pos 3 ∷ negsuc 0 ∷ negsuc 0 ∷ pos 7 ∷ []
unfolding folded zip
halves = refl

halves_transformed : each_half 1 ramp ≡ pos 3 ∷ negsuc 0 ∷ negsuc 0 ∷ pos 7 ∷ []
unfolding table transformed sum sign common
halves_transformed = refl

twice : two_levels 1 ramp ≡ pos 2 ∷ pos 6 ∷ pos 4 ∷ negsuc 7 ∷ []
unfolding folded zip
twice = refl
