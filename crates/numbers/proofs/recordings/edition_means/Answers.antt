-- `numbers::recordings::edition_means` meets its contract: each of the means is a sample. Assumes nothing.
use mathlib.Core.Path.{refl}
use mathlib.Core.List.{List, [], ◌∷◌}
use Prim.Native.Nat.{ℕ, ◌≤◌, ◌<◌}
use native.Mathlib.Omega.{arith}
use borrow.Author.Tests.{ltb-false}
use lib.Dec.{ltb}
use lib.IntN.{ℤ, pos, negsuc, nat_abs}
use Rattle.sums.specs.Lists.{at, some}
use Rattle.sums.proofs.Somewhere.{none_of}
use Rattle.rounding.specs.Rounding.{rounded}
use Rattle.rounding.proofs.Halves.{rounded_bound}
use Rattle.samples.proofs.Sizes.{size_inside}
use Rattle.numbers.proofs.recordings.edition_means.Goals as goal

-- the numbers divided, and that none of them is far from zero
abbrev given : List ℤ
given = pos 4 ∷ negsuc 3 ∷ negsuc 9 ∷ pos 12 ∷ negsuc 11 ∷ pos 3 ∷ negsuc 2 ∷ pos 0 ∷ []

near-zero : (k : ℕ) → k < 8 → nat_abs (at given k) ≤ 12
unfolding some
near-zero k l = ltb-false 12 (nat_abs (at given k)) (none_of (λ i. ltb 12 (nat_abs (at given i))) 8 refl k l)

pub write_means-requires-clause-by_index : goal.write_means-requires-clause-by_index
write_means-requires-clause-by_index g c = (λ k l. size_inside (rounded c.args.edition (at given k) 8) (rounded_bound c.args.edition (at given k) 8 8388607 (omega arith) (omega (arith, near-zero k l))))
