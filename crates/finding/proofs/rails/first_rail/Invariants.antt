-- `finding::rails::first_rail` meets its contract: the first place at a rail lies ahead. Assumes nothing.
use mathlib.Core.Bool.{Bool}
use mathlib.Core.List.{List}
use Prim.Native.Nat.{ℕ}
use lib.IntN.{ℤ}
use lib.ListN.{length}
use Rattle.sums.specs.Lists.{at}
use Rattle.samples.specs.Samples.{rail}
use Rattle.sums.proofs.Seek.{Ahead}
use Rattle.finding.proofs.rails.first_rail.Given as goal

abbrev pub test : List ℤ → ℕ → Bool
test y j = rail (at y j)

abbrev pub invariant-loop-j : goal.invariant-loop-j
invariant-loop-j l = Ahead (test l.y) (length l.y) l.j
