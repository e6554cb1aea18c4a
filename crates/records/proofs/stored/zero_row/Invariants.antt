-- `records::stored::zero_row` meets its contract: all samples passed are 0. Assumes nothing.
use mathlib.Core.Path.{◌≡◌}
use mathlib.Core.Bool.{true}
use lib.IntN.{pos}
use Rattle.sums.specs.Lists.{at, every}
use Rattle.sums.specs.Equal.{eq_z}
use Rattle.records.proofs.stored.zero_row.Given as goal

abbrev pub invariant-loop-x : goal.invariant-loop-x
invariant-loop-x l = every l.x-index (λ i. eq_z (at l.row i) (pos 0)) ≡ true
