-- `legendre::prediction::sum_all` meets its contract: of the values passed it is the sum. Assumes nothing.
use mathlib.Core.Path.{◌≡◌}
use Rattle.sums.specs.Sum.{sum}
use Rattle.sums.specs.Lists.{at}
use Rattle.legendre.proofs.prediction.sum_all.Given as goal

abbrev pub invariant-loop-x : goal.invariant-loop-x
invariant-loop-x l = l.whole ≡ sum l.x-index (at l.h)
