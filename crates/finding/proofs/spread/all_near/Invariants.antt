-- `finding::spread::all_near` meets its contract: it has the largest and the smallest of the first sample and those passed. Assumes nothing.
use Rattle.std.proofs.Common.{◌≡◌, fold, take}
use Rattle.std.specs.Int.{int_max, int_min}
use Rattle.sums.specs.Lists.{at}
use Rattle.finding.proofs.spread.all_near.Given as goal

abbrev pub invariant-loop-x : goal.invariant-loop-x
invariant-loop-x l =
    (l.most ≡ fold int_max (at l.y 0) (take l.x-index l.y)) × (l.least ≡ fold int_min (at l.y 0) (take l.x-index l.y))
