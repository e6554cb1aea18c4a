-- `legendre::prediction::hear` meets its contract: after j turns the first j are written. Assumes nothing.
use lib.IntN.{pos, ◌-ℤ◌, ◌*ℤ◌}
use Rattle.sums.specs.Lists.{at}
use Rattle.sums.proofs.Tables.{Written}
use Rattle.legendre.proofs.prediction.hear.Given as goal

abbrev pub invariant-loop-j : goal.invariant-loop-j
invariant-loop-j l = Written l.j (λ i. l.whole -ℤ pos 2 *ℤ at l.initial.sums i) l.initial.sums l.sums
