-- `numbers::late::fill_late` meets its contract: after j turns the first j numbers are those that stood d places further on. Assumes nothing.
use Rattle.sums.specs.Lists.{at}
use Rattle.sums.specs.Turned.{onward}
use Rattle.sums.proofs.Tables.{Written}
use Rattle.numbers.proofs.late.fill_late.Given as goal

abbrev pub invariant-loop-j : goal.invariant-loop-j
invariant-loop-j l = Written l.j (λ i. at l.y (onward l.period l.d i)) l.initial.out l.out
