-- `legendre::sequence::mark_squares` meets its contract: after i turns the squares of the numbers below i are marked. Assumes nothing.
use Rattle.legendre.specs.Working.{Marked}
use Rattle.legendre.proofs.sequence.mark_squares.Given as goal

abbrev pub invariant-loop-i : goal.invariant-loop-i
invariant-loop-i l = Marked l.i l.p l.initial.out l.out
