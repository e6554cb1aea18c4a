-- `legendre::sequence::mark_squares` meets its contract: after i turns the squares of the numbers below i are marked. Assumes nothing.
use native.Mathlib.Omega.{arith}
use Rattle.legendre.proofs.Bits.{marked-none, marked_more}
use Rattle.legendre.proofs.sequence.mark_squares.Goals as goal

pub loop-i-init : goal.loop-i-init
loop-i-init c = marked-none

pub loop-i-preserved : goal.loop-i-preserved
loop-i-preserved c = marked_more c.loop-i.invariant (omega arith) (omega arith)
