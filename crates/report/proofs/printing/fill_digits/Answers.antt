-- `report::printing::fill_digits` meets its contract: what is left of the number, and its last digits in the room. Assumes nothing.
use native.Mathlib.Omega.{arith}
use Rattle.report.proofs.Writing.{digits_more, digits_last}
use Rattle.report.proofs.printing.fill_digits.Goals as goal

pub loop-rest-preserved : goal.loop-rest-preserved
loop-rest-preserved c =
    let l = c.loop-rest in
    (omega arith, digits_more l.i l.invariant.1 (omega arith) (omega arith))

pub returns : goal.returns
returns c = let l = c.loop-rest in (digits_last l.invariant.1 (omega arith) (omega arith), omega arith)
