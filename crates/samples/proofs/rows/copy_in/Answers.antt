-- `samples::rows::copy_in` meets its contract: after j turns the first j samples are those passed. Assumes nothing.
use native.Mathlib.Omega.{arith}
use mir.Syntax.{w32}
use Rattle.sums.specs.Lists.{at}
use Rattle.sums.proofs.Bound.{read}
use Rattle.sums.proofs.Tables.{written_none, written_more}
use Rattle.samples.proofs.rows.copy_in.Goals as goal

pub loop-j-init : goal.loop-j-init
loop-j-init c = (omega arith, written_none)

pub loop-j-preserved : goal.loop-j-preserved
loop-j-preserved c =
    (omega arith, written_more c.loop-j.invariant.1 (omega arith) (read w32 (at c.args.part.now c.loop-j.j) c.row-1.given))
