-- `samples::clearing::fill_front` meets its contract: the first numbers that were passed hold the value. Assumes nothing.
use Rattle.std.proofs.Common.{refl, arith}
use Rattle.sums.proofs.Front.{front_written}
use Rattle.sums.proofs.Tables.{written_none, written_more}
use Rattle.samples.proofs.clearing.fill_front.Goals as goal

pub loop-x-init : goal.loop-x-init
loop-x-init g c = written_none

pub loop-x-preserved : goal.loop-x-preserved
loop-x-preserved g c = written_more c.loop-x.invariant (omega arith) refl

pub returns : goal.returns
returns g c = front_written c.args.count c.args.v.now c.loop-x.invariant c.requires (omega arith) (omega arith)
