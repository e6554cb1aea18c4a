-- `numbers::signals::fill_turns` meets its contract: after i turns the first i numbers are written. Assumes nothing.
use mathlib.Core.Path.{◌∙◌}
use native.Mathlib.Omega.{arith}
use mir.Syntax.{w32}
use mir.Facts.{to_z-of_z}
use Rattle.sums.proofs.Bound.{read}
use Rattle.sums.proofs.Tables.{written_none, written_more, written_all}
use Rattle.numbers.proofs.signals.fill_turns.Goals as goal

pub loop-i-init : goal.loop-i-init
loop-i-init c = written_none

pub loop-i-preserved : goal.loop-i-preserved
loop-i-preserved c = written_more c.loop-i.invariant (omega arith) (read w32 c.turn.result c.turn.type_inv ∙ c.turn.ensures)

pub returns : goal.returns
returns c = rw (to_z-of_z c.ranges.even, to_z-of_z c.ranges.odd) at (written_all c.loop-i.invariant (omega arith))
