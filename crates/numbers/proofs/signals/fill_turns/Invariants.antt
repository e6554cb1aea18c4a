-- `numbers::signals::fill_turns` meets its contract: after i turns the first i numbers are written. Assumes nothing.
use Rattle.sums.proofs.Tables.{Written}
use Rattle.numbers.specs.Signals.{turns}
use Rattle.numbers.proofs.signals.fill_turns.Given as goal

abbrev pub invariant-loop-i : goal.invariant-loop-i
invariant-loop-i l = Written l.i (turns l.even l.odd) l.initial.y l.y
