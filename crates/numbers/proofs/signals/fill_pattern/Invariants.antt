-- `numbers::signals::fill_pattern` meets its contract: after i turns the first i numbers are written. Assumes nothing.
use Rattle.sums.proofs.Tables.{Written}
use Rattle.numbers.specs.Signals.{pattern}
use Rattle.numbers.proofs.signals.fill_pattern.Given as goal

abbrev pub invariant-loop-i : goal.invariant-loop-i
invariant-loop-i l = Written l.i pattern l.initial.h l.h
