-- `nights::summing::sum_periods` meets its contract: the first period is copied, and after it has come to i the row is the sum of i periods. Assumes nothing.
use mathlib.Core.Path.{◌≡◌}
use Rattle.nights.specs.Nights.{term}
use Rattle.nights.proofs.summing.sum_periods.Given as goal

abbrev pub invariant-loop-i : goal.invariant-loop-i
invariant-loop-i l = l.row ≡ term l.period l.i l.z
