-- `register::doubling::join` meets its contract: after i turns the first i bits have been added. Assumes nothing.
use mathlib.Core.Path.{◌≡◌}
use Rattle.register.specs.Doubling.{moved, joined}
use Rattle.register.proofs.doubling.join.Given as goal

abbrev pub invariant-loop-i : goal.invariant-loop-i
invariant-loop-i l = (l.sum ≡ joined l.order l.taps l.l l.m l.i) × (l.tag ≡ moved l.order l.taps l.i l.m)
