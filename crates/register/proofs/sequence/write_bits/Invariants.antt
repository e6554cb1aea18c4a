-- `register::sequence::write_bits` meets its contract: after k turns the first k bits are written, and the window is that of place k.
-- Assumes nothing.
use mathlib.Core.Path.{◌≡◌}
use Rattle.sums.proofs.Tables.{Written}
use Rattle.register.specs.Register.{window as window_of, bit}
use Rattle.register.proofs.sequence.write_bits.Given as goal

abbrev pub invariant-loop-bit : goal.invariant-loop-bit
invariant-loop-bit l = (l.window ≡ window_of l.order l.taps l.bit-index) × Written l.bit-index (bit l.order l.taps) l.initial.bit-items l.bit-items
