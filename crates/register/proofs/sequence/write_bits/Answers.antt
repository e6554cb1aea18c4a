-- `register::sequence::write_bits` meets its contract: the bits that were passed are written, and the window is that of the next.
-- Assumes nothing.
use mathlib.Core.Path.{ap}
use Prim.Native.Nat.{ℕ, ◌%◌}
use native.Mathlib.Omega.{arith}
use Rattle.sums.proofs.Front.{front_written}
use Rattle.sums.proofs.Tables.{written_none, written_more}
use Rattle.register.specs.Register.{window as window_of, bit}
use Rattle.register.proofs.Windows.{window-lt, window-next}
use Rattle.register.proofs.sequence.write_bits.Goals as goal

pub loop-bit-init : goal.loop-bit-init
unfolding window_of
loop-bit-init c = (c.full_period-window.ensures, written_none)

pub loop-bit-preserved : goal.loop-bit-preserved
unfolding bit
loop-bit-preserved c =
    let a = c.args in
    let i = c.loop-bit.invariant in (
      window-next a.order a.taps c.loop-bit.bit-index i.0 c.step-window.ensures,
      written_more i.1 (omega arith) (ap (λ (w : ℕ). w % 2) i.0),
    )

pub returns : goal.returns
returns c = front_written c.args.count c.args.out.now c.loop-bit.invariant.1 c.requires.count_in_bounds (omega arith) (omega arith)

pub step-window-requires-clause-window_bound : goal.step-window-requires-clause-window_bound
step-window-requires-clause-window_bound c =
    let a = c.args in
    (rw c.loop-bit.invariant.0 (window-lt a.order a.taps c.loop-bit.bit-index))
