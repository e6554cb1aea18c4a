-- `meter::registers::meter_sequence` meets its contract. Assumes nothing.
use mathlib.Core.Path.{refl}
use mathlib.Core.List.{List}
use Prim.Native.Nat.{ℕ}
use Rattle.meter.proofs.Telling.{handed_on}
use Rattle.meter.proofs.registers.meter_sequence.Goals as goal

pub returns : goal.returns
returns c =
    let a = c.args in
    handed_on a.order a.taps a.period.now (λ n (o : ℕ × List ℕ). (n, o.1)) refl c.sequence.ensures c.write_answer.ensures
