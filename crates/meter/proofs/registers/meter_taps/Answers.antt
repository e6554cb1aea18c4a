-- `meter::registers::meter_taps` meets its contract. Assumes nothing.
use mathlib.Core.Path.{refl}
use Prim.Native.Nat.{ℕ}
use Rattle.register.proofs.HowShort.{passed_on}
use Rattle.meter.proofs.Telling.{handed_on}
use Rattle.meter.proofs.registers.meter_taps.Goals as goal

pub returns : goal.returns
returns c =
    let a = c.args in
    handed_on a.order a.taps a.period.now (λ n (o : ℕ). n) refl (passed_on a.order a.taps (λ n (o : ℕ). n) refl c.check_taps.ensures refl) c.write_answer.ensures
