-- `meter::recordings::meter_recording` meets its contract. Assumes nothing.
use mathlib.Core.Path.{refl}
use mathlib.Core.List.{List}
use Prim.Native.Nat.{ℕ}
use lib.IntN.{ℤ}
use Rattle.meter.proofs.Telling.{handed_on}
use Rattle.meter.proofs.recordings.meter_recording.Goals as goal

pub returns : goal.returns
returns c =
    let a = c.args in
    handed_on a.order a.taps a.period.now (λ n (o : ℕ × List ℤ × List ℤ × List ℕ). (n, o.1, o.2, o.3)) refl c.one_recording.ensures c.write_answer.ensures
