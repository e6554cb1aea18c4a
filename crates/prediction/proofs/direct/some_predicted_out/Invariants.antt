-- `prediction::direct::some_predicted_out` meets its contract: none of the samples passed is out of the range. Assumes nothing.
use mathlib.Core.Path.{◌≡◌}
use mathlib.Core.Bool.{false}
use Prim.Native.Nat.{ℕ, ◌≤◌, ◌<◌}
use lib.ListN.{length}
use Rattle.register.specs.Register.{window}
use Rattle.samples.specs.Samples.{sample_out}
use Rattle.prediction.specs.Calls.{predicted}
use Rattle.prediction.proofs.direct.some_predicted_out.Given as goal

abbrev pub invariant-loop-j : goal.invariant-loop-j
invariant-loop-j l = (l._j ≤ length l.h) × (l.w ≡ window l.register.order l.register.taps l._j) × ((i : ℕ) → i < l._j → sample_out (predicted l.register.order l.register.taps l.h i) ≡ false)
