-- `prediction::windows::some_sample_out` meets its contract: none of the samples passed in both halves is out of the range. Assumes nothing.
use mathlib.Core.Path.{◌≡◌}
use mathlib.Core.Bool.{false}
use Prim.Native.Nat.{ℕ}
use Rattle.sums.specs.Lists.{at}
use Rattle.register.specs.Register.{window as window_of}
use Rattle.samples.specs.Samples.{sample_out}
use Rattle.response.proofs.Strands.{Forth, Windows}
use Rattle.prediction.proofs.windows.some_sample_out.Given as goal

abbrev pub invariant-loop-j : goal.invariant-loop-j
invariant-loop-j l = Windows l.register.order l.register.taps l.half l._j l.first l.second × ((i : ℕ) → Forth l.half l._j i → sample_out (at l.t (window_of l.register.order l.register.taps i)) ≡ false)
