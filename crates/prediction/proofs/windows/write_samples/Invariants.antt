-- `prediction::windows::write_samples` meets its contract: after j turns the first j samples of both halves are written. Assumes nothing.
use lib.IntN.{pos}
use Rattle.sums.specs.Lists.{at}
use Rattle.sums.proofs.Placed.{Placed}
use Rattle.register.specs.Register.{window as window_of}
use Rattle.response.proofs.Strands.{Forth, Windows}
use Rattle.prediction.proofs.windows.write_samples.Given as goal

abbrev pub invariant-loop-j : goal.invariant-loop-j
invariant-loop-j l = Windows l.register.order l.register.taps l.half l.j l.first l.second × Placed (pos 0) l.period (λ i. i) (λ i. at l.t (window_of l.register.order l.register.taps i)) (Forth l.half l.j) l.initial.out l.out
