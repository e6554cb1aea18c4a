-- `quads` meets its contract. The invariant: the first i of each quarter are done, and the others are as they were.
-- Assumes nothing.
use Rattle.hadamard.proofs.Quarters.{Quartered}
use Rattle.hadamard.proofs.passes.quads.Given as goal

abbrev pub invariant-loop-i : goal.invariant-loop-i
invariant-loop-i l = Quartered l.initial.v l.q l.i l.v
