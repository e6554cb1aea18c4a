-- `butterflies` meets its contract. The invariant: the first i pairs are done, and the others are as they were.
-- Assumes nothing.
use Rattle.hadamard.proofs.Pairs.{Paired}
use Rattle.hadamard.proofs.passes.butterflies.Given as goal

abbrev pub invariant-loop-i : goal.invariant-loop-i
invariant-loop-i l = Paired l.initial.v l.half l.i l.v
