-- `samples::clearing::fill_front` meets its contract: the first numbers that were passed hold the value. Assumes nothing.
use Rattle.sums.proofs.Tables.{Written}
use Rattle.samples.proofs.clearing.fill_front.Given as goal

abbrev pub invariant-loop-x : goal.invariant-loop-x
invariant-loop-x g l = Written l.x-index (λ _. l.value) l.initial.x-items l.x-items
