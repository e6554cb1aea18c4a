-- `legendre::recording::write_response` meets its contract: after k turns the first k are written. Assumes nothing.
use lib.IntN.{pos, neg_ℤ, ◌*ℤ◌}
use Rattle.sums.specs.Lists.{at}
use Rattle.sums.proofs.Tables.{Written}
use Rattle.legendre.proofs.recording.write_response.Given as goal

abbrev pub invariant-loop-k : goal.invariant-loop-k
invariant-loop-k l = Written l.k (λ i. neg_ℤ (pos 2 *ℤ at l.sums i)) l.initial.out l.out
