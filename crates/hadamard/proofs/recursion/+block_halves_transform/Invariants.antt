-- The measures of the cycle of calls {block, halves, transform}. `halves` calls `block`, and `block` `transform`, at the same n, and
-- `transform` calls `halves` at less: the measure is 3 n for `transform`, and one more for each of the others that calls on to it.
use Prim.Native.Nat.{◌+◌, ◌*◌}
use Rattle.hadamard.proofs.recursion.+block_halves_transform.Given as goal

abbrev pub decreases-block : goal.decreases-block
decreases-block l = 3 * l.n + 1

abbrev pub decreases-halves : goal.decreases-halves
decreases-halves l = 3 * l.n + 2

abbrev pub decreases-transform : goal.decreases-transform
decreases-transform l = 3 * l.n
