-- `signs::runs::blocks_run` meets its contract: a block has 1 to 64 signs, so what is left gets less. Assumes nothing.
use Prim.Native.Nat.{◌≤◌, ◌<◌}
use Rattle.signs.proofs.runs.blocks_run.Given as goal

abbrev pub invariant-loop-left : goal.invariant-loop-left
invariant-loop-left g l = (0 < l.length) × (l.length ≤ 64)

abbrev pub decreases-loop-left : goal.decreases-loop-left
decreases-loop-left g l = l.left
