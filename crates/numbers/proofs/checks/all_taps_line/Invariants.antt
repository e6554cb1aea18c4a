-- `numbers::checks::all_taps_line` meets its contract: the digest stays below its modulus, and no more are accepted than there are taps. Assumes nothing.
use Prim.Native.Nat.{◌≤◌, ◌<◌}
use Rattle.numbers.proofs.checks.all_taps_line.Given as goal

abbrev pub invariant-loop-taps : goal.invariant-loop-taps
invariant-loop-taps g l = (l.count ≤ l.taps) × (l.d < 1000003)
