-- `butterflies` meets its contract. The invariant: the first i pairs are done, and the others are as they were.
-- Assumes nothing.
use Prim.Native.Nat.{◌+◌}
use Rattle.sums.specs.Lists.{at}
use Rattle.sums.proofs.Bound.{nat_abs-+, nat_abs-sub}
use Rattle.hadamard.specs.Butterflies.{add, sub}
use mathlib.Core.Path.{◌≡◌}
use native.Mathlib.Omega.{arith}
use Rattle.hadamard.proofs.Pairs.{paired_fit, paired_more, paired_all}
use Rattle.hadamard.proofs.Size.{Two, two_fit, two_is}
use Rattle.hadamard.proofs.passes.butterflies.Goals as goal
use Rattle.hadamard.proofs.passes.butterflies.Goals.{In-loop-i}

-- the two numbers of this turn fit
pair : (c : In-loop-i)
    → Two (at c.loop-i.v c.loop-i.i) (at c.loop-i.v (c.loop-i.i + c.args.half))
pair c = paired_fit _ _ _ _ c.loop-i-test.true c.loop-i.invariant c.requires.1

pub overflow_add-v : goal.overflow_add-v
overflow_add-v c = two_fit add nat_abs-+ (pair (goal.at.overflow_add-v c).In-loop-i)

pub overflow_sub-v : goal.overflow_sub-v
overflow_sub-v c = two_fit sub nat_abs-sub (pair (goal.at.overflow_sub-v c).In-loop-i)

pub loop-i-preserved : goal.loop-i-preserved
loop-i-preserved c =
    let e = pair (goal.at.loop-i-preserved c).In-loop-i in
    paired_more _ _ _ _ c.loop-i-test.true c.loop-i.invariant c.requires.0 _ _ (two_is add nat_abs-+ e) (two_is sub nat_abs-sub e)

pub returns : goal.returns
returns c =
    let e : c.loop-i.i ≡ c.args.half = omega arith in
    paired_all _ _ _ c.requires.0 (rw e at c.loop-i.invariant)
