-- `quads` meets its contract. The invariant: the first i of each quarter are done, and the others are as they were.
-- Assumes nothing.
use mathlib.Core.Path.{◌≡◌}
use Prim.Native.Nat.{◌+◌}
use native.Mathlib.Omega.{arith}
use Rattle.hadamard.proofs.Quarters.{quartered_fit, quartered_more, quartered_all}
use Rattle.sums.specs.Lists.{at}
use Rattle.sums.proofs.Bound.{nat_abs-+, nat_abs-sub}
use Rattle.hadamard.specs.Butterflies.{add, sub}
use Rattle.hadamard.proofs.Size.{Four, first_two, last_two, two_fit, of_four, four_is}
use Rattle.hadamard.proofs.passes.quads.Goals as goal
use Rattle.hadamard.proofs.passes.quads.Goals.{In-loop-i}

-- the four numbers of this turn fit
four : (c : In-loop-i)
    → let v = c.loop-i.v in
    let i = c.loop-i.i in
    let q = c.args.q in
    Four (at v i) (at v (i + q)) (at v (i + (q + q))) (at v (i + (q + q + q)))
four c = quartered_fit _ _ _ _ c.loop-i-test.true c.loop-i.invariant c.requires.1

pub overflow_add-p : goal.overflow_add-p
overflow_add-p c = two_fit add nat_abs-+ (first_two (four (goal.at.overflow_add-p c).In-loop-i))

pub overflow_add-s : goal.overflow_add-s
overflow_add-s c = two_fit add nat_abs-+ (last_two (four (goal.at.overflow_add-s c).In-loop-i))

pub overflow_sub-r : goal.overflow_sub-r
overflow_sub-r c = two_fit sub nat_abs-sub (first_two (four (goal.at.overflow_sub-r c).In-loop-i))

pub overflow_sub-t : goal.overflow_sub-t
overflow_sub-t c = two_fit sub nat_abs-sub (last_two (four (goal.at.overflow_sub-t c).In-loop-i))

pub overflow_add-v : goal.overflow_add-v
overflow_add-v c = two_fit add nat_abs-+ (of_four (four (goal.at.overflow_add-v c).In-loop-i) add nat_abs-+)

pub overflow_add-v-in-loop-i : goal.overflow_add-v-in-loop-i
overflow_add-v-in-loop-i c = two_fit add nat_abs-+ (of_four (four (goal.at.overflow_add-v-in-loop-i c).In-loop-i) sub nat_abs-sub)

pub overflow_sub-v : goal.overflow_sub-v
overflow_sub-v c = two_fit sub nat_abs-sub (of_four (four (goal.at.overflow_sub-v c).In-loop-i) add nat_abs-+)

pub overflow_sub-v-in-loop-i : goal.overflow_sub-v-in-loop-i
overflow_sub-v-in-loop-i c = two_fit sub nat_abs-sub (of_four (four (goal.at.overflow_sub-v-in-loop-i c).In-loop-i) sub nat_abs-sub)

pub loop-i-preserved : goal.loop-i-preserved
loop-i-preserved c =
    let f = four (goal.at.loop-i-preserved c).In-loop-i in
    quartered_more _ _ _ _ c.loop-i-test.true c.loop-i.invariant c.requires.0 _ _ _ _
    (four_is f add nat_abs-+ add nat_abs-+) (four_is f sub nat_abs-sub add nat_abs-+)
    (four_is f add nat_abs-+ sub nat_abs-sub) (four_is f sub nat_abs-sub sub nat_abs-sub)

pub returns : goal.returns
returns c =
    let e : c.loop-i.i ≡ c.args.q = omega arith in
    quartered_all _ _ c.requires.0 _ (rw e at c.loop-i.invariant)
