-- `prediction::direct::may_be_loud` meets its contract: the sum has the sizes of the values passed. Assumes nothing.
use mathlib.Core.Path.{◌≡◌, refl, ap, ◌∙◌}
use Prim.Native.Nat.{ℕ, ◌+◌, ◌*◌, ◌^◌, ◌≤◌}
use native.Mathlib.Numerals.{add-one}
use native.Mathlib.Omega.{arith}
use lib.IntN.{nat_abs}
use lib.ListN.{length}
use mir.Syntax.{w64}
use Rattle.sums.specs.Sum.{total}
use Rattle.sums.specs.Lists.{at}
use Rattle.sums.proofs.Bound.{read}
use Rattle.sums.proofs.Somewhere.{none_of}
use Rattle.sums.proofs.Sum.{total-le}
use Rattle.samples.specs.Samples.{sample_out}
use Rattle.samples.proofs.Sizes.{sample_size}
use Rattle.prediction.proofs.direct.may_be_loud.Goals as goal
use Rattle.prediction.proofs.direct.may_be_loud.Goals.{After-unsigned_abs-sum, Start}

-- every value is a sample, so a sum of their sizes is far from the largest number
small : (c : Start) → let h = c.args.h.now in (i : ℕ) → i ≤ length h → total i (λ k. nat_abs (at h k)) ≤ 65535 * 2 ^ 23
small c i l =
    let h = c.args.h.now in
    omega (
      arith,
      c.requires.0,
      total-le i (2 ^ 23) (λ k. nat_abs (at h k)) (λ k m. sample_size (at h k) (none_of (λ j. sample_out (at h j)) (length h) c.requires.1 k (omega arith))),
    )

-- the size that comes next
sized : (c : After-unsigned_abs-sum) → c.unsigned_abs-sum.result ≡ nat_abs (at c.args.h.now c.loop-i.i)
sized c = c.unsigned_abs-sum.ensures.value ∙ ap nat_abs (read w64 _ c.widened.type_inv ∙ c.widened.ensures)

-- and the sum with it
summed : (c : After-unsigned_abs-sum) → let h = c.args.h.now in
    total (c.loop-i.i + 1) (λ k. nat_abs (at h k)) ≡ c.loop-i.sum + c.unsigned_abs-sum.result
unfolding total
summed c = rw add-one (omega (arith, c.loop-i.invariant.1, sized c))

pub loop-i-init : goal.loop-i-init
unfolding total
loop-i-init c = (omega arith, refl)

pub overflow_add-sum : goal.overflow_add-sum
overflow_add-sum c = record { fits = omega (arith, summed c, small (goal.at.overflow_add-sum c).Start (c.loop-i.i + 1) (omega arith)) }

pub loop-i-preserved : goal.loop-i-preserved
loop-i-preserved c = (omega arith, omega (arith, summed c))
