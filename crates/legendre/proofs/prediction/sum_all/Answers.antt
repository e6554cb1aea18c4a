-- `legendre::prediction::sum_all` meets its contract: of the values passed it is the sum. Assumes nothing.
use mathlib.Core.Path.{◌≡◌, refl, sym, ap, ap₂, ◌∙◌}
use Prim.Native.Nat.{ℕ, ◌<◌, suc, ◌^◌}
use native.Mathlib.Numerals.{add-one}
use native.Mathlib.Omega.{arith}
use lib.IntN.{ℤ, ◌+ℤ◌}
use mathlib.Core.List.{List}
use lib.ListN.{length}
use mir.Syntax.{w32}
use mir.Val.{of_z, to_z}
use mir.Facts.{to_z-of_z}
use Rattle.sums.specs.Sum.{sum}
use Rattle.sums.specs.Lists.{at}
use Rattle.sums.proofs.Bound.{small_fits}
use Rattle.sums.proofs.Sum.{sum-suc, nat_abs-sum}
use Rattle.legendre.specs.Working.{Passed}
use Rattle.legendre.proofs.OnesMeet.{few, sized}
use Rattle.legendre.proofs.prediction.sum_all.Goals as goal

pub loop-x-init : goal.loop-x-init
unfolding sum
loop-x-init c = refl

-- the value that is read
value : (h : List ℤ) → Passed h → (i : ℕ) → i < length h → to_z w32 (of_z w32 (at h i)) ≡ at h i
value h s i l = to_z-of_z {w = w32} (small_fits w32 (at h i) (omega (arith, sized h s i l)))

pub overflow_add-whole : goal.overflow_add-whole
overflow_add-whole c =
    let i = c.loop-x.x-index in
    let h = c.args.h.now in
    rw (c.loop-x.invariant, value h c.requires i c.loop-x-test.true, sym (sum-suc i (at h)))
    (small_fits w32 _ (omega (arith, nat_abs-sum (suc i) (2 ^ 23) (at h) (λ j k. sized h c.requires j (omega arith)), (few h c.requires).1)))

pub loop-x-preserved : goal.loop-x-preserved
loop-x-preserved c =
    let i = c.loop-x.x-index in
    let h = c.args.h.now in
    to_z-of_z (overflow_add-whole c) ∙ ap₂ ◌+ℤ◌ c.loop-x.invariant (value h c.requires i c.loop-x-test.true) ∙ sym (sum-suc i (at h))
    ∙ ap (λ n. sum n (at h)) (sym (add-one i))
