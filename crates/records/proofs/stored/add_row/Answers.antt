-- `records::stored::add_row` meets its contract: the samples passed are added, and what is said of them is whether all were between the
-- bounds. Assumes nothing.
use mathlib.Core.Path.{◌≡◌, refl, sym, ap, ap₂, ◌∙◌}
use mathlib.Core.Bool.{◌&&◌}
use native.Mathlib.Decide.{ℕ_discrete, dec_lt}
use native.Mathlib.Omega.{arith}
use lib.IntN.{pos, nat_abs, ◌+ℤ◌, +ℤ_idr}
use lib.ListN.{length, set, length-set, get_or-eq_default}
use lib.Seq.{get_or-set_same, get_or-set_other}
use mir.Syntax.{w32, w64}
use mir.Val.{to_z, of_z}
use mir.Facts.{to_z-of_z}
use Rattle.sums.specs.Lists.{at, every}
use Rattle.sums.proofs.Bound.{small_fits, read, wide, nat_abs-+, nat_abs-≤}
use Rattle.sums.proofs.Everywhere.{every-next}
use Rattle.records.proofs.stored.add_row.Invariants.{bounded}
use Rattle.records.proofs.stored.add_row.Goals as goal
use Rattle.records.proofs.stored.add_row.Goals.{After-between-good}

pub loop-j-init : goal.loop-j-init
unfolding every
loop-j-init c = (omega arith, refl, refl, λ i l. absurd (omega arith), λ i l. refl)

pub slice_copy_out-sums : goal.slice_copy_out-sums
slice_copy_out-sums c = omega (arith, c.loop-j.invariant.2)

pub overflow_add-sums : goal.overflow_add-sums
overflow_add-sums c =
    let x = at c.args.row.now c.loop-j.j in
    let v = at c.loop-j.sums c.loop-j.j in
    rw (read w64 v c.sums-1.given, wide x c.x-1.given)
    (small_fits w64 _ (omega (arith, nat_abs-+ v x, ap nat_abs (c.loop-j.invariant.4 c.loop-j.j (omega arith)), c.requires.1 c.loop-j.j (omega arith), nat_abs-≤ x, c.x-1.given)))

pub loop-j-preserved : goal.loop-j-preserved
loop-j-preserved c =
    let row = c.args.row.now in
    let j = c.loop-j.j in
    let x = at row j in
    let v = at c.loop-j.sums j in
    let i = c.loop-j.invariant in
    let new = to_z-of_z (overflow_add-sums c) ∙ ap₂ ◌+ℤ◌ (read w64 v c.sums-1.given) (wide x c.x-1.given) ∙ ap (λ z. z +ℤ x) (i.4 j (omega arith)) in (
      omega arith,
      ap₂ ◌&&◌ i.1 (c.between-good.ensures ∙ ap (bounded (to_z w32 (of_z w32 c.args.low)) (to_z w32 (of_z w32 c.args.high))) (read w32 x c.x-1.given)) ∙ sym (every-next (λ k. bounded (to_z w32 (of_z w32 c.args.low)) (to_z w32 (of_z w32 c.args.high)) (at row k)) j),
      length-set c.loop-j.sums j _ ∙ i.2,
      λ k h. elim (ℕ_discrete k j) [
        | yes e ↦ ap (at (set c.loop-j.sums j _)) e ∙ get_or-set_same c.loop-j.sums j _ (pos 0) (slice_copy_out-sums (goal.at.loop-j-preserved c).After-between-good) ∙ new ∙ sym (ap (λ n. at c.args.sums.now n +ℤ at row n) e)
        | no e ↦ get_or-set_other c.loop-j.sums j k _ (pos 0) e ∙ i.3 k (omega arith)
      ],
      λ k h. get_or-set_other c.loop-j.sums j k _ (pos 0) (λ e. omega arith) ∙ i.4 k (omega arith),
    )

pub returns : goal.returns
returns c =
    let row = c.args.row.now in
    let i = c.loop-j.invariant in
    let e : c.loop-j.j ≡ length row = omega arith in (
      rw (e, to_z-of_z c.ranges.low, to_z-of_z c.ranges.high) at i.1,
      λ j. elim (dec_lt j (length row)) [
        | yes h ↦ i.3 j (omega arith)
        | no h ↦ i.4 j (omega arith) ∙ sym (ap (λ z. at c.args.sums.now j +ℤ z) (get_or-eq_default row (pos 0) (omega arith)) ∙ +ℤ_idr (at c.args.sums.now j))
      ],
    )
