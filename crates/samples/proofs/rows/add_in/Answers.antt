-- `samples::rows::add_in` meets its contract: the samples passed are added. Assumes nothing.
use mathlib.Core.Path.{ap, ap₂, ◌∙◌}
use native.Mathlib.Omega.{arith}
use lib.IntN.{pos, nat_abs, ◌+ℤ◌}
use mir.Syntax.{w32}
use mir.Facts.{to_z-of_z}
use Rattle.sums.specs.Lists.{at}
use Rattle.sums.proofs.Bound.{small_fits, read, nat_abs-+}
use Rattle.sums.proofs.Tables.{written_none, written_more, written_ahead}
use Rattle.samples.proofs.rows.add_in.Goals as goal

pub loop-j-init : goal.loop-j-init
loop-j-init c = (omega arith, written_none)

pub overflow_add-row : goal.overflow_add-row
overflow_add-row c =
    let j = c.loop-j.j in
    let x = at c.args.part.now j in
    let v = at c.loop-j.row j in
    rw (read w32 v c.row-in-loop-j-1.given, read w32 x c.row-1.given)
    (small_fits w32 _ (omega (arith, nat_abs-+ v x, ap nat_abs (written_ahead c.loop-j.invariant.1 (pos 0)), c.requires.1 j (omega arith))))

pub loop-j-preserved : goal.loop-j-preserved
loop-j-preserved c =
    let x = at c.args.part.now c.loop-j.j in
    let v = at c.loop-j.row c.loop-j.j in (
      omega arith,
      written_more c.loop-j.invariant.1 (omega arith)
          (to_z-of_z (overflow_add-row c) ∙ ap₂ ◌+ℤ◌ (read w32 v c.row-in-loop-j-1.given ∙ written_ahead c.loop-j.invariant.1 (pos 0)) (read w32 x c.row-1.given)),
    )
