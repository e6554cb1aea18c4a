-- `records::stored::zero_row` meets its contract: all samples passed are 0. Assumes nothing.
use mathlib.Core.Path.{refl, sym, ap}
use native.Mathlib.Omega.{arith}
use lib.IntN.{pos}
use lib.ListN.{length}
use mir.Syntax.{w32}
use mir.Val.{of_z}
use Rattle.sums.specs.Lists.{at, every}
use Rattle.sums.proofs.Bound.{same_bits}
use Rattle.sums.specs.Equal.{eq_z}
use Rattle.sums.proofs.Equal.{eq_z_other, eq_z-same}
use Rattle.sums.proofs.Everywhere.{every_fails, every_more}
use Rattle.records.proofs.stored.zero_row.Goals as goal

pub loop-x-init : goal.loop-x-init
unfolding every
loop-x-init c = refl

pub returns-then-x-ne0 : goal.returns-then-x-ne0
returns-then-x-ne0 c =
    let y = c.args.row.now in
    let j = c.loop-x.x-index in
    sym (every_fails (λ i. eq_z (at y i) (pos 0)) (length y) j (omega arith) (eq_z_other (at y j) (pos 0) (λ e. c.if-x-ne0.true (ap (of_z w32) e))))

pub loop-x-preserved : goal.loop-x-preserved
loop-x-preserved c =
    let y = c.args.row.now in
    let j = c.loop-x.x-index in
    every_more (λ i. eq_z (at y i) (pos 0)) j c.loop-x.invariant
    (eq_z-same (same_bits w32 (at y j) (pos 0) (record { sfits = omega arith }) (record { sfits = omega arith }) c.if-x-ne0.false))
