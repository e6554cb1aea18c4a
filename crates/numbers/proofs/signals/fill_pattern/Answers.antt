-- `numbers::signals::fill_pattern` meets its contract: after i turns the first i numbers are written. Assumes nothing.
use mathlib.Core.Path.{ap, ◌∙◌}
use Prim.Native.Nat.{◌*◌, ◌%◌, ◌<◌, ◌^◌}
use native.Mathlib.Nat.{mod-lt}
use native.Mathlib.Omega.{arith}
use lib.IntN.{pos, ◌-ℤ◌}
use mir.Syntax.{w32}
use mir.Facts.{to_z-of_z, to_z_pos}
use Rattle.sums.proofs.Bound.{small_fits, nat_abs-sub}
use Rattle.sums.proofs.Tables.{written_none, written_more, written_all}
use Rattle.numbers.proofs.signals.fill_pattern.Goals as goal
use Rattle.numbers.proofs.signals.fill_pattern.Goals.{In-loop-i}

below : (c : In-loop-i) → c.loop-i.i * 37 % 23 < 2 ^ 31
below c = omega (arith, mod-lt (c.loop-i.i * 37) {m = 23} (omega arith))

pub loop-i-init : goal.loop-i-init
loop-i-init c = written_none

pub overflow_sub-x : goal.overflow_sub-x
overflow_sub-x c =
    let n = c.loop-i.i * 37 % 23 in
    rw (to_z_pos w32 (below (goal.at.overflow_sub-x c).In-loop-i)) (small_fits w32 _ (omega (arith, nat_abs-sub (pos n) (pos 11), mod-lt (c.loop-i.i * 37) {m = 23} (omega arith))))

pub loop-i-preserved : goal.loop-i-preserved
loop-i-preserved c =
    written_more c.loop-i.invariant (omega arith) (to_z-of_z (overflow_sub-x c) ∙ ap (λ z. z -ℤ pos 11) (to_z_pos w32 (below (goal.at.loop-i-preserved c).In-loop-i)))

pub returns : goal.returns
returns c = written_all c.loop-i.invariant (omega arith)
