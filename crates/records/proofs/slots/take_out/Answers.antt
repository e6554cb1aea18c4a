-- `records::slots::take_out` meets its contract: the samples passed are taken from their sums. Assumes nothing.
use mathlib.Core.Path.{◌≡◌, ap, ap₂, ◌∙◌}
use mathlib.Core.List.{List}
use Prim.Native.Nat.{ℕ}
use native.Mathlib.Omega.{arith}
use lib.IntN.{ℤ, pos, nat_abs, ◌-ℤ◌}
use mir.Syntax.{w64}
use mir.Facts.{to_z-of_z}
use Rattle.sums.specs.Lists.{at}
use Rattle.sums.proofs.Bound.{small_fits, read, wide, nat_abs-sub, nat_abs-≤}
use Rattle.sums.proofs.Tables.{Written, written_none, written_more, at_tail}
use Rattle.records.proofs.slots.take_out.Goals as goal

-- the next sum is as it was
ahead : {n : ℕ} {f : ℕ → ℤ} {d s : List ℤ} → Written n f d s → at s n ≡ at d n
ahead {n} {f} {d} w = ap (λ v. at v n) w.is ∙ at_tail n f d n (pos 0) (omega arith)

pub loop-j-init : goal.loop-j-init
loop-j-init c = (omega arith, written_none)

pub overflow_sub-sums : goal.overflow_sub-sums
overflow_sub-sums c =
    let j = c.loop-j.j in
    let x = at c.args.row.now j in
    let v = at c.loop-j.sums j in
    rw (read w64 v c.sums-in-loop-j-1.given, wide x c.sums-1.given)
    (small_fits w64 _ (omega (arith, nat_abs-sub v x, ap nat_abs (ahead c.loop-j.invariant.1), c.requires.1 j (omega arith), nat_abs-≤ x, c.sums-1.given)))

pub loop-j-preserved : goal.loop-j-preserved
loop-j-preserved c =
    let x = at c.args.row.now c.loop-j.j in
    let v = at c.loop-j.sums c.loop-j.j in (
      omega arith,
      written_more c.loop-j.invariant.1 (omega arith)
          (to_z-of_z (overflow_sub-sums c) ∙ ap₂ ◌-ℤ◌ (read w64 v c.sums-in-loop-j-1.given ∙ ahead c.loop-j.invariant.1) (wide x c.sums-1.given)),
    )
