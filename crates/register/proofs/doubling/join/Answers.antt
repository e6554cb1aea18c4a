-- `register::doubling::join` meets its contract: after i turns the first i bits have been added. Assumes nothing.
use mathlib.Core.Path.{refl, sym, ap, ap₂, ◌∙◌}
use Prim.Native.Nat.{◌*◌, ◌/◌, ◌%◌, ◌^◌, ◌<◌}
use native.Mathlib.Numerals.{add-one}
use lib.Bits.{bit_xor}
use Rattle.register.specs.Register.{tag-step}
use Rattle.register.specs.Doubling.{moved, joined}
use Rattle.register.proofs.Divisors.{moved-lt}
use Rattle.register.proofs.doubling.join.Goals as goal
use Rattle.register.proofs.doubling.join.Goals.{In-loop-i}

tag-lt : (c : In-loop-i) → c.loop-i.tag < 2 ^ c.args.order
tag-lt c = rw c.loop-i.invariant.1 (moved-lt c.args.order c.args.taps c.requires.1 c.loop-i.i c.args.m c.requires.2)

pub loop-i-init : goal.loop-i-init
unfolding joined moved
loop-i-init c = (refl, refl)

pub loop-i-preserved : goal.loop-i-preserved
unfolding joined moved
loop-i-preserved c =
    let a = c.args in
    let l = c.loop-i in (
      ap₂ bit_xor l.invariant.0 (ap (λ y. a.l / 2 ^ l.i % 2 * y) l.invariant.1) ∙ ap (joined a.order a.taps a.l a.m) (sym (add-one l.i)),
      c.tag_step-tag.ensures ∙ ap (tag-step a.order a.taps) l.invariant.1 ∙ ap (λ n. moved a.order a.taps n a.m) (sym (add-one l.i)),
    )

pub tag_step-tag-requires-clause-tag_bound : goal.tag_step-tag-requires-clause-tag_bound
tag_step-tag-requires-clause-tag_bound c = (tag-lt c)
