-- `records::Campaign::one_slot` meets its contract: every day passed does not stand or has one slot. Assumes nothing.
use mathlib.Core.Path.{◌≡◌, refl, sym, ap, ◌∙◌}
use Prim.Native.Nat.{◌+◌, ◌-◌}
use native.Mathlib.Omega.{arith}
use Rattle.sums.specs.Lists.{every}
use Rattle.sums.proofs.Everywhere.{every_more, every_fails}
use Rattle.records.proofs.Campaign.one_slot.Invariants.{once}
use Rattle.records.proofs.Campaign.one_slot.Goals as goal

pub loop-d-init : goal.loop-d-init
unfolding every
loop-d-init c = refl

pub returns-then-not-idle_or_once : goal.returns-then-not-idle_or_once
returns-then-not-idle_or_once c =
    let self = c.args.self.now in
    let d = c.loop-d.d in
    let back : d - 1 + 1 ≡ d = omega arith in
    sym (every_fails (λ i. once self (i + 1)) 366 (d - 1) (omega arith) (ap (once self) back ∙ sym c.idle_or_once.ensures ∙ c.if-not-idle_or_once.true))

pub loop-d-preserved : goal.loop-d-preserved
loop-d-preserved c =
    let self = c.args.self.now in
    let d = c.loop-d.d in
    let back : d - 1 + 1 ≡ d = omega arith in
    let next : d + 1 - 1 ≡ d - 1 + 1 = omega arith in
    rw next (every_more (λ i. once self (i + 1)) (d - 1) c.loop-d.invariant (ap (once self) back ∙ sym c.idle_or_once.ensures ∙ c.if-not-idle_or_once.false))
