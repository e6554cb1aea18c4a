-- `response::gather::gather` meets its contract: the places above k of both halves are written, and the tags are those of the delays gone through.
-- Assumes nothing.
use mathlib.Core.Path.{◌≡◌, refl, ap, ◌∙◌}
use Prim.Native.Nat.{ℕ, ◌+◌, ◌-◌, ◌/◌, ◌^◌, ◌<◌}
use native.Mathlib.Omega.{arith}
use lib.IntN.{nat_abs, ◌-ℤ◌}
use lib.ListN.{length}
use mir.Syntax.{w64}
use Rattle.sums.specs.Lists.{at}
use Rattle.sums.proofs.Bound.{read}
use Rattle.sums.proofs.Placed.{placed_none, placed_more, placed_two, placed_all}
use Rattle.register.specs.Register.{tag as tag_of}
use Rattle.register.proofs.Windows.{tag-lt}
use Rattle.response.proofs.Strands.{odd, Back, back_none, back_more, back_last, Tags, tags_none, tags_lt, tags_more, tags_last, tags_read}
use Rattle.response.proofs.gather.gather.Invariants.{value}
use Rattle.response.proofs.gather.gather.Goals as goal
use Rattle.response.proofs.gather.gather.Goals.{After-tag_step, After-tag_step-second, Start}

-- the period is twice its half, and one
whole : (c : Start) → c.args.period ≡ c.args.period / 2 + c.args.period / 2 + 1
whole c = odd c.args.register.accepted.shaped.tapped c.requires.period_value

-- what is at a tag may be read
fair : (c : Start) (w : ℕ) → w < 2 ^ c.args.register.order
    → (w < length c.args.t.now) × (nat_abs (at c.args.t.now w) < 2 ^ 62) × (nat_abs (at c.args.t.now 0) < 2 ^ 62)
fair c w l = (omega (arith, c.requires.period_value), c.requires.by_index w (omega (arith, c.requires.period_value)), c.requires.by_index 0 (omega arith))

-- what is read at the tag of a place is the value there
valued : (c : Start) {w : ℕ} (k : ℕ) → w ≡ tag_of c.args.register.order c.args.register.taps (c.args.period - k)
    → at c.args.t.now w -ℤ at c.args.t.now 0 ≡ value c.args.register.order c.args.register.taps c.args.t.now c.args.period k
valued c k e = ap (λ w. at c.args.t.now w -ℤ at c.args.t.now 0) e

-- both tags, one step on
stepped : (c : After-tag_step-second) → let a = c.args in
    Tags a.register.order a.register.taps (a.period / 2) (c.loop-k.k - 1) c.tag_step-first.result c.tag_step-second.result
stepped c =
    tags_more c.args.register.accepted.shaped.tapped c.loop-k.invariant.0 (omega arith) c.tag_step-first.ensures c.tag_step-second.ensures

-- the tag of the whole period
last : (c : After-tag_step) → let a = c.args in
    c.tag_step.result ≡ tag_of a.register.order a.register.taps (a.period - 0)
last c =
    tags_last c.args.register.accepted.shaped.tapped c.loop-k.invariant.0 (whole c.before.before.before.before) (omega arith) c.tag_step.ensures

pub loop-k-init : goal.loop-k-init
loop-k-init c = (tags_none c.tag_at-second.ensures, placed_none (λ i b l. back_none i b (omega (arith, whole (goal.at.loop-k-init c).Start))))

pub reading-requires : goal.reading-requires
reading-requires c = fair (goal.at.reading-requires c).Start c.tag_step-first.result (tags_lt c.args.register.accepted.shaped.tapped (stepped c)).0

pub bounds-out-half : goal.bounds-out-half
bounds-out-half c = omega (arith, whole (goal.at.bounds-out-half c).Start, c.loop-k.invariant.1.long)

pub reading-requires-in-loop-k : goal.reading-requires-in-loop-k
reading-requires-in-loop-k c = fair (goal.at.reading-requires-in-loop-k c).Start c.tag_step-second.result (tags_lt c.args.register.accepted.shaped.tapped (stepped (goal.at.reading-requires-in-loop-k c).After-tag_step-second)).1

pub loop-k-preserved : goal.loop-k-preserved
loop-k-preserved c =
    let half = c.args.period / 2 in
    let k = c.loop-k.k in
    let to = c.loop-k.invariant.0.to in
    let n = whole (goal.at.loop-k-preserved c).Start in
    let t = tags_read n (omega arith) (stepped (goal.at.loop-k-preserved c).After-tag_step-second) in (
      stepped (goal.at.loop-k-preserved c).After-tag_step-second,
      placed_two (λ i j _ _ e. e) (Back half (k - 1)) (half + k) k c.loop-k.invariant.1 (omega arith) (omega arith) (refl, refl)
          (read w64 _ c.reading.type_inv ∙ c.reading.ensures ∙ valued (goal.at.loop-k-preserved c).Start (half + k) t.0, read w64 _ c.reading-in-loop-k.type_inv ∙ c.reading-in-loop-k.ensures ∙ valued (goal.at.loop-k-preserved c).Start k t.1)
          (λ i d _. back_more i d),
    )

pub reading-requires-2 : goal.reading-requires-2
reading-requires-2 c =
    fair (goal.at.reading-requires-2 c).Start c.tag_step.result (rw (last c) (tag-lt c.args.register.order c.args.register.taps c.args.register.accepted.shaped.tapped (c.args.period - 0)))

pub returns : goal.returns
returns c =
    let e : c.loop-k.k ≡ 0 = omega arith in
    let n = whole (goal.at.returns c).Start in
    placed_all
    (placed_more (λ i j _ _ e. e) (λ i. i < c.args.period) 0 (rw e at c.loop-k.invariant.1) (omega arith) (omega arith) refl
    (read w64 _ c.reading-2.type_inv ∙ c.reading-2.ensures ∙ valued (goal.at.returns c).Start 0 (last (goal.at.returns c).After-tag_step))
    (λ i d _ o. back_last i o))
    c.requires.period_in_bounds.1 (λ i d. d)

pub tag_step-first-requires : goal.tag_step-first-requires
tag_step-first-requires c = let r = c.args.register.accepted.shaped in ((tags_lt r.tapped c.loop-k.invariant.0).0)

pub tag_step-second-requires : goal.tag_step-second-requires
tag_step-second-requires c = let r = c.args.register.accepted.shaped in ((tags_lt r.tapped c.loop-k.invariant.0).1)

pub tag_step-requires : goal.tag_step-requires
tag_step-requires c = let r = c.args.register.accepted.shaped in ((tags_lt r.tapped c.loop-k.invariant.0).1)
