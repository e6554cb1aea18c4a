-- `response::spread::spread_back` meets its contract: the values above i of both halves are laid out, and the tags are those of the delays gone
-- through. Assumes nothing.
use mathlib.Core.Path.{◌≡◌, sym, ◌∙◌}
use Prim.Native.Nat.{ℕ, ◌+◌, ◌-◌, ◌/◌, ◌^◌, ◌<◌}
use native.Mathlib.Omega.{arith}
use lib.ListN.{length}
use mir.Syntax.{w64}
use Rattle.sums.proofs.Bound.{read}
use Rattle.sums.proofs.Perm.{Visits}
use Rattle.sums.proofs.Placed.{placed_none, placed_more, placed_two}
use Rattle.register.specs.Register.{P, tag as tag_of, Accepted}
use Rattle.register.proofs.Windows.{tag-lt}
use Rattle.register.proofs.Correlation.{tags_visit}
use Rattle.register.proofs.Judged.{generator}
use Rattle.response.proofs.Laying.{laid}
use Rattle.response.proofs.Strands.{odd, Back, back_none, back_more, back_last, Tags, tags_none, tags_lt, tags_more, tags_last, tags_read}
use Rattle.response.proofs.spread.spread_back.Goals as goal
use Rattle.response.proofs.spread.spread_back.Goals.{After-tag_step, After-tag_step-second, Start}

walk : {N taps : ℕ} → Accepted N taps → Visits (P N) (λ j. tag_of N taps (P N - j))
walk {N} {taps} a = tags_visit N taps (generator a)

-- the period is twice its half, and one
whole : (c : Start) → P c.args.register.order ≡ length c.args.h.now / 2 + length c.args.h.now / 2 + 1
whole c = sym c.requires.0 ∙ odd c.args.register.accepted.shaped.tapped c.requires.0

-- both tags, one step on
stepped : (c : After-tag_step-second) → let a = c.args in
    Tags a.register.order a.register.taps (length a.h.now / 2) (c.loop-i.i - 1) c.tag_step-first.result c.tag_step-second.result
stepped c =
    tags_more c.args.register.accepted.shaped.tapped c.loop-i.invariant.0 (omega arith) c.tag_step-first.ensures c.tag_step-second.ensures

-- the tag of the whole period
last : (c : After-tag_step) → let a = c.args in
    c.tag_step.result ≡ tag_of a.register.order a.register.taps (P a.register.order - 0)
last c =
    tags_last c.args.register.accepted.shaped.tapped c.loop-i.invariant.0 (whole c.before.before.before.before.before) (omega arith) c.tag_step.ensures

inside : (c : After-tag_step) → c.tag_step.result < 2 ^ c.args.register.order
inside c =
    rw (last c) (tag-lt c.args.register.order c.args.register.taps c.args.register.accepted.shaped.tapped (P c.args.register.order - 0))

pub loop-i-init : goal.loop-i-init
loop-i-init c = (tags_none c.tag_at-second.ensures, placed_none (λ j b l. back_none j b (omega (arith, whole (goal.at.loop-i-init c).Start))))

pub widened-requires : goal.widened-requires
widened-requires c = omega (arith, c.loop-i.invariant.0.to, c.requires.0, whole (goal.at.widened-requires c).Start)

pub lay_two-requires : goal.lay_two-requires
lay_two-requires c =
    omega (arith, tags_lt c.args.register.accepted.shaped.tapped (stepped (goal.at.lay_two-requires c).After-tag_step-second), c.loop-i.invariant.1.long, c.requires.1)

pub loop-i-preserved : goal.loop-i-preserved
loop-i-preserved c =
    let half = length c.args.h.now / 2 in
    let i = c.loop-i.i in
    let n = whole (goal.at.loop-i-preserved c).Start in
    let to = c.loop-i.invariant.0.to in (
      stepped (goal.at.loop-i-preserved c).After-tag_step-second,
      rw c.lay_two.ensures
          (placed_two (walk c.args.register.accepted).apart (Back half (i - 1)) (half + i) i c.loop-i.invariant.1 (omega arith)
          (omega (arith, tags_lt c.args.register.accepted.shaped.tapped (stepped (goal.at.loop-i-preserved c).After-tag_step-second), c.requires.1)) (tags_read n (omega arith) (stepped (goal.at.loop-i-preserved c).After-tag_step-second))
          (read w64 _ c.widened.type_inv ∙ c.widened.ensures, read w64 _ c.widened-in-loop-i.type_inv ∙ c.widened-in-loop-i.ensures)
          (λ j d _. back_more j d)),
    )

pub lay_two-requires-2 : goal.lay_two-requires-2
lay_two-requires-2 c =
    omega (arith, inside (goal.at.lay_two-requires-2 c).After-tag_step, c.loop-i.invariant.1.long, c.requires.1)

pub returns : goal.returns
returns c =
    let e : c.loop-i.i ≡ 0 = omega arith in
    let n = whole (goal.at.returns c).Start in
    rw c.lay_two-2.ensures
    (laid (walk c.args.register.accepted) c.requires.1
    (placed_more (walk c.args.register.accepted).apart (λ j. j < P c.args.register.order) 0 (rw e at c.loop-i.invariant.1) (omega arith) (omega (arith, inside (goal.at.returns c).After-tag_step, c.requires.1)) (last (goal.at.returns c).After-tag_step)
    (read w64 _ c.widened-2.type_inv ∙ c.widened-2.ensures) (λ j d _ o. back_last j o))
    (λ j d. d))

pub tag_step-first-requires : goal.tag_step-first-requires
tag_step-first-requires c = let r = c.args.register.accepted.shaped in ((tags_lt r.tapped c.loop-i.invariant.0).0)

pub tag_step-second-requires : goal.tag_step-second-requires
tag_step-second-requires c = let r = c.args.register.accepted.shaped in ((tags_lt r.tapped c.loop-i.invariant.0).1)

pub tag_step-requires : goal.tag_step-requires
tag_step-requires c = let r = c.args.register.accepted.shaped in ((tags_lt r.tapped c.loop-i.invariant.0).1)
