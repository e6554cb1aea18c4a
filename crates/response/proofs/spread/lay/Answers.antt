-- `response::spread::lay` meets its contract: after j turns the first j numbers of both halves are laid out, whatever they are. Assumes nothing.
use mathlib.Core.Path.{◌≡◌, refl, ap, ◌∙◌}
use Prim.Native.Nat.{◌/◌}
use native.Mathlib.Omega.{arith}
use lib.ListN.{length, length-set}
use mir.Syntax.{w64}
use Rattle.sums.proofs.Bound.{read}
use Rattle.register.specs.Register.{P}
use Rattle.response.proofs.Laying.{walked_none, walked_more, walked_all}
use Rattle.response.proofs.Strands.{odd, windows-none, windows_lt, windows_more}
use Rattle.response.proofs.spread.lay.Goals as goal

pub loop-j-init : goal.loop-j-init
loop-j-init g c = (windows-none c.period-first.ensures c.window_at-second.ensures, refl, λ y h. walked_none c.period-first.ensures c.window_at-second.ensures)

pub lay_two-requires : goal.lay_two-requires
lay_two-requires g c = omega (arith, windows_lt c.loop-j.invariant.0, c.loop-j.invariant.1, c.requires.room)

pub step-first-requires : goal.step-first-requires
step-first-requires g c = (windows_lt c.loop-j.invariant.0).0

pub step-second-requires : goal.step-second-requires
step-second-requires g c = (windows_lt c.loop-j.invariant.0).1

pub loop-j-preserved : goal.loop-j-preserved
loop-j-preserved g c =
    let a = c.args in
    let half : c.period-first.result / 2 ≡ P a.register.order / 2 = ap (λ n. n / 2) c.period-first.ensures in
    let w = c.loop-j.invariant in (
      windows_more w.0 c.loop-j-test.true c.step-first.ensures c.step-second.ensures,
      ap length c.lay_two.ensures ∙ length-set _ _ _ ∙ length-set _ _ _ ∙ w.1,
      λ y h. walked_more a.register.accepted half c.requires.room (w.2 y h) c.loop-j-test.true
          (read w64 _ c.number.type_inv ∙ h _ _ (omega (arith, odd a.register.accepted.shaped.tapped refl)) c.number.ensures)
          (read w64 _ c.number-in-loop-j.type_inv ∙ h _ _ (omega (arith, odd a.register.accepted.shaped.tapped refl)) c.number-in-loop-j.ensures)
          c.lay_two.ensures c.step-first.ensures c.step-second.ensures,
    )

pub number-requires-2 : goal.number-requires-2
number-requires-2 g c = c.requires.by_index _ (omega (arith, odd c.args.register.accepted.shaped.tapped refl, c.period-first.ensures))

pub lay_two-requires-2 : goal.lay_two-requires-2
lay_two-requires-2 g c = omega (arith, windows_lt c.loop-j.invariant.0, c.loop-j.invariant.1, c.requires.room)

pub returns : goal.returns
returns g c = λ y h. walked_all c.args.register.accepted (ap (λ n. n / 2) c.period-first.ensures) c.requires.room (c.loop-j.invariant.2 y h) (omega arith)
    (read w64 _ c.number-2.type_inv ∙ h _ _ (omega (arith, odd c.args.register.accepted.shaped.tapped refl)) c.number-2.ensures) c.lay_two-2.ensures
