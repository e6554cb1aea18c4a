-- `prediction::windows::write_samples` meets its contract: after j turns the first j samples of both halves are written. Assumes nothing.
use mathlib.Core.Path.{◌≡◌, refl, ap, ◌∙◌}
use mathlib.Core.Bool.{false}
use Prim.Native.Nat.{ℕ, ◌+◌, ◌/◌, ◌<◌}
use native.Mathlib.Omega.{arith}
use lib.ListN.{length}
use mir.Syntax.{w32}
use Rattle.sums.specs.Lists.{at}
use Rattle.sums.proofs.Bound.{read}
use Rattle.sums.proofs.Placed.{placed_none, placed_more, placed_two, placed_all}
use Rattle.sums.proofs.Somewhere.{none_of}
use Rattle.register.specs.Register.{window as window_of}
use Rattle.register.proofs.Windows.{window-lt}
use Rattle.samples.specs.Samples.{sample_out}
use Rattle.response.proofs.Strands.{odd, Forth, forth_none, forth_more, forth_last, windows-none, windows_lt, windows_more}
use Rattle.prediction.proofs.windows.write_samples.Goals as goal
use Rattle.prediction.proofs.windows.write_samples.Goals.{Start}

-- the period is twice its half, and one
whole : (c : Start) → c.args.period ≡ c.args.period / 2 + c.args.period / 2 + 1
whole c = odd c.args.register.accepted.shaped.tapped c.requires.period_in_bounds.0

-- the sample at a window may be read, and is one of those that the range was shown of
fair : (c : Start) (j : ℕ) {w : ℕ} → w ≡ window_of c.args.register.order c.args.register.taps j → j < c.args.period
    → (w < length c.args.t.now) × (sample_out (at c.args.t.now w) ≡ false)
fair c j e l =
    let a = c.args in (
      omega (arith, e, window-lt a.register.order a.register.taps j, c.requires.period_in_bounds.0, c.requires.period_in_bounds.1),
      ap (λ w. sample_out (at a.t.now w)) e ∙ none_of (λ i. sample_out (at a.t.now (window_of a.register.order a.register.taps i))) a.period c.requires.j_value j l,
    )

pub loop-j-init : goal.loop-j-init
loop-j-init c = (windows-none c.period-first.ensures c.window_at-second.ensures, placed_none (λ i d _. forth_none i d))

pub sample_at-requires : goal.sample_at-requires
sample_at-requires c = fair (goal.at.sample_at-requires c).Start c.loop-j.j c.loop-j.invariant.0.near (omega arith)

pub sample_at-requires-in-loop-j : goal.sample_at-requires-in-loop-j
sample_at-requires-in-loop-j c = fair (goal.at.sample_at-requires-in-loop-j c).Start (c.args.period / 2 + c.loop-j.j) c.loop-j.invariant.0.far (omega arith)

pub loop-j-preserved : goal.loop-j-preserved
loop-j-preserved c =
    let t = c.args.t.now in
    let half = c.args.period / 2 in
    let j = c.loop-j.j in
    let w = c.loop-j.invariant.0 in (
      windows_more w (omega arith) c.step-first.ensures c.step-second.ensures,
      placed_two (λ i k _ _ e. e) (Forth half (j + 1)) j (half + j) c.loop-j.invariant.1 (omega arith) (omega (arith, c.requires.period_in_bounds.2)) (refl, refl)
          (read w32 _ c.sample_at.type_inv ∙ c.sample_at.ensures ∙ ap (at t) w.near, read w32 _ c.sample_at-in-loop-j.type_inv ∙ c.sample_at-in-loop-j.ensures ∙ ap (at t) w.far)
          (λ i d _. forth_more i d),
    )

pub sample_at-requires-2 : goal.sample_at-requires-2
sample_at-requires-2 c = fair (goal.at.sample_at-requires-2 c).Start (c.args.period / 2 + c.loop-j.j) c.loop-j.invariant.0.far (omega (arith, whole (goal.at.sample_at-requires-2 c).Start, c.loop-j.invariant.0.to))

pub bounds-out-half-2 : goal.bounds-out-half-2
bounds-out-half-2 c = omega (arith, c.loop-j.invariant.1.long, c.requires.period_in_bounds.2, whole (goal.at.bounds-out-half-2 c).Start)

pub returns : goal.returns
returns c =
    let half = c.args.period / 2 in
    let w = c.loop-j.invariant.0 in
    let e : c.loop-j.j ≡ half = omega (arith, w.to) in
    let n = whole (goal.at.returns c).Start in
    placed_all
    (placed_more (λ i k _ _ e. e) (λ i. i < c.args.period) (half + half) (rw e at c.loop-j.invariant.1) (omega arith) (omega (arith, c.requires.period_in_bounds.2)) refl
    (read w32 _ c.sample_at-2.type_inv ∙ c.sample_at-2.ensures ∙ ap (at c.args.t.now) (rw e at w.far)) (λ i d _ o. forth_last i (omega arith) o))
    c.requires.period_in_bounds.2 (λ i d. d)

pub step-first-requires : goal.step-first-requires
step-first-requires c = ((windows_lt c.loop-j.invariant.0).0)

pub step-second-requires : goal.step-second-requires
step-second-requires c = ((windows_lt c.loop-j.invariant.0).1)
