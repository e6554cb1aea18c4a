-- `prediction::windows::some_sample_out` meets its contract: none of the samples passed in both halves is out of the range. Assumes nothing.
use mathlib.Core.Path.{◌≡◌, sym, ap, ◌∙◌}
use mathlib.Core.Bool.{Bool, true, false}
use Prim.Native.Nat.{ℕ, ◌+◌, ◌/◌, ◌<◌}
use native.Mathlib.Omega.{arith}
use lib.ListN.{length}
use Rattle.sums.specs.Lists.{at, some}
use Rattle.sums.proofs.Somewhere.{some_at, some-none}
use Rattle.register.specs.Register.{window as window_of}
use Rattle.samples.specs.Samples.{sample_out}
use Rattle.response.proofs.Strands.{odd, Forth, forth_none, forth_turn, forth_all, windows-none, windows_lt, windows_more}
use Rattle.prediction.proofs.windows.some_sample_out.Goals as goal
use Rattle.prediction.proofs.windows.some_sample_out.Goals.{After-sample_out_at, After-sample_out_at-in-loop-j, At-loop-j, Start}

-- what is tested at place i
abbrev tests : Start → ℕ → Bool
tests c i = sample_out (at c.args.t.now (window_of c.args.register.order c.args.register.taps i))

-- the period is twice its half, and one
whole : (c : Start) → c.args.period ≡ c.args.period / 2 + c.args.period / 2 + 1
whole c = odd c.args.register.accepted.shaped.tapped c.requires.0

-- the windows are places of t
inside : (c : At-loop-j) → let t = c.args.t.now in (c.loop-j.first < length t) × (c.loop-j.second < length t)
inside c = omega (arith, windows_lt c.loop-j.invariant.0, c.requires.0, c.requires.1)

-- what a test says of its place
near : (c : After-sample_out_at) → c.sample_out_at.result ≡ tests c.before.before.before.before.before c.loop-j._j
near c = c.sample_out_at.ensures ∙ ap (λ w. sample_out (at c.args.t.now w)) c.loop-j.invariant.0.near

far : (c : After-sample_out_at-in-loop-j) → c.sample_out_at-in-loop-j.result ≡ tests c.before.before.before.before.before.before.before (c.args.period / 2 + c.loop-j._j)
far c = c.sample_out_at-in-loop-j.ensures ∙ ap (λ w. sample_out (at c.args.t.now w)) c.loop-j.invariant.0.far

-- the last sample decides
decides : (test : ℕ → Bool) (n h : ℕ) → n ≡ h + h + 1 → ((i : ℕ) → Forth h h i → test i ≡ false) → (r : Bool) → r ≡ test (h + h) → r ≡ some n test
decides test n h e none true t = sym (some_at test n (h + h) (omega arith) (sym t))
decides test n h e none false t = sym (some-none test n (λ i l. forth_all {Q = λ k. test k ≡ false} none (sym t) i (omega arith)))

pub loop-j-init : goal.loop-j-init
loop-j-init c = (windows-none c.period-first.ensures c.window_at-second.ensures, λ i d. absurd (forth_none i d))

pub sample_out_at-requires : goal.sample_out_at-requires
sample_out_at-requires c = (inside (goal.at.sample_out_at-requires c).At-loop-j).0

pub returns-then-sample_out_at : goal.returns-then-sample_out_at
returns-then-sample_out_at c =
    sym (some_at (tests (goal.at.returns-then-sample_out_at c).Start) c.args.period c.loop-j._j (omega (arith, whole (goal.at.returns-then-sample_out_at c).Start)) (sym (near (goal.at.returns-then-sample_out_at c).After-sample_out_at) ∙ c.if-sample_out_at.true))

pub sample_out_at-requires-in-loop-j : goal.sample_out_at-requires-in-loop-j
sample_out_at-requires-in-loop-j c = (inside (goal.at.sample_out_at-requires-in-loop-j c).At-loop-j).1

pub returns-then-sample_out_at-2 : goal.returns-then-sample_out_at-2
returns-then-sample_out_at-2 c =
    sym (some_at (tests (goal.at.returns-then-sample_out_at-2 c).Start) c.args.period (c.args.period / 2 + c.loop-j._j) (omega (arith, whole (goal.at.returns-then-sample_out_at-2 c).Start)) (sym (far (goal.at.returns-then-sample_out_at-2 c).After-sample_out_at-in-loop-j) ∙ c.if-sample_out_at-2.true))

pub loop-j-preserved : goal.loop-j-preserved
loop-j-preserved c = (
  windows_more c.loop-j.invariant.0 (omega arith) c.step-first.ensures c.step-second.ensures,
  forth_turn c.loop-j.invariant.1 (sym (near (goal.at.loop-j-preserved c).After-sample_out_at) ∙ c.if-sample_out_at.false) (sym (far (goal.at.loop-j-preserved c).After-sample_out_at-in-loop-j) ∙ c.if-sample_out_at-2.false),
)

pub sample_out_at-requires-2 : goal.sample_out_at-requires-2
sample_out_at-requires-2 c = (inside (goal.at.sample_out_at-requires-2 c).At-loop-j).1

pub returns : goal.returns
returns c =
    let half = c.args.period / 2 in
    let w = c.loop-j.invariant.0 in
    let e : c.loop-j._j ≡ half = omega (arith, w.to) in
    decides (tests (goal.at.returns c).Start) c.args.period half (whole (goal.at.returns c).Start) (rw e at c.loop-j.invariant.1) _
    (c.sample_out_at-2.ensures ∙ ap (λ x. sample_out (at c.args.t.now x)) (rw e at w.far))

pub step-first-requires : goal.step-first-requires
step-first-requires c = ((windows_lt c.loop-j.invariant.0).0)

pub step-second-requires : goal.step-second-requires
step-second-requires c = ((windows_lt c.loop-j.invariant.0).1)
