-- `prediction::direct::some_predicted_out` meets its contract: none of the samples passed is out of the range. Assumes nothing.
use borrow.Author.Count.{below_more}
use mathlib.Core.Path.{◌≡◌, sym, ◌∙◌}
use mathlib.Core.Bool.{Bool}
use Prim.Native.Nat.{ℕ}
use native.Mathlib.Omega.{arith}
use Rattle.sums.proofs.Somewhere.{some_at, some-none}
use Rattle.register.specs.Register.{P, window}
use Rattle.register.proofs.Windows.{window-lt, window-next}
use Rattle.samples.specs.Samples.{sample_out}
use Rattle.prediction.specs.Calls.{predicted}
use Rattle.prediction.proofs.direct.some_predicted_out.Goals as goal
use Rattle.prediction.proofs.direct.some_predicted_out.Goals.{After-predicted_out, Start}

-- what is tested at place i
abbrev tests : Start → ℕ → Bool
tests c i = sample_out (predicted c.args.register.order c.args.register.taps c.args.h.now i)

-- what a test says of its place
tested : (c : After-predicted_out) → c.predicted_out.result ≡ tests c.before.before.before.before c.loop-j._j
tested c = c.predicted_out.ensures c.loop-j._j c.loop-j.invariant.1

pub loop-j-init : goal.loop-j-init
unfolding window
loop-j-init c = (omega arith, c.period-w.ensures, λ i l. absurd (omega arith))

pub returns-then-predicted_out : goal.returns-then-predicted_out
returns-then-predicted_out c =
    sym (some_at (tests (goal.at.returns-then-predicted_out c).Start) (P c.args.register.order) c.loop-j._j (omega (arith, c.requires.h_len)) (sym (tested (goal.at.returns-then-predicted_out c).After-predicted_out) ∙ c.if-predicted_out.true))

pub loop-j-preserved : goal.loop-j-preserved
loop-j-preserved c = (
  omega arith,
  window-next c.args.register.order c.args.register.taps c.loop-j._j c.loop-j.invariant.1 c.step-w.ensures,
  below_more _ _ c.loop-j.invariant.2 (sym (tested (goal.at.loop-j-preserved c).After-predicted_out) ∙ c.if-predicted_out.false),
)

pub returns : goal.returns
returns c =
    sym (some-none (tests (goal.at.returns c).Start) (P c.args.register.order) (λ i h. c.loop-j.invariant.2 i (omega (arith, c.requires.h_len))))

pub predicted_out-requires-clause-h_len : goal.predicted_out-requires-clause-h_len
predicted_out-requires-clause-h_len c =
    (c.requires.h_len, rw c.loop-j.invariant.1 (window-lt c.args.register.order c.args.register.taps c.loop-j._j))

pub step-w-requires : goal.step-w-requires
step-w-requires c =
    (rw c.loop-j.invariant.1 (window-lt c.args.register.order c.args.register.taps c.loop-j._j))
