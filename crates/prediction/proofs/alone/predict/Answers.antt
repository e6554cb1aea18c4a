-- `prediction::alone::predict` meets its contract: what is handed in decides 1 to 5, the output's length and the range 6 and 7, and the
-- prediction the eighth. Assumes nothing.
use borrow.Author.Tests.{lt-ltb, le-ltb}
use mathlib.Core.Path.{◌≡◌, refl, sym, ap, ◌∙◌}
use mathlib.Core.Bool.{Bool, false}
use mathlib.Core.List.{List}
use Prim.Native.Nat.{ℕ}
use native.Mathlib.Omega.{arith}
use lib.Dec.{ltb}
use lib.IntN.{ℤ}
use lib.ListN.{length}
use Rattle.sums.proofs.First.{not_first, answers_first}
use Rattle.refusals.specs.Causes.{number}
use Rattle.refusals.specs.declared.Answer.{Answer}
use Rattle.refusals.proofs.Causes.{never_0, exits}
use Rattle.register.specs.Register.{P}
use Rattle.register.proofs.HowShort.{period-told}
use Rattle.register.proofs.Answered.{silent}
use Rattle.prediction.specs.Calls.{foretold, eighth, prediction_outcome}
use Rattle.samples.proofs.Checks.{refused, six, seven, left}
use Rattle.response.specs.Calls.{given_checks}
use Rattle.response.proofs.Checks.{Given, given}
use Rattle.prediction.proofs.alone.predict.Goals as goal
use Rattle.prediction.proofs.alone.predict.Goals.{In_ok-period, Else-out-h, Start}

-- what is handed back on a refusal, what is made, and the test of the output
abbrev kept : Start → ℕ → ℕ × List ℤ
kept c n = (n, c.args.out.now)

abbrev made : Start → ℕ × List ℤ
made c = let a = c.args in (0, foretold a.order a.taps a.h.now a.out.now)

abbrev short : Start → Bool
short c = ltb (length c.args.out.now) (P c.args.order)

abbrev more : Start → List (ℕ × Bool)
more c = let a = c.args in eighth a.order a.taps a.h.now

passed : (c : In_ok-period) → Given c.args.order c.args.taps c.args.h.now c.in_ok-period.period
passed c = given c.args.order c.args.taps c.args.h.now c.in_ok-period.ensures

-- the output is long enough
long : (c : Else-out-h) → ltb (length c.args.out.now) (P c.args.order) ≡ false
long c = le-ltb (length c.args.out.now) (P c.args.order) (omega (arith, c.if-out-h.false, (passed c.before).long))

pub returns-in_err-period : goal.returns-in_err-period
unfolding prediction_outcome
returns-in_err-period c =
    let a = c.args in
    let d = c.in_err-period.field-0.0 in
    let s = (goal.at.returns-in_err-period c).Start in
    rw (exits c.from_residual.result d c.from_residual.ensures.1) (
      sym (refused (kept s) (made s) (given_checks a.order a.taps a.h.now) a.h.now (short s) (more s) (ap (λ (x : Answer). x.number) c.in_err-period.ensures) (never_0 d)),
      period-told a.order a.taps c.in_err-period.ensures,
    )

pub returns-then-out-h : goal.returns-then-out-h
unfolding prediction_outcome
returns-then-out-h c =
    let a = c.args in
    let s = (goal.at.returns-then-out-h c).Start in
    let p = passed (goal.at.returns-then-out-h c).In_ok-period in
    (sym (six (kept s) (made s) (given_checks a.order a.taps a.h.now) a.h.now (short s) (more s) (sym p.none) tt refl (lt-ltb (length a.out.now) (P a.order) (omega (arith, c.if-out-h.true, p.long)))), refl)

pub returns-then-some_out : goal.returns-then-some_out
unfolding prediction_outcome
returns-then-some_out c =
    let a = c.args in
    let s = (goal.at.returns-then-some_out c).Start in
    let p = passed (goal.at.returns-then-some_out c).In_ok-period in (
      sym (seven (kept s) (made s) (given_checks a.order a.taps a.h.now) a.h.now (short s) (more s) (sym p.none) tt refl (long (goal.at.returns-then-some_out c).Else-out-h)
          (sym c.some_out.ensures ∙ c.if-some_out.true)),
      refl,
    )

pub returns-in_err-predict_alone : goal.returns-in_err-predict_alone
unfolding prediction_outcome
returns-in_err-predict_alone c =
    let a = c.args in
    let d = c.in_err-predict_alone.field-0.0 in
    let at = goal.at.returns-in_err-predict_alone c in
    let s = at.Start in
    let p = passed at.In_ok-period in
    let e = rw (c.new.ensures.order, c.new.ensures.taps) at c.in_err-predict_alone.ensures in
    let n : number d ≡ _ = ap (λ (o : ℕ × List ℤ). o.0) e ∙ answers_first (more s) (λ (o : ℕ × List ℤ). o.0) (kept s) (made s) (λ n. refl) refl in
    rw (exits c.from_residual-in_err-predict_alone.result d c.from_residual-in_err-predict_alone.ensures.1) (
      e ∙ sym (left (kept s) (made s) (given_checks a.order a.taps a.h.now) a.h.now (short s) (more s) (sym p.none) tt refl (long at.Else-out-h) (sym c.some_out.ensures ∙ c.if-some_out.false)),
      silent a.order a.taps d (λ z. not_first 4 (more s) tt (sym n ∙ z)),
    )

pub new-requires : goal.new-requires
new-requires c = (passed (goal.at.new-requires c).In_ok-period).accepted

pub returns : goal.returns
unfolding prediction_outcome
returns c =
    let a = c.args in
    let s = (goal.at.returns c).Start in
    let p = passed (goal.at.returns c).In_ok-period in (
      rw (c.new.ensures.order, c.new.ensures.taps) at c.in_ok-predict_alone.ensures
          ∙ sym (left (kept s) (made s) (given_checks a.order a.taps a.h.now) a.h.now (short s) (more s) (sym p.none) tt refl (long (goal.at.returns c).Else-out-h) (sym c.some_out.ensures ∙ c.if-some_out.false)),
      p.whole,
    )
