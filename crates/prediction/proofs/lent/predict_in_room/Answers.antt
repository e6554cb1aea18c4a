-- `prediction::lent::predict_in_room` meets its contract: what is handed in decides 1 to 5, the lengths lent and the range 6 and 7, and the
-- prediction the eighth. Assumes nothing.
use mathlib.Core.Path.{◌≡◌, refl, sym, ap, ◌∙◌}
use mathlib.Core.Bool.{Bool, false}
use mathlib.Core.List.{List}
use Prim.Native.Nat.{ℕ, ◌+◌}
use lib.IntN.{ℤ}
use lib.ListN.{length}
use Rattle.sums.proofs.First.{not_first, answers_first}
use Rattle.refusals.specs.Causes.{number}
use Rattle.refusals.specs.declared.Answer.{Answer}
use Rattle.refusals.proofs.Causes.{never_0, exits}
use Rattle.register.specs.Register.{P}
use Rattle.register.proofs.HowShort.{period-told}
use Rattle.register.proofs.Answered.{silent}
use Rattle.samples.specs.Samples.{cleared_wide, lent_short}
use Rattle.prediction.specs.Calls.{foretold, eighth, roomed_outcome}
use Rattle.samples.proofs.Checks.{refused, six, seven, left}
use Rattle.response.specs.Calls.{given_checks}
use Rattle.response.proofs.Checks.{Given, given}
use Rattle.prediction.proofs.lent.predict_in_room.Goals as goal
use Rattle.prediction.proofs.lent.predict_in_room.Goals.{In_ok-period, After-lent_short, Else-lent_short, Start}

-- what is handed back on a refusal, what is made, and the test of the output
abbrev kept : Start → ℕ → ℕ × List ℤ × List ℤ
kept c n = (n, c.args.out.now, c.args.room.now)

abbrev made : Start → ℕ × List ℤ × List ℤ
made c = let a = c.args in (0, foretold a.order a.taps a.h.now a.out.now, cleared_wide (P a.order + 1) a.room.now)

abbrev short : Start → Bool
short c = lent_short (P c.args.order) (length c.args.out.now) (length c.args.room.now)

abbrev more : Start → List (ℕ × Bool)
more c = let a = c.args in eighth a.order a.taps a.h.now

passed : (c : In_ok-period) → Given c.args.order c.args.taps c.args.h.now c.in_ok-period.period
passed c = given c.args.order c.args.taps c.args.h.now c.in_ok-period.ensures

-- what the test of the lengths says
tested : (c : After-lent_short) → c.lent_short.result ≡ lent_short (P c.args.order) (length c.args.out.now) (length c.args.room.now)
tested c = rw (passed c.before).long at c.lent_short.ensures

long : (c : Else-lent_short) → lent_short (P c.args.order) (length c.args.out.now) (length c.args.room.now) ≡ false
long c = sym (tested c.before) ∙ c.if-lent_short.false

pub returns-in_err-period : goal.returns-in_err-period
unfolding roomed_outcome
returns-in_err-period c =
    let a = c.args in
    let d = c.in_err-period.field-0.0 in
    let s = (goal.at.returns-in_err-period c).Start in
    rw (exits c.from_residual.result d c.from_residual.ensures.1) (
      sym (refused (kept s) (made s) (given_checks a.order a.taps a.h.now) a.h.now (short s) (more s) (ap (λ (x : Answer). x.number) c.in_err-period.ensures) (never_0 d)),
      period-told a.order a.taps c.in_err-period.ensures,
    )

pub returns-then-lent_short : goal.returns-then-lent_short
unfolding roomed_outcome
returns-then-lent_short c =
    let a = c.args in
    let at = goal.at.returns-then-lent_short c in
    let s = at.Start in
    (sym (six (kept s) (made s) (given_checks a.order a.taps a.h.now) a.h.now (short s) (more s) (sym (passed at.In_ok-period).none) tt refl (sym (tested at.After-lent_short) ∙ c.if-lent_short.true)), refl)

pub returns-then-some_out : goal.returns-then-some_out
unfolding roomed_outcome
returns-then-some_out c =
    let a = c.args in
    let at = goal.at.returns-then-some_out c in
    let s = at.Start in (
      sym (seven (kept s) (made s) (given_checks a.order a.taps a.h.now) a.h.now (short s) (more s) (sym (passed at.In_ok-period).none) tt refl (long at.Else-lent_short)
          (sym c.some_out.ensures ∙ c.if-some_out.true)),
      refl,
    )

pub returns-in_err-predict_lent : goal.returns-in_err-predict_lent
unfolding roomed_outcome
returns-in_err-predict_lent c =
    let a = c.args in
    let d = c.in_err-predict_lent.field-0.0 in
    let at = goal.at.returns-in_err-predict_lent c in
    let s = at.Start in
    let e = rw (c.new.ensures.order, c.new.ensures.taps) at c.in_err-predict_lent.ensures in
    let n : number d ≡ _ = ap (λ (o : ℕ × List ℤ × List ℤ). o.0) e ∙ answers_first (more s) (λ (o : ℕ × List ℤ × List ℤ). o.0) (kept s) (made s) (λ n. refl) refl in
    rw (exits c.from_residual-in_err-predict_lent.result d c.from_residual-in_err-predict_lent.ensures.1) (
      e ∙ sym (left (kept s) (made s) (given_checks a.order a.taps a.h.now) a.h.now (short s) (more s) (sym (passed at.In_ok-period).none) tt refl (long at.Else-lent_short) (sym c.some_out.ensures ∙ c.if-some_out.false)),
      silent a.order a.taps d (λ z. not_first 4 (more s) tt (sym n ∙ z)),
    )

pub new-requires : goal.new-requires
new-requires c = (passed (goal.at.new-requires c).In_ok-period).accepted

pub returns : goal.returns
unfolding roomed_outcome
returns c =
    let a = c.args in
    let at = goal.at.returns c in
    let s = at.Start in
    let p = passed at.In_ok-period in (
      rw (c.new.ensures.order, c.new.ensures.taps) at c.in_ok-predict_lent.ensures
          ∙ sym (left (kept s) (made s) (given_checks a.order a.taps a.h.now) a.h.now (short s) (more s) (sym p.none) tt refl (long at.Else-lent_short) (sym c.some_out.ensures ∙ c.if-some_out.false)),
      p.whole,
    )
