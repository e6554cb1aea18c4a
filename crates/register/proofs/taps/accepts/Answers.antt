-- `register::taps::accepts` meets its contract: the checks 1, 2 and 3 are another function's, and what they leave is whether the register is maximal.
-- Assumes nothing.
use mathlib.Core.Path.{◌≡◌, refl, sym, ap, ◌∙◌}
use mathlib.Core.Bool.{Bool, true, false, cond}
use mathlib.Core.List.{[], ◌∷◌}
use borrow.Author.Tests.{ne_eqb}
use lib.Dec.{eqb}
use Prim.Native.Nat.{ℕ}
use Rattle.sums.specs.Refusals.{first}
use Rattle.sums.proofs.First.{refused_first}
use Rattle.refusals.proofs.Causes.{ok_answers, err_answers}
use Rattle.register.specs.Calls.{shape_checks, not_maximal, taps_answer}
use Rattle.register.proofs.Answered.{fourth}
use Rattle.register.proofs.Judged.{shaped}
use Rattle.register.proofs.taps.accepts.Goals as goal
use Rattle.register.proofs.taps.accepts.Goals.{Then-is_ok}

passed : (c : Then-is_ok) → first (shape_checks c.args.order c.args.taps) ≡ 0
passed c = sym c.check_shape.ensures ∙ ok_answers c.check_shape.result (sym c.is_ok.ensures.value ∙ c.if-is_ok.true)

by_zero : (b : Bool) → b ≡ eqb (cond b 0 4) 0
by_zero true = refl
by_zero false = refl

refused : (N taps : ℕ) → (first (shape_checks N taps) ≡ 0 → ⊥) → taps_answer N taps ≡ 0 → ⊥
unfolding taps_answer
refused N taps h z = h (sym (refused_first (shape_checks N taps) ((4, not_maximal N taps) ∷ []) h) ∙ z)

pub returns-then-is_ok : goal.returns-then-is_ok
returns-then-is_ok c =
    by_zero c.is_maximal.result
    ∙ ap (λ n. eqb n 0) (sym (fourth c.args.order c.args.taps (passed (goal.at.returns-then-is_ok c).Then-is_ok) c.is_maximal.result c.is_maximal.ensures))

pub returns-else-is_ok : goal.returns-else-is_ok
returns-else-is_ok c =
    let a = c.args in
    c.if-is_ok.false
    ∙ sym (ne_eqb (taps_answer a.order a.taps) 0 (refused a.order a.taps (λ z. err_answers c.check_shape.result (sym c.is_ok.ensures.value ∙ c.if-is_ok.false) (c.check_shape.ensures ∙ z))))

pub is_maximal-requires : goal.is_maximal-requires
is_maximal-requires c = shaped c.args.order c.args.taps (passed (goal.at.is_maximal-requires c).Then-is_ok)
