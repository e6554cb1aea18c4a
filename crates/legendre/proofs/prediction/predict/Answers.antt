-- `legendre::prediction::predict` meets its contract: the checks decide, and of what has passed them the prediction decides the eighth. Assumes nothing.
use mathlib.Core.Path.{◌≡◌, refl, sym, ap, ◌∙◌}
use mathlib.Core.Bool.{Bool}
use mathlib.Core.List.{List}
use Prim.Native.Nat.{ℕ, ◌≤◌}
use lib.IntN.{ℤ}
use lib.ListN.{length}
use Rattle.sums.specs.Lists.{table, put}
use Rattle.sums.proofs.First.{refused_early, passed_early}
use Rattle.refusals.specs.Causes.{number}
use Rattle.refusals.proofs.Causes.{never_0, exits}
use Rattle.legendre.specs.Calls.{measuring_checks, predicted, eighth, eighth_outcome, prediction_outcome}
use Rattle.legendre.specs.Working.{Passed}
use Rattle.legendre.proofs.Offered.{all_passed}
use Rattle.legendre.proofs.prediction.predict.Goals as goal
use Rattle.legendre.proofs.prediction.predict.Goals.{In_ok-check_measuring, Start}

-- what is handed back on a refusal, what is made, and the checks
abbrev kept : Start → ℕ → ℕ × List ℤ
kept c n = (n, c.args.out.now)

abbrev made : Start → ℕ × List ℤ
made c = (0, put (table c.args.p (predicted c.args.p c.args.h.now)) c.args.out.now)

abbrev checks : Start → List (ℕ × Bool)
checks c = measuring_checks c.args.p c.args.h.now (length c.args.out.now)

abbrev more : Start → List (ℕ × Bool)
more c = eighth c.args.p c.args.h.now

-- what has passed them
passed : (c : In_ok-check_measuring) → let a = c.args in Passed a.h.now × (length a.h.now ≡ a.p) × (a.p ≤ length a.out.now)
passed c =
    let a = c.args in
    all_passed a.p a.h.now (length a.out.now) (sym c.in_ok-check_measuring.ensures)

pub returns-in_err-check_measuring : goal.returns-in_err-check_measuring
unfolding prediction_outcome
returns-in_err-check_measuring c =
    let s = (goal.at.returns-in_err-check_measuring c).Start in
    let d = c.in_err-check_measuring.field-0.0 in
    rw (exits c.from_residual.result d c.from_residual.ensures.1)
    (sym (refused_early (kept s) (made s) (checks s) (more s) (number d) c.in_err-check_measuring.ensures (never_0 d)))

pub returns : goal.returns
unfolding prediction_outcome
returns c =
    let s = (goal.at.returns c).Start in
    c.predict_all.ensures ∙ ap (λ n. eighth_outcome n c.args.h.now c.args.out.now) (passed (goal.at.returns c).In_ok-check_measuring).1
    ∙ sym (passed_early (kept s) (made s) (checks s) (more s) 0 tt c.in_ok-check_measuring.ensures refl)
