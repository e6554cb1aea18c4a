-- `legendre::recording::one_recording` meets its contract: the checks decide, and what has passed them is turned. Assumes nothing.
use mathlib.Core.Path.{◌≡◌, refl, sym, ap, ◌∙◌}
use mathlib.Core.Bool.{Bool}
use mathlib.Core.List.{List}
use Prim.Native.Nat.{ℕ, ◌≤◌}
use lib.IntN.{ℤ}
use lib.ListN.{length}
use Rattle.sums.specs.Lists.{put}
use Rattle.sums.proofs.First.{refused_with, accepted_with}
use Rattle.refusals.specs.Causes.{number}
use Rattle.refusals.proofs.Causes.{never_0, exits}
use Rattle.legendre.specs.Calls.{turned, recording_checks, recording_outcome}
use Rattle.legendre.specs.Working.{Passed}
use Rattle.legendre.proofs.Offered.{all_passed}
use Rattle.legendre.proofs.recording.one_recording.Goals as goal
use Rattle.legendre.proofs.recording.one_recording.Goals.{In_ok-check_measuring, Start}

-- what is handed back on a refusal, what is made, and the checks
abbrev kept : Start → ℕ → ℕ × List ℤ
kept c n = (n, c.args.out.now)

abbrev made : Start → ℕ × List ℤ
made c = (0, put (turned c.args.p c.args.y.now) c.args.out.now)

abbrev checks : Start → List (ℕ × Bool)
checks c = recording_checks c.args.p c.args.y.now c.args.out.now

-- what has passed them
passed : (c : In_ok-check_measuring) → let a = c.args in Passed a.y.now × (length a.y.now ≡ a.p) × (a.p ≤ length a.out.now)
passed c =
    let a = c.args in
    all_passed a.p a.y.now (length a.out.now) (sym c.in_ok-check_measuring.ensures)

pub returns-in_err-check_measuring : goal.returns-in_err-check_measuring
unfolding recording_outcome
returns-in_err-check_measuring c =
    let s = (goal.at.returns-in_err-check_measuring c).Start in
    let d = c.in_err-check_measuring.field-0.0 in
    rw (exits c.from_residual.result d c.from_residual.ensures.1)
    (sym (refused_with (kept s) (made s) (checks s) (number d) c.in_err-check_measuring.ensures (never_0 d)))

pub returns : goal.returns
unfolding recording_outcome
returns c =
    let s = (goal.at.returns c).Start in
    ap (λ (l : List ℤ). (0, l)) (c.turn.ensures ∙ ap (λ n. put (turned n c.args.y.now) c.args.out.now) (passed (goal.at.returns c).In_ok-check_measuring).1)
    ∙ sym (accepted_with (kept s) (made s) (checks s) 0 c.in_ok-check_measuring.ensures refl)
