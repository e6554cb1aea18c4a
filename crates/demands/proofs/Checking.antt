-- A refused call of a run leaves the record and the memory as they were. Assumes nothing.
use mathlib.Core.Path.{◌≡◌, refl, ap}
use mathlib.Core.List.{List}
use lib.IntN.{ℤ}
use Rattle.sums.proofs.First.{refused_same}
use Rattle.campaign.specs.Calls.{start_checks, start_outcome, shown_to, withdraw_checks, withdraw_outcome}
use Rattle.campaign.proofs.EntryCases.{file_refused}
use Rattle.campaign.specs.Calls.{Started}
use Rattle.campaign.specs.declared.Entered.{Entered}
use Rattle.campaign.specs.Calls.{Withdrawn}
use Rattle.history.specs.Run.{World, Call, start, judge, file, withdraw, counts, response, summary, after, answer}

pub refused_leaves : (w : World) (call : Call) → (answer w call ≡ 0 → ⊥) → after w call ≡ w
unfolding start_outcome withdraw_outcome
refused_leaves w (start N taps C E) h =
    ap (λ (o : Started × List ℤ × List ℤ). record { campaign = o.0.campaign; store = o.1; sums = o.2 })
    (refused_same (start_checks N taps C E w.store w.sums) (λ (o : Started × List ℤ × List ℤ). o.0.answer.number) _ _ (λ n. refl) refl h)
refused_leaves w (judge N taps night y) h = refl
refused_leaves w (file d night y s) h =
    ap (λ (o : Entered × List ℤ × List ℤ). record { campaign = o.0.campaign; store = o.1; sums = o.2 })
    (file_refused w.campaign w.store w.sums d night y (shown_to w.campaign night y s) h)
refused_leaves w (withdraw d) h =
    ap (λ (o : Withdrawn × List ℤ × List ℤ). record { campaign = o.0.campaign; store = o.1; sums = o.2 })
    (refused_same (withdraw_checks w.campaign w.store w.sums d) (λ (o : Withdrawn × List ℤ × List ℤ). o.0.answer) _ _ (λ n. refl) refl h)
refused_leaves w counts h = refl
refused_leaves w (response r mean room tags) h = refl
refused_leaves w (summary room tags) h = refl
