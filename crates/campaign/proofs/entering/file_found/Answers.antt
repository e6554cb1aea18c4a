-- `campaign::entering::file_found` meets its contract: past 11 what judging gives is the verdict of what is found. Assumes nothing.
use mathlib.Core.Path.{◌≡◌, refl, sym, ap, ◌∙◌}
use mathlib.Core.Bool.{Bool, true, false, cond, not}
use mathlib.Core.List.{List, [], ◌∷◌}
use Prim.Native.Nat.{ℕ}
use native.Mathlib.Omega.{arith}
use lib.IntN.{ℤ}
use Rattle.sums.specs.Refusals.{first, outcome}
use Rattle.sums.proofs.First.{passed_first, refused_early, passed_early}
use Rattle.finding.specs.Finding.{finding}
use Rattle.nights.specs.Nights.{periods_of}
use Rattle.nights.specs.declared.Night.{Night}
use Rattle.judging.specs.Judging.{judged_of, same}
use Rattle.judging.specs.declared.Judged.{Judged}
use Rattle.records.specs.Record.{stands}
use Rattle.records.specs.declared.Campaign.{Campaign}
use Rattle.campaign.specs.Calls.{given_checks, enter_checks, judged_for, settled_of, term_of, entered, found_outcome, file_outcome, shown_as, shown_to}
use Rattle.campaign.specs.declared.Entered.{Entered}
use Rattle.campaign.specs.declared.Verdict.TheVariants as verdict
use Rattle.campaign.proofs.Passing.{judged_found}
use Rattle.campaign.proofs.entering.file_found.Goals as goal
use Rattle.campaign.proofs.entering.file_found.Goals.{After-contradicts, Else-day_stands}

module _ (c : Campaign) (store sums : List ℤ) (d : ℕ) (night : Night) (y : List ℤ) where
  -- past the checks of what is given 11 decides
  eleven : first (given_checks c store sums d night y) ≡ 0 → (b : Bool) → b ≡ stands c d → first (enter_checks c store sums d night y) ≡ cond b 11 0
  eleven z b s = passed_first (given_checks c store sums d night y) ((11, stands c d) ∷ []) tt z ∙ ap (λ x. cond x 11 0) (sym s)

  module _ (v : Judged) where
    abbrev back : ℕ → Entered × List ℤ × List ℤ
    back k = (entered c d (verdict.Refused k), store, sums)

    abbrev made : Entered × List ℤ × List ℤ
    made = found_outcome (finding (settled_of c night y)) c store sums d (periods_of night) (term_of c night y)

    refused : first (enter_checks c store sums d night y) ≡ 11 → {r : Entered} → r ≡ entered c d (verdict.Refused 11) → (r, store, sums) ≡ file_outcome c store sums d night y v
    unfolding file_outcome
    refused e p =
        ap (λ r. (r, store, sums)) p
        ∙ sym (refused_early back made (enter_checks c store sums d night y) ((23, not (same v (judged_for c night y))) ∷ []) 11 (sym e) (λ z. omega arith))

    -- past it 23 does
    decided : first (enter_checks c store sums d night y) ≡ 0 → {b : Bool} → b ≡ not (same v (judged_for c night y))
        → outcome ((23, b) ∷ []) back made ≡ file_outcome c store sums d night y v
    unfolding file_outcome
    decided z t =
        ap (λ b. outcome ((23, b) ∷ []) back made) t
        ∙ sym (passed_early back made (enter_checks c store sums d night y) ((23, not (same v (judged_for c night y))) ∷ []) 0 tt (sym z) refl)

-- the day does not stand
early : (c : Else-day_stands) → let a = c.args in first (enter_checks a.c a.store.now a.sums.now a.d a.night a.y.now) ≡ 0
early c =
    let a = c.args in
    eleven a.c a.store.now a.sums.now a.d a.night a.y.now c.requires.0 false (sym c.if-day_stands.false ∙ c.day_stands.ensures)

-- what the test of the verdict says
tested : (c : After-contradicts) → let a = c.args in
    c.contradicts.result ≡ not (same (shown_to a.c a.night a.y.now a.shown) (judged_for a.c a.night a.y.now))
tested c =
    let a = c.args in
    let own = judged_found a.c a.store.now a.sums.now a.d a.night a.y.now (early c.before) in
    c.contradicts.ensures ∙ ap (λ w. not (same (shown_as w a.shown) w)) (ap judged_of c.requires.1 ∙ sym own)

pub returns-then-day_stands : goal.returns-then-day_stands
returns-then-day_stands c =
    let a = c.args in
    refused a.c a.store.now a.sums.now a.d a.night a.y.now (shown_to a.c a.night a.y.now a.shown)
    (eleven a.c a.store.now a.sums.now a.d a.night a.y.now c.requires.0 true (sym c.if-day_stands.true ∙ c.day_stands.ensures)) c.refused.ensures

pub returns-then-contradicts : goal.returns-then-contradicts
returns-then-contradicts c =
    let a = c.args in
    ap (λ r. (r, a.store.now, a.sums.now)) c.refused-then-contradicts.ensures
    ∙ decided a.c a.store.now a.sums.now a.d a.night a.y.now (shown_to a.c a.night a.y.now a.shown) (early (goal.at.returns-then-contradicts c).Else-day_stands) (sym c.if-contradicts.true ∙ tested (goal.at.returns-then-contradicts c).After-contradicts)

pub returns : goal.returns
returns c =
    let a = c.args in
    c.settle.ensures
    ∙ ap (λ x. found_outcome x a.c a.store.now a.sums.now a.d (periods_of a.night) (term_of a.c a.night a.y.now)) c.requires.1
    ∙ decided a.c a.store.now a.sums.now a.d a.night a.y.now (shown_to a.c a.night a.y.now a.shown) (early (goal.at.returns c).Else-day_stands) (sym c.if-contradicts.false ∙ tested (goal.at.returns c).After-contradicts)
