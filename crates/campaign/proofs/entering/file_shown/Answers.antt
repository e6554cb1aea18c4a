-- `campaign::entering::file_shown` meets its contract: the record and the day decide 15 and 10, and what is heard of the night the rest. Assumes nothing.
use mathlib.Core.Path.{◌≡◌, refl, sym, ap, ◌∙◌}
use mathlib.Core.List.{List, [], ◌∷◌, ◌++◌}
use Prim.Native.Nat.{ℕ}
use lib.IntN.{ℤ}
use mathlib.Core.Bool.{Bool, not}
use Rattle.sums.specs.Refusals.{first}
use Rattle.sums.proofs.First.{passes, refused_early, passed_early}
use Rattle.refusals.specs.Causes.{number}
use Rattle.refusals.proofs.Causes.{never_0}
use Rattle.finding.specs.Finding.{finding}
use Rattle.nights.specs.Nights.{periods_of}
use Rattle.nights.specs.declared.Night.{Night}
use Rattle.judging.specs.Judging.{night_checks, same}
use Rattle.judging.specs.declared.Judged.{Judged}
use Rattle.judging.proofs.Heard.{refused_heard}
use Rattle.records.specs.Record.{stands}
use Rattle.records.specs.declared.Campaign.{Campaign}
use Rattle.records.proofs.Holding.{not_apart}
use Rattle.campaign.specs.Calls.{day_checks, judged_for, settled_of, term_of, entered, found_outcome, file_outcome, shown_to}
use Rattle.campaign.specs.declared.Entered.{Entered}
use Rattle.campaign.specs.declared.Verdict.TheVariants as verdict
use Rattle.campaign.proofs.entering.file_shown.Goals as goal

module _ (c : Campaign) (store sums : List ℤ) (d : ℕ) (night : Night) (y : List ℤ) (v : Judged) where
  abbrev back : ℕ → Entered × List ℤ × List ℤ
  back k = (entered c d (verdict.Refused k), store, sums)

  abbrev made : Entered × List ℤ × List ℤ
  made = found_outcome (finding (settled_of c night y)) c store sums d (periods_of night) (term_of c night y)

  -- the checks behind those of the day and of the night
  abbrev late : List (ℕ × Bool)
  late = (11, stands c d) ∷ (23, not (same v (judged_for c night y))) ∷ []

  refused-day : (n : ℕ) → n ≡ first (day_checks c store sums d) → (n ≡ 0 → ⊥) → {r : Entered} → r ≡ entered c d (verdict.Refused n) → (r, store, sums) ≡ file_outcome c store sums d night y v
  unfolding file_outcome
  refused-day n e h p = ap (λ r. (r, store, sums)) p ∙ sym (refused_early back made (day_checks c store sums d) (night_checks c.order night y ++ late) n e h)

  refused-night : (n k : ℕ) → n ≡ first (day_checks c store sums d) → n ≡ 0 → (first (night_checks c.order night y) ≡ k) × (k ≡ 0 → ⊥)
      → {r : Entered} → r ≡ entered c d (verdict.Refused k) → (r, store, sums) ≡ file_outcome c store sums d night y v
  unfolding file_outcome
  refused-night n k e z (f, h) p =
      ap (λ r. (r, store, sums)) p
      ∙ sym (passed_early back made (day_checks c store sums d) (night_checks c.order night y ++ late) n tt e z ∙ refused_early back made (night_checks c.order night y) late k (sym f) h)

pub returns-in-Err : goal.returns-in-Err
returns-in-Err c =
    let a = c.args in
    let k = c.in-Err.refusal in
    refused-day a.c a.store.now a.sums.now a.d a.night a.y.now (shown_to a.c a.night a.y.now a.shown) (number k) c.in-Err.ensures (never_0 k) c.refused.ensures

pub hear-requires : goal.hear-requires
hear-requires c =
    let a = c.args in
    let p = passes (day_checks a.c a.store.now a.sums.now a.d) tt (sym c.in_default.ensures) in
    (not_apart a.c a.store.now a.sums.now p.0).filed.accepted.shaped.most

pub returns-in-Err-hear : goal.returns-in-Err-hear
returns-in-Err-hear c =
    let a = c.args in
    let k = c.in-Err-hear.refusal in
    refused-night a.c a.store.now a.sums.now a.d a.night a.y.now (shown_to a.c a.night a.y.now a.shown) 0 (number k) c.in_default.ensures refl
    (refused_heard a.c.order a.night a.y.now (number k) (sym c.in-Err-hear.ensures)) c.refused-in-Err-hear.ensures
