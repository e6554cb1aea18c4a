-- `logeffects::applying::enter_day` meets its contract. Assumes nothing.
use mathlib.Core.Path.{◌≡◌, refl, sym, ap, ◌∙◌}
use mathlib.Core.List.{List}
use Prim.Native.Nat.{ℕ}
use lib.IntN.{ℤ}
use lib.ListN.{take}
use Rattle.std.proofs.lemmas.List.{take_min}
use Rattle.sums.specs.Refusals.{first}
use Rattle.refusals.specs.Causes.{number}
use Rattle.refusals.proofs.Causes.{never_0}
use Rattle.nights.specs.declared.Night.{Night}
use Rattle.records.specs.declared.Campaign.{Campaign}
use Rattle.campaign.specs.Calls.{entered}
use Rattle.campaign.specs.declared.Verdict.TheVariants as verdict
use Rattle.campaign.specs.declared.Entered.{Entered}
use Rattle.logeffects.specs.Book.{over, log_enter_checks, judged_then_filed, entered_by, entered_outcome}
use Rattle.logeffects.specs.declared.Applied.{Applied}
use Rattle.logeffects.proofs.Held.{refused_entry, passed_entry}
use Rattle.logeffects.proofs.applying.enter_day.Goals as goal

module _ (c : Campaign) (d : ℕ) (night : Night) (n : ℕ) (store sums y : List ℤ) (r : ℕ) (told : r ≡ first (log_enter_checks d night)) where
  refused : (r ≡ 0 → ⊥) → {x : Applied} → x ≡ entered_by (entered c d (verdict.Refused r)) → (x, store, sums) ≡ entered_outcome c d night n store sums y
  refused h p = rw p (sym (refused_entry c d night n store sums y r told h))

  -- what is entered is the first n of the recording
  of-the-first : r ≡ 0 → {z : List ℤ} → z ≡ take n y → {x : Applied} {e : Entered} {st su : List ℤ} → x ≡ entered_by e
      → (e, st, su) ≡ judged_then_filed c d night store sums z → (x, st, su) ≡ entered_outcome c d night n store sums y
  of-the-first h q p o =
      rw p (ap (over entered_by) (o ∙ ap (judged_then_filed c d night store sums) q)) ∙ sym (passed_entry c d night n store sums y r told h)

pub returns-in-Err : goal.returns-in-Err
returns-in-Err c =
    let a = c.args in
    let d = c.in-Err.refusal in
    refused a.c a.day a.night a.n a.store.now a.sums.now a.recording.now (number d) c.in-Err.ensures (never_0 d)
    (c.entered_by.ensures ∙ ap (λ n. entered_by (entered a.c a.day (verdict.Refused n))) c.number.ensures)

pub returns : goal.returns
returns c =
    let a = c.args in
    of-the-first a.c a.day a.night a.n a.store.now a.sums.now a.recording.now 0 c.in_default.ensures
    refl (ap (λ k. take k a.recording.now) c.min-came.ensures ∙ take_min a.n a.recording.now) c.entered_by-2.ensures c.file_night.ensures
