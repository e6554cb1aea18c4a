-- `logeffects::applying::begin` meets its contract. Assumes nothing.
use mathlib.Core.Path.{◌≡◌, refl, sym, ap, ◌∙◌}
use mathlib.Core.List.{List}
use Prim.Native.Nat.{ℕ}
use lib.IntN.{ℤ}
use Rattle.sums.specs.Refusals.{first}
use Rattle.sums.proofs.First.{refused_with, accepted_with}
use mathlib.Core.Bool.{not}
use Rattle.refusals.proofs.Causes.{ok_answers, err_answers}
use Rattle.register.specs.Calls.{answer_of}
use Rattle.refusals.specs.declared.Answer.{Answer}
use Rattle.rounding.specs.Rounding.{away_from_zero}
use Rattle.records.specs.declared.Campaign.{Campaign}
use Rattle.campaign.specs.Calls.{start_outcome}
use Rattle.campaign.specs.Calls.{Started}
use Rattle.logeffects.specs.Book.{log_start_checks, over, started_by, began_outcome}
use Rattle.logeffects.specs.declared.Applied.{Applied}
use Rattle.logeffects.proofs.applying.begin.Goals as goal

module _ (c : Campaign) (N taps C : ℕ) (store sums : List ℤ) where
  -- the checks' first refusal
  abbrev asked : ℕ
  asked = first (log_start_checks N taps C)

  refused : {a : Answer} → a ≡ answer_of N taps asked → (asked ≡ 0 → ⊥) → {x : Applied} → x ≡ started_by (record { answer = a; campaign = c })
      → (x, store, sums) ≡ began_outcome c N taps C store sums
  unfolding began_outcome
  refused w h q = rw (q, w) (sym (refused_with _ _ (log_start_checks N taps C) asked refl h))

  accepted : asked ≡ 0 → {x : Applied} {s : Started} {st su : List ℤ} → x ≡ started_by s → (s, st, su) ≡ start_outcome c N taps C away_from_zero store sums
      → (x, st, su) ≡ began_outcome c N taps C store sums
  unfolding began_outcome
  accepted z q o = rw q (ap (over started_by) o ∙ sym (accepted_with _ _ (log_start_checks N taps C) asked refl z))

pub returns-then-is_err : goal.returns-then-is_err
returns-then-is_err c =
    let a = c.args in
    let r = c.check_start-checked.result in
    let e = c.check_start-checked.ensures in
    refused a.c a.order a.taps a.capacity a.store.now a.sums.now e
    (λ z. err_answers r (c.is_err.ensures.negation ∙ ap not c.if-is_err.true) (ap (λ (x : Answer). x.number) e ∙ z)) c.started_by.ensures

pub returns : goal.returns
returns c =
    let a = c.args in
    let r = c.check_start-checked.result in
    let e = c.check_start-checked.ensures in
    accepted a.c a.order a.taps a.capacity a.store.now a.sums.now
    (sym (ap (λ (x : Answer). x.number) e) ∙ ok_answers r (c.is_err.ensures.negation ∙ ap not c.if-is_err.false)) c.started_by-2.ensures c.start.ensures
