-- What a start comes to, and a filing and a withdrawal where the record holds together, case by case; and the number that each answers as one
-- list of checks. Assumes nothing.
use mathlib.Core.Path.{◌≡◌, refl, ap}
use mathlib.Core.Bool.{true}
use mathlib.Core.List.{List}
use Prim.Native.Nat.{ℕ, ◌*◌, ◌≤◌, ◌<◌}
use native.Mathlib.Omega.{arith}
use borrow.Author.Tests.{eqb-true, eqb-false, not-false}
use lib.IntN.{ℤ, pos, ◌+ℤ◌, ◌-ℤ◌}
use Rattle.sums.specs.Lists.{at, table, put, put_at}
use Rattle.sums.proofs.First.{Passed, outcome_cases, accepts}
use Rattle.register.specs.Register.{P}
use Rattle.register.specs.Calls.{answer_of}
use Rattle.samples.specs.Samples.{cleared_wide, within}
use Rattle.finding.specs.Finding.{finding}
use Rattle.nights.specs.Nights.{periods_of}
use Rattle.nights.specs.declared.Night.{Night}
use Rattle.nights.proofs.Terms.{term-within}
use Rattle.records.specs.Record.{standing, overloaded, dead, withdrawn, state, slot, base, sample, together, fresh, marked, filed}
use Rattle.judging.specs.declared.Judged.{Judged}
use Rattle.judging.proofs.Heard.{from_passed, judged_long, judged_ranged}
use Rattle.campaign.specs.Calls.{start_checks, start_outcome, file_checks, settled_of, term_of, withdraw_checks, lowest_free, slot_of_day, withdrawn_outcome, file_outcome, withdraw_outcome, state_of, verdict_number}
use Rattle.history.specs.Run.{World}
use Rattle.records.specs.declared.Campaign.{Campaign}
use Rattle.campaign.specs.Calls.{Started}
use Rattle.campaign.specs.declared.Entered.{Entered}
use Rattle.campaign.specs.Calls.{Withdrawn}
use Rattle.campaign.proofs.EntryCases.{by_cases}
use Rattle.campaign.proofs.Passing.{Begins, begins, in_day, lowest-free, slot_of_day_lem}
use Rattle.records.proofs.Holding.{holds-together}
use Rattle.records.proofs.Refiling.{Day}
use Rattle.finding.proofs.Exactly.{kept_inside}

-- ---- a start

pub data Starting (w : World) (N taps C E : ℕ) (o : Started × List ℤ × List ℤ) : Type 0 where
  refused : (o.0.answer.number ≡ 0 → ⊥) → o.0.campaign ≡ w.campaign → o.1 ≡ w.store → o.2 ≡ w.sums → Starting w N taps C E o
  began : o.0.answer.number ≡ 0 → Begins N taps C E w.store w.sums → o.0.campaign ≡ fresh N taps C E → o.1 ≡ cleared_wide (C * P N) w.store
      → o.2 ≡ cleared_wide (P N) w.sums → Starting w N taps C E o

pub starting : (w : World) (N taps C E : ℕ) → Starting w N taps C E (start_outcome w.campaign N taps C E w.store w.sums)
unfolding start_outcome
starting w N taps C E =
    outcome_cases (start_checks N taps C E w.store w.sums) tt (λ n. (record { answer = answer_of N taps n; campaign = w.campaign }, w.store, w.sums))
    (record { answer = answer_of N taps 0; campaign = fresh N taps C E }, cleared_wide (C * P N) w.store, cleared_wide (P N) w.sums) (Starting w N taps C E)
    (λ n h _. refused h refl refl refl)
    (λ p. began refl (begins N taps C E w.store w.sums (accepts (start_checks N taps C E w.store w.sums) p)) refl refl refl)

-- ---- a filing

-- what it comes to: refused, set aside, or kept
pub data Entering (w : World) (d : ℕ) (night : Night) (y : List ℤ) (o : Entered × List ℤ × List ℤ) : Type 0 where
  refused : (verdict_number o.0.entry.verdict ≡ 0 → ⊥) → o.0.campaign ≡ w.campaign → o.1 ≡ w.store → o.2 ≡ w.sums → Entering w d night y o
  aside : (q : ℕ) → verdict_number o.0.entry.verdict ≡ 0 → state_of (finding (settled_of w.campaign night y)) ≡ q
      → (q ≡ standing → ⊥) → q ≤ withdrawn → Day d → (state w.campaign d ≡ standing → ⊥)
      → o.0.campaign ≡ marked w.campaign d q → o.1 ≡ w.store → o.2 ≡ w.sums → Entering w d night y o
  kept : (k : ℕ) → verdict_number o.0.entry.verdict ≡ 0 → state_of (finding (settled_of w.campaign night y)) ≡ standing
      → Day d → (state w.campaign d ≡ standing → ⊥) → k < w.campaign.capacity → slot w.campaign k ≡ 0
      → 1 ≤ periods_of night → periods_of night ≤ 16
      → ((j : ℕ) → j < P w.campaign.order → within (periods_of night) (at (term_of w.campaign night y) j) ≡ true)
      → o.0.campaign ≡ filed w.campaign d standing k d (periods_of night) → o.1 ≡ put_at (base w.campaign k) (term_of w.campaign night y) w.store
      → o.2 ≡ put (table (P w.campaign.order) (λ j. at w.sums j +ℤ at (term_of w.campaign night y) j)) w.sums → Entering w d night y o

pub entering : (w : World) (d : ℕ) (night : Night) (y : List ℤ) (v : Judged) → together w.campaign w.store w.sums ≡ true
    → Entering w d night y (file_outcome w.campaign w.store w.sums d night y v)
entering w d night y v t =
    by_cases c w.store w.sums d night y v (Entering w d night y)
    (record {
      refused = λ n h _. refused h refl refl refl;
      loud = λ p q e. aside overloaded refl (ap state_of e) (λ x. omega arith) (omega arith) (day p) (down p) refl refl refl;
      still = λ p e. aside dead refl (ap state_of e) (λ x. omega arith) (omega arith) (day p) (down p) refl refl refl;
      full = λ p e f. refused (λ x. omega arith) refl refl refl;
      kept = λ p e few.
          let k = lowest-free c ((holds-together c w.store w.sums).0 t).filed few in
          let g = from_passed c.order night y (p.1.1.0, (p.1.1.1.0, (p.1.1.1.1.0, tt))) in
          kept (lowest_free c) refl (ap state_of e) (day p) (down p) k.0 k.1 g.least g.most
          (term-within (P c.order) (periods_of night) (settled_of c night y) (λ i l. kept_inside (settled_of c night y) e (judged_ranged g) i (omega (arith, judged_long g)))) refl refl refl;
    })
  where
    c : Campaign
    c = w.campaign

    day : Passed (file_checks w.campaign w.store w.sums d night y v) → Day d
    day p = in_day d p.1.0

    down : Passed (file_checks w.campaign w.store w.sums d night y v) → state w.campaign d ≡ standing → ⊥
    down p = eqb-false (state w.campaign d) standing p.1.1.1.1.1.0

-- ---- a withdrawal

pub data Withdrawing (w : World) (d : ℕ) (o : Withdrawn × List ℤ × List ℤ) : Type 0 where
  refused : (o.0.answer ≡ 0 → ⊥) → o.0.campaign ≡ w.campaign → o.1 ≡ w.store → o.2 ≡ w.sums → Withdrawing w d o
  freed : (k : ℕ) → o.0.answer ≡ 0 → Day d → state w.campaign d ≡ standing → k < w.campaign.capacity → slot w.campaign k ≡ d
      → o.0.campaign ≡ filed w.campaign d withdrawn k 0 0
      → o.1 ≡ put_at (base w.campaign k) (table (P w.campaign.order) (λ _. pos 0)) w.store
      → o.2 ≡ put (table (P w.campaign.order) (λ j. at w.sums j -ℤ sample w.campaign w.store k j)) w.sums → Withdrawing w d o

pub withdrawing : (w : World) (d : ℕ) → together w.campaign w.store w.sums ≡ true
    → Withdrawing w d (withdraw_outcome w.campaign w.store w.sums d)
unfolding withdraw_outcome
withdrawing w d t =
    outcome_cases (withdraw_checks w.campaign w.store w.sums d) tt (λ n. (record { answer = n; campaign = w.campaign }, w.store, w.sums))
    (withdrawn_outcome w.campaign w.store w.sums d) (Withdrawing w d) (λ n h _. refused h refl refl refl)
    (λ p.
    let r = in_day d p.1.0 in
    let e = eqb-true (state w.campaign d) standing (not-false _ p.1.1.0) in
    let k = slot_of_day_lem w.campaign ((holds-together w.campaign w.store w.sums).0 t).filed d r e in
    freed (slot_of_day w.campaign d) refl r e k.0 k.1 refl refl refl)
