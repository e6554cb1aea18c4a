-- What the checks of a start, a filing and a withdrawal have shown where none refuses. Assumes nothing.
use mathlib.Core.Path.{◌≡◌, refl, sym, ap, ap₂, ◌∙◌}
use mathlib.Core.Bool.{Bool, true, false, cond, ◌||◌}
use mathlib.Core.List.{List, [], ◌∷◌}
use Prim.Native.Nat.{ℕ, ◌+◌, ◌-◌, ◌*◌, ◌^◌, ◌≤◌, ◌<◌}
use native.Mathlib.Nat.{mul-le-mul_right, suc-mul}
use native.Mathlib.Decide.{dec_lt}
use native.Mathlib.Omega.{arith}
use borrow.Author.Tests.{ltb-false, le-ltb, eqb-true, not-false}
use lib.Dec.{eqb, ltb}
use lib.IntN.{ℤ, pos, nat_abs}
use lib.ListN.{length}
use Rattle.sums.specs.Lists.{at, many}
use Rattle.sums.specs.Refusals.{first}
use Rattle.sums.proofs.Everywhere.{many-none}
use Rattle.sums.proofs.First.{passes, accepts, or-false, passed_first, read_off}
use Rattle.sums.proofs.Seek.{First, seek-first}
use Rattle.sums.proofs.Sum.{sum_ext, sum_one}
use Rattle.finding.specs.Finding.{finding}
use Rattle.nights.specs.declared.Night.{Night}
use Rattle.rounding.specs.Rounding.{is_edition}
use Rattle.register.specs.Register.{P, Accepted}
use Rattle.register.specs.Calls.{taps_checks, answer_of, taps_answer}
use Rattle.register.proofs.Judged.{accepted_exactly}
use Rattle.register.proofs.Word.{small}
use Rattle.judging.specs.Judging.{night_checks, judged_of}
use Rattle.judging.proofs.Heard.{Heard, from_passed}
use Rattle.judging.proofs.Judgements.{judge_found}
use Rattle.records.specs.Record.{standing, state, days_in, slot, free}
use Rattle.records.specs.declared.Campaign.{Campaign}
use Rattle.records.proofs.Holding.{Filed, Together, not_apart}
use Rattle.records.proofs.Refiling.{Day}
use Rattle.records.proofs.Tallying.{used_standing}
use Rattle.records.proofs.Totals.{sum_small}
use Rattle.campaign.specs.Calls.{Started}
use Rattle.campaign.specs.Calls.{slots_out, edition_out, day_out, start_checks, start_outcome, enter_checks, judged_for, settled_of, withdraw_checks, lowest_free, slot_of_day}

pub in_day : (d : ℕ) → day_out d ≡ false → Day d
in_day d h = let two = or-false (ltb d 1) (ltb 366 d) h in record { first = ltb-false d 1 two.0; last = ltb-false 366 d two.1 }

-- ---- a slot that is sought

module _ (c : Campaign) (f : Filed c) where
  -- where fewer than C days stand, a slot is free
  pub lowest-free : (days_in c standing ≡ c.capacity → ⊥) → (lowest_free c < c.capacity) × (slot c (lowest_free c) ≡ 0)
  lowest-free n = elim (dec_lt (lowest_free c) c.capacity) [
    | yes l ↦ (l, eqb-true (slot c (lowest_free c)) 0 (g.here (omega arith)))
    | no l ↦ absurd (n (full (omega (arith, g.to))))
  ]
    where
      g : First (free c) c.capacity 0 (lowest_free c)
      g = seek-first (free c) c.capacity 0

      full : lowest_free c ≡ c.capacity → days_in c standing ≡ c.capacity
      full e =
          ap nat_abs
          (sym (used_standing c f)
          ∙ sum_ext c.capacity (λ s l. ap (λ b. cond b (pos 0) (pos 1)) (g.before s (omega arith) (omega arith)))
          ∙ sum_one c.capacity)

  -- a standing day has its slot
  pub slot_of_day_lem : (d : ℕ) → Day d → state c d ≡ standing → (slot_of_day c d < c.capacity) × (slot c (slot_of_day c d) ≡ d)
  slot_of_day_lem d r e = elim (dec_lt (slot_of_day c d) c.capacity) [
    | yes l ↦ (l, eqb-true (slot c (slot_of_day c d)) d (g.here (omega arith)))
    | no l ↦ absurd (none (omega (arith, g.to)))
  ]
    where
      g : First (λ s. eqb (slot c s) d) c.capacity 0 (slot_of_day c d)
      g = seek-first (λ s. eqb (slot c s) d) c.capacity 0

      one : many c.capacity (λ s. eqb (slot c s) d) ≡ 1
      one =
          let x : d - 1 + 1 ≡ d = omega (arith, r.first) in
          ap (λ n. many c.capacity (λ s. eqb (slot c s) n)) (sym x) ∙ f.one (d - 1) (omega (arith, r.first, r.last)) (ap (state c) x ∙ e)

      none : slot_of_day c d ≡ c.capacity → ⊥
      none q = omega (arith, one, many-none c.capacity (λ s. eqb (slot c s) d) (λ s l. g.before s (omega arith) (omega arith)))

-- ---- a record that holds together, and one of its slots

module _ {c : Campaign} {store sums : List ℤ} (t : Together c store sums) where
  pub period_small : P c.order ≤ 65535
  period_small = omega (arith, small t.filed.accepted.shaped.most)

  pub slot_fits : (s : ℕ) → s < c.capacity → s * P c.order + P c.order ≤ length store
  slot_fits s l = omega (arith, mul-le-mul_right (P c.order) l, suc-mul s (P c.order), t.store_long)

  pub sums_small : (j : ℕ) → j < P c.order → nat_abs (at sums j) ≤ 2 ^ 40
  sums_small j l = omega (arith, sum_small c store sums t j l)

-- ---- no check refuses

-- what an accepted start has shown
pub record Begins (N taps C E : ℕ) (store sums : List ℤ) : Type 0 where
  pub accepted : Accepted N taps
  pub least : 1 ≤ C
  pub most : C ≤ 64
  pub edition : is_edition E ≡ true
  pub store_long : C * P N ≤ length store
  pub sums_long : P N ≤ length sums

-- a start that no check refuses
pub begins : (N taps C E : ℕ) (store sums : List ℤ) → first (start_checks N taps C E store sums) ≡ 0 → Begins N taps C E store sums
unfolding taps_answer
begins N taps C E store sums z =
    let p = passes (start_checks N taps C E store sums) tt z in
    let nine = or-false (ltb C 1) (ltb 64 C) p.1.1.1.1.0 in
    let six = or-false (ltb (length store) (C * P N)) (ltb (length sums) (P N)) p.1.1.1.1.1.1.0 in
    record {
      accepted = (accepted_exactly N taps).0 (accepts (taps_checks N taps) (p.0, (p.1.0, (p.1.1.0, (p.1.1.1.0, tt)))));
      least = ltb-false C 1 nine.0;
      most = ltb-false 64 C nine.1;
      edition = not-false (is_edition E) p.1.1.1.1.1.0;
      store_long = ltb-false (length store) (C * P N) six.0;
      sums_long = ltb-false (length sums) (P N) six.1;
    }

-- where the taps, the slot count and the memory are right, nothing but its edition refuses a start
pub only_edition : (N taps C E : ℕ) (store sums : List ℤ) → taps_answer N taps ≡ 0 → slots_out C ≡ false
    → ltb (length store) (C * P N) || ltb (length sums) (P N) ≡ false → first (start_checks N taps C E store sums) ≡ first ((24, edition_out E) ∷ [])
unfolding taps_answer
only_edition N taps C E store sums z nine six =
    passed_first (taps_checks N taps) ((9, slots_out C) ∷ (24, edition_out E) ∷ (6, ltb (length store) (C * P N) || ltb (length sums) (P N)) ∷ []) tt z
    ∙ ap₂ (λ o s. first ((9, o) ∷ (24, edition_out E) ∷ (6, s) ∷ [])) nine six
    ∙ go (edition_out E)
  where
    go : (b : Bool) → first ((9, false) ∷ (24, b) ∷ (6, false) ∷ []) ≡ first ((24, b) ∷ [])
    go true = refl
    go false = refl

-- so in the memory of a campaign that holds together
pub afresh : (c : Campaign) (store sums : List ℤ) → Together c store sums → (E : ℕ)
    → first (start_checks c.order c.taps c.capacity E store sums) ≡ first ((24, edition_out E) ∷ [])
afresh c store sums h E =
    only_edition c.order c.taps c.capacity E store sums ((accepted_exactly c.order c.taps).1 h.filed.accepted)
    (ap₂ ◌||◌ (le-ltb c.capacity 1 h.filed.least) (le-ltb 64 c.capacity h.filed.most))
    (ap₂ ◌||◌ (le-ltb (length store) (c.capacity * P c.order) h.store_long) (le-ltb (length sums) (P c.order) h.sums_long))

-- a start's answer, told with the period, and so the period that goes with its number
pub start_tells : (c : Campaign) (N taps C E : ℕ) (store sums : List ℤ)
    → (start_outcome c N taps C E store sums).0.answer ≡ answer_of N taps (first (start_checks N taps C E store sums))
unfolding start_outcome
start_tells c N taps C E store sums =
    read_off (start_checks N taps C E store sums) (λ (o : Started × List ℤ × List ℤ). o.0.answer) (answer_of N taps) _ _ (λ n. refl) refl

pub record Withdraws (c : Campaign) (store sums : List ℤ) (d : ℕ) : Type 0 where
  pub whole : Together c store sums
  pub day : Day d
  pub inside : slot_of_day c d < c.capacity

pub withdraws : (c : Campaign) (store sums : List ℤ) (d : ℕ) → first (withdraw_checks c store sums d) ≡ 0 → Withdraws c store sums d
withdraws c store sums d z =
    let p = passes (withdraw_checks c store sums d) tt z in
    let t = not_apart c store sums p.0 in
    let r = in_day d p.1.0 in
    record { whole = t; day = r; inside = (slot_of_day_lem c t.filed d r (eqb-true (state c d) standing (not-false _ p.1.1.0))).0 }

-- what a night that may be filed has shown
pub record Enters (c : Campaign) (store sums : List ℤ) (d : ℕ) (night : Night) (y : List ℤ) : Type 0 where
  pub whole : Together c store sums
  pub day : Day d
  pub heard : Heard c.order night y

pub enters : (c : Campaign) (store sums : List ℤ) (d : ℕ) (night : Night) (y : List ℤ) → first (enter_checks c store sums d night y) ≡ 0
    → Enters c store sums d night y
enters c store sums d night y z =
    let p = passes (enter_checks c store sums d night y) tt z in
    record { whole = not_apart c store sums p.0; day = in_day d p.1.0; heard = from_passed c.order night y (p.1.1.0, (p.1.1.1.0, (p.1.1.1.1.0, tt))) }

-- such a night passes the checks of judging, so that its verdict is that of what is found
pub judged_found : (c : Campaign) (store sums : List ℤ) (d : ℕ) (night : Night) (y : List ℤ) → first (enter_checks c store sums d night y) ≡ 0
    → judged_for c night y ≡ judged_of (finding (settled_of c night y))
unfolding taps_answer
judged_found c store sums d night y z =
    let p = passes (enter_checks c store sums d night y) tt z in
    let taps = (accepted_exactly c.order c.taps).1 (not_apart c store sums p.0).filed.accepted in
    judge_found c.order c.taps night y
    (passed_first (taps_checks c.order c.taps) (night_checks c.order night y) tt taps ∙ accepts (night_checks c.order night y) (p.1.1.0, (p.1.1.1.0, (p.1.1.1.1.0, tt))))
