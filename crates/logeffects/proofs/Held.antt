-- A night whose samples the program keeps passes the program's own checks of an entry, and any other is refused with the first of 10, 18, 17. Assumes
-- nothing.
use mathlib.Core.Path.{◌≡◌, refl, sym, ap, ap₂, subst, ◌∙◌}
use mathlib.Core.Bool.{Bool, true, false, ◌&&◌, ◌||◌}
use mathlib.Core.List.{List, [], ◌∷◌}
use Prim.Native.Nat.{ℕ, ◌+◌, ◌*◌, ◌^◌, ◌≤◌, ◌<◌}
use native.Mathlib.Nat.{mul-le-mul}
use native.Mathlib.Omega.{arith}
use borrow.Author.Tests.{le-ltb, ltb-true, ltb-false}
use lib.Dec.{T, ltb}
use lib.IntN.{ℤ}
use lib.ListN.{take}
use Rattle.sums.specs.Refusals.{first}
use Rattle.sums.proofs.First.{passes, accepts, or-false, refused_with, accepted_with}
use Rattle.nights.specs.Nights.{lead, periods_of, periods_out, night_length}
use Rattle.nights.specs.declared.Night.{Night}
use Rattle.nights.proofs.Terms.{lead_most}
use Rattle.records.specs.declared.Campaign.{Campaign}
use Rattle.campaign.specs.Calls.{day_out, entered}
use Rattle.campaign.specs.declared.Verdict.TheVariants as verdict
use Rattle.logitems.specs.Kinds.{kind_sample}
use Rattle.logitems.specs.Phases.{may_stand}
use Rattle.logitems.specs.declared.Phase.{Phase}
use Rattle.logitems.specs.declared.Phase.TheVariants as phase
use Rattle.logeffects.specs.Book.{over, day_length, unheld, log_enter_checks, judged_then_filed, entered_by, entered_outcome}
use Rattle.logeffects.specs.declared.Applied.{Applied}
use Rattle.logeffects.proofs.Rows.{day_short}

-- ---- the program's own checks of an entry

module _ (d : ℕ) (night : Night) where
  abbrev m : ℕ
  m = periods_of night

  pub held_passes : unheld m ≡ false → first (log_enter_checks d night) ≡ 0
  held_passes e =
      let o = or-false (ltb m 1) (ltb 4 m) e in
      accepts (log_enter_checks d night)
      (ap (λ b. b && day_out d) e, (ap₂ ◌||◌ o.0 (le-ltb 16 m (omega (arith, ltb-false 4 m o.1))), (o.1, tt)))

  pub passed_held : first (log_enter_checks d night) ≡ 0 → unheld m ≡ false
  passed_held e =
      let p = passes (log_enter_checks d night) tt e in
      ap₂ ◌||◌ (or-false (ltb m 1) (ltb 16 m) p.1.0).0 p.1.1.0

  pub unheld_refused : unheld m ≡ true → first (log_enter_checks d night) ≡ first ((10, day_out d) ∷ (18, periods_out night) ∷ (17, true) ∷ [])
  unheld_refused = go (ltb m 1) (ltb 4 m) refl refl
    where
      go : (a b : Bool) → ltb m 1 ≡ a → ltb 4 m ≡ b → a || b ≡ true
          → first (log_enter_checks d night) ≡ first ((10, day_out d) ∷ (18, periods_out night) ∷ (17, true) ∷ [])
      go true b x y u = rw x
      go false true x y u = rw (x, y)
      go false false x y u = absurd (subst T (sym u) tt)

-- ---- what an entry comes to

-- none of the three is 0
refuses : (x y : Bool) → first ((10, x) ∷ (18, y) ∷ (17, true) ∷ []) ≡ 0 → ⊥
refuses true y e = omega arith
refuses false true e = omega arith
refuses false false e = omega arith

-- the answer where the samples are not kept
abbrev pub unkept_answer : ℕ → Night → ℕ
unkept_answer d night = first ((10, day_out d) ∷ (18, periods_out night) ∷ (17, true) ∷ [])

pub unkept_refused : (d : ℕ) (night : Night) → unkept_answer d night ≡ 0 → ⊥
unkept_refused d night = refuses (day_out d) (periods_out night)

module _ (c : Campaign) (d : ℕ) (night : Night) (n : ℕ) (store sums y : List ℤ) where
  abbrev pub refusing : ℕ → Applied × List ℤ × List ℤ
  refusing k = (entered_by (entered c d (verdict.Refused k)), store, sums)

  abbrev pub entering : Applied × List ℤ × List ℤ
  entering = over entered_by (judged_then_filed c d night store sums (take n y))

  -- r is the answer of the program's own checks
  module _ (r : ℕ) (told : r ≡ first (log_enter_checks d night)) where
    pub refused_entry : (r ≡ 0 → ⊥) → entered_outcome c d night n store sums y ≡ refusing r
    unfolding entered_outcome
    refused_entry = refused_with refusing entering (log_enter_checks d night) r told

    pub passed_entry : r ≡ 0 → entered_outcome c d night n store sums y ≡ entering
    unfolding entered_outcome
    passed_entry = accepted_with refusing entering (log_enter_checks d night) r told

  pub unkept_entry : unheld (periods_of night) ≡ true → entered_outcome c d night n store sums y ≡ refusing (unkept_answer d night)
  unkept_entry u = refused_entry (unkept_answer d night) (sym (unheld_refused d night u)) (unkept_refused d night)

  pub kept_entry : unheld (periods_of night) ≡ false → entered_outcome c d night n store sums y ≡ entering
  kept_entry u = passed_entry 0 (sym (held_passes d night u)) refl

-- ---- the count of an open day's samples

-- the most that are held
pub held_short : (P : ℕ) (night : Night) → unheld (periods_of night) ≡ false → night_length P night ≤ 5 * P
held_short P night e =
    let m = periods_of night in
    let few : lead night + m ≤ 5 = omega (arith, lead_most night, ltb-false 4 m (or-false (ltb m 1) (ltb 4 m) e).1) in
    mul-le-mul few (let l : P ≤ P = omega arith in l)

-- where one more may stand it can be counted, whatever number of periods is written
pub count_fits : (N d n m : ℕ) (night : Night) (p : Phase) → p ≡ phase.Open d night n → may_stand p (day_length N) kind_sample ≡ true → m ≡ periods_of night
    → m < 2 ^ 32 → n + 1 < 2 ^ 64
count_fits N d n m night p q may e l =
    let stands : may_stand (phase.Open d night n) (day_length N) kind_sample ≡ true = ap (λ r. may_stand r (day_length N) kind_sample) (sym q) ∙ may in
    let below = ltb-true n (night_length (day_length N) night) stands in
    let few : lead night + periods_of night ≤ 2 ^ 32 = omega (arith, lead_most night, e, l) in
    omega (arith, below, mul-le-mul few (day_short N))
