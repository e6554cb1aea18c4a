-- Document 02, request 7: a response gets by on r and a mean of P places each, P+1 wide numbers and P tags, whatever the order, and a summary on that
-- working room; each is refused with 6 exactly below that. Assumes nothing.
use mathlib.Core.Path.{◌≡◌, refl}
use mathlib.Core.Logic.{◌↔◌, ◌⊎◌}
use mathlib.Core.Bool.{Bool, true, false}
use mathlib.Core.List.{List, [], ◌∷◌}
use Prim.Native.Nat.{ℕ, ◌+◌, ◌≤◌, ◌<◌}
use borrow.Author.Tests.{ltb-false, le-ltb}
use lib.Dec.{eqb, ltb}
use lib.IntN.{ℤ}
use lib.ListN.{length}
use Rattle.sums.specs.Refusals.{first}
use Rattle.sums.proofs.First.{or-false, or_exactly, ltb_exactly, exactly, passed_over, either_0, answers_first}
use Rattle.register.specs.Register.{P}
use Rattle.samples.specs.Samples.{work_short, room_short}
use Rattle.samples.proofs.Rooms.{work_short_lem, work_enough, room_short_lem, room_long, room_enough}
use Rattle.records.specs.Record.{standing, days_in, apart}
use Rattle.records.specs.declared.Campaign.{Campaign}
use Rattle.trend.specs.Calls.{answer_short, response_checks, response_outcome, summary_checks, summary_outcome, summary_number}
use Rattle.trend.specs.declared.Summary.{Summary}

-- ---- by the lengths

module _ (P r mean room tags : ℕ) where
  pub answer_short_lem : (answer_short P r mean room tags ≡ true) ↔ ((r < P) ⊎ (mean < P) ⊎ (room < P + 1) ⊎ (tags < P))
  answer_short_lem = or_exactly (ltb r P) (room_short P mean room tags) (ltb_exactly r P) (room_short_lem P room tags mean)

  pub answer_long : answer_short P r mean room tags ≡ false → (P ≤ r) × (P ≤ mean) × (P < room) × (P ≤ tags)
  answer_long h =
      let w = or-false (ltb r P) (room_short P mean room tags) h in
      let l = room_long P room tags mean w.1 in
      (ltb-false r P w.0, l.0, l.1, l.2)

  pub answer_enough : P ≤ r → P ≤ mean → P + 1 ≤ room → P ≤ tags → answer_short P r mean room tags ≡ false
  answer_enough a m w t = simp (le-ltb r P a, room_enough P room tags mean m w t)

-- ---- a response

module _ (c : Campaign) (store sums r mean room : List ℤ) (tags : List ℕ) where
  abbrev short : Bool
  short = answer_short (P c.order) (length r) (length mean) (length room) (length tags)

  response-told : (response_outcome c store sums r mean room tags).0 ≡ first (response_checks c store sums r mean room tags)
  unfolding response_outcome
  response-told =
      answers_first (response_checks c store sums r mean room tags) (λ (o : ℕ × List ℤ × List ℤ × List ℤ × List ℕ). o.0) _ _ (λ n. refl) refl

  pub response_six_exactly : let p = P c.order in ((response_outcome c store sums r mean room tags).0 ≡ 6)
      ↔ ((first ((15, apart c store sums) ∷ []) ≡ 0) × ((length r < p) ⊎ (length mean < p) ⊎ (length room < p + 1) ⊎ (length tags < p)))
  response_six_exactly =
      exactly _ 6 ((15, apart c store sums) ∷ []) short ((14, eqb (days_in c standing) 0) ∷ []) response-told tt tt tt
      (answer_short_lem (P c.order) (length r) (length mean) (length room) (length tags))

  -- lent enough, it answers what its other checks say, and so never 6
  pub response_enough : let p = P c.order in p ≤ length r → p ≤ length mean → p + 1 ≤ length room → p ≤ length tags
      → let n = (response_outcome c store sums r mean room tags).0 in
      (n ≡ 6 → ⊥) × (n ≡ first ((15, apart c store sums) ∷ (14, eqb (days_in c standing) 0) ∷ []))
  response_enough a m w t =
      passed_over _ 6 ((15, apart c store sums) ∷ []) short ((14, eqb (days_in c standing) 0) ∷ []) response-told tt
      (answer_enough (P c.order) (length r) (length mean) (length room) (length tags) a m w t)

-- ---- a summary

module _ (c : Campaign) (store sums room : List ℤ) (tags : List ℕ) where
  abbrev number : Summary × List ℤ × List ℕ → ℕ
  number o = summary_number o.0

  abbrev work : Bool
  work = work_short (P c.order) (length room) (length tags)

  summary_told : number (summary_outcome c store sums room tags) ≡ first (summary_checks c store sums room tags)
  unfolding summary_outcome
  summary_told =
      answers_first (summary_checks c store sums room tags) number _ _ (λ n. refl) (either_0 number (eqb (days_in c standing) 0) _ _ refl refl)

  pub summary_six_exactly : let p = P c.order in (summary_number (summary_outcome c store sums room tags).0 ≡ 6)
      ↔ ((first ((15, apart c store sums) ∷ []) ≡ 0) × ((length room < p + 1) ⊎ (length tags < p)))
  summary_six_exactly =
      exactly _ 6 ((15, apart c store sums) ∷ []) work [] summary_told tt tt tt (work_short_lem (P c.order) (length room) (length tags))

  pub summary_enough : let p = P c.order in p + 1 ≤ length room → p ≤ length tags → let n = summary_number (summary_outcome c store sums room tags).0 in
      (n ≡ 6 → ⊥) × (n ≡ first ((15, apart c store sums) ∷ []))
  summary_enough w t =
      passed_over _ 6 ((15, apart c store sums) ∷ []) work [] summary_told tt (work_enough (P c.order) (length room) (length tags) w t)
