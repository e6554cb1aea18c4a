-- Document 02, request 8, of runs: where one day stands alone in each of two, or the same days stand in both, and the nights of the second start d places late, its
-- sums are turned by d. An entry that starts late is answered alike. And what a mean is of nights that start unequally late. Assumes nothing.
use mathlib.Core.Path.{◌≡◌, refl, sym, ap, ap₂, subst, ◌∙◌}
use mathlib.Core.Bool.{true, cond, ◌&&◌, and-true}
use mathlib.Core.List.{List, ◌∷◌}
use Prim.Native.Nat.{ℕ, ◌+◌, ◌-◌, ◌*◌, ◌%◌, ◌≤◌, ◌<◌}
use native.Mathlib.Nat.{mod-lt}
use native.Mathlib.Decide.{ℕ_discrete}
use native.Mathlib.Omega.{arith}
use borrow.Author.Tests.{eq-eqb, ne_eqb}
use lib.Dec.{eqb}
use lib.IntN.{ℤ, pos}
use lib.ListN.{length}
use Rattle.sums.specs.Sum.{sum}
use Rattle.sums.specs.Lists.{at}
use Rattle.sums.specs.Turned.{turned, late}
use Rattle.sums.proofs.Sum.{sum_ext, total_ext, sum_only, total_only}
use Rattle.register.specs.Register.{P, wave}
use Rattle.response.specs.Response as formula
use Rattle.response.proofs.Late.{response-late}
use Rattle.response.proofs.Linear.{response_ext}
use Rattle.nights.specs.Nights.{periods_of}
use Rattle.nights.specs.declared.Night.{Night}
use Rattle.nights.proofs.Terms.{settled_long}
use Rattle.nights.proofs.Late.{settled-late, term-late}
use Rattle.records.specs.Record.{standing, periods_standing}
use Rattle.records.specs.declared.Campaign.{Campaign}
use Rattle.records.proofs.Refiling.{Day, day}
use Rattle.campaign.specs.Calls.{settled_of}
use Rattle.campaign.proofs.Late.{entry-late, entered_day, entered_long, state-late}
use Rattle.history.specs.Run.{World, Call, enter, answer, accepted, run, under_way, begun, makes, made, Heard, term_at, heard}
use Rattle.history.proofs.EveryRun.{same_order, holds, sums_are, periods_are, some_day, by_days}
use Rattle.history.proofs.UnderWay.{stays_under_way, same_campaign}
use Rattle.history.proofs.ExactLevels.{levels, measures}
use Rattle.history.proofs.Late.{places, Given, SumsLate}

-- ---- one day stands alone

-- the day stands, and no other day does
pub record Alone (w₀ : World) (cs : List Call) (d : ℕ) : Type 0 where
  pub in_year : Day d
  pub stands : made w₀ cs d ≡ standing
  pub others : (e : ℕ) → Day e → (e ≡ d → ⊥) → made w₀ cs e ≡ standing → ⊥

module _ (w₀ : World) (cs : List Call) (u : under_way w₀ cs ≡ true) (d : ℕ) (a : Alone w₀ cs d) where
  abbrev c : Campaign
  c = (run w₀ cs).campaign

  -- its place in the year
  place : d - 1 < 366
  place = omega (arith, a.in_year.first, a.in_year.last)

  back : d - 1 + 1 ≡ d
  back = omega (arith, a.in_year.first)

  -- of what is taken over the standing days, its own is left
  own : {A : Type 0} (f : ℕ → A) (none : A) → cond (eqb (made w₀ cs (d - 1 + 1)) standing) (f (d - 1 + 1)) none ≡ f d
  own f none = rw (back, eq-eqb (made w₀ cs d) standing a.stands)

  not_own : {A : Type 0} (f : ℕ → A) (none : A) (i : ℕ) → i < 366 → (i ≡ d - 1 → ⊥) → cond (eqb (made w₀ cs (i + 1)) standing) (f (i + 1)) none ≡ none
  not_own f none i l n = rw (ne_eqb (made w₀ cs (i + 1)) standing (a.others (i + 1) (day i l) (λ e. n (omega (arith, e)))))

  alone_sums : (j : ℕ) → j < P c.order → at (run w₀ cs).sums j ≡ term_at (P c.order) (heard w₀ cs d) j
  alone_sums j l =
      let f : ℕ → ℤ = λ e. term_at (P (begun w₀ cs).order) (heard w₀ cs e) j in
      sums_are w₀ cs u j (subst (λ n. j < P n) (same_order w₀ cs u).0 l) ∙ sum_only 366 (d - 1) _ place (not_own f (pos 0)) ∙ own f (pos 0)
      ∙ ap (λ n. term_at (P n) (heard w₀ cs d) j) (sym (same_order w₀ cs u).0)

  alone_periods : periods_standing c ≡ (heard w₀ cs d).periods
  alone_periods =
      periods_are w₀ cs u ∙ total_only 366 (d - 1) _ place (not_own (λ e. (heard w₀ cs e).periods) 0) ∙ own (λ e. (heard w₀ cs e).periods) 0

-- a summary of it gives levels, in as much room as it asks for
pub gives : (w₀ : World) (cs : List Call) → under_way w₀ cs ≡ true → (d : ℕ) → Day d → made w₀ cs d ≡ standing → let w = run w₀ cs in
    (room : List ℤ) (tags : List ℕ) → places w + 1 ≤ length room → places w ≤ length tags → Given w (levels w.campaign w.sums)
gives w₀ cs u d y e room tags long wide =
    let w = run w₀ cs in
    record { room = room; tags = tags; is = measures w.campaign w.store w.sums room tags (holds w₀ cs u) (some_day w₀ cs u d y e) long wide }

-- ---- one night in each of two campaigns

-- what is heard late: as many periods, each turned by d
pub held_late : (p d : ℕ) (h v : Heard) → length h.samples ≡ h.periods * p → v.periods ≡ h.periods → v.samples ≡ late p d h.samples
    → (j : ℕ) → j < p → term_at p v j ≡ turned p d (term_at p h) j
held_late p d h v long m e j l =
    ap₂ (λ n z. sum n (λ i. at z (i * p + j))) m e ∙ term-late p d h.periods h.samples long j l

-- the same order and taps, one day alone in each, as many periods, and at each place of the second's slot what the first's holds d places on
pub record LateBy (d : ℕ) (w₁ w₂ : World) (cs₁ cs₂ : List Call) (day₁ day₂ : ℕ) : Type 0 where
  pub order : (run w₂ cs₂).campaign.order ≡ (run w₁ cs₁).campaign.order
  pub taps : (run w₂ cs₂).campaign.taps ≡ (run w₁ cs₁).campaign.taps
  pub first_alone : Alone w₁ cs₁ day₁
  pub second_alone : Alone w₂ cs₂ day₂
  pub periods : (heard w₂ cs₂ day₂).periods ≡ (heard w₁ cs₁ day₁).periods
  pub held : let p = places (run w₁ cs₁) in (j : ℕ) → j < p → term_at p (heard w₂ cs₂ day₂) j ≡ turned p d (term_at p (heard w₁ cs₁ day₁)) j

module _ (d : ℕ) (w₁ w₂ : World) (cs₁ cs₂ : List Call) (u₁ : under_way w₁ cs₁ ≡ true) (u₂ : under_way w₂ cs₂ ≡ true) where
  pub alone_late : (day₁ day₂ : ℕ) → LateBy d w₁ w₂ cs₁ cs₂ day₁ day₂ → SumsLate d (run w₁ cs₁) (run w₂ cs₂)
  alone_late day₁ day₂ b =
      record {
        order = b.order;
        taps = b.taps;
        periods = alone_periods w₂ cs₂ u₂ day₂ b.second_alone ∙ b.periods ∙ sym (alone_periods w₁ cs₁ u₁ day₁ b.first_alone);
        sums = λ j l.
            alone_sums w₂ cs₂ u₂ day₂ b.second_alone j (subst (λ n. j < P n) (sym b.order) l)
            ∙ ap (λ n. term_at (P n) (heard w₂ cs₂ day₂) j) b.order ∙ b.held j l
            ∙ sym (alone_sums w₁ cs₁ u₁ day₁ b.first_alone ((j + d) % places (run w₁ cs₁)) (mod-lt (j + d) (omega arith)));
      }

-- ---- a night entered where no day stands, and entered late instead

-- in any world the two are answered alike, and make the same of the day: one is kept exactly if the other is
module _ (w : World) (day d : ℕ) (night : Night) (y : List ℤ) where
  pub answer-late : answer w (enter day night (late (P w.campaign.order) d y)) ≡ answer w (enter day night y)
  answer-late = entry-late w.campaign w.store w.sums day night d y

  pub makes-late : answer w (enter day night y) ≡ 0 → makes w (enter day night (late (P w.campaign.order) d y)) ≡ makes w (enter day night y)
  makes-late = state-late w.campaign w.store w.sums day night d y

module _ (w₀ : World) (cs : List Call) (u : under_way w₀ cs ≡ true) (day : ℕ) (night : Night) (y : List ℤ) where
  abbrev now : Campaign
  now = (run w₀ cs).campaign

  -- the recording that starts d places late
  abbrev later : ℕ → List ℤ
  later d = late (P now.order) d y

  abbrev with_entry : List ℤ → List Call
  with_entry z = enter day night z ∷ cs

  still_under_way : (z : List ℤ) → under_way w₀ (with_entry z) ≡ true
  still_under_way z = stays_under_way w₀ (enter day night z) cs u

  same-record : (z : List ℤ) → ((run w₀ (with_entry z)).campaign.order ≡ now.order) × ((run w₀ (with_entry z)).campaign.taps ≡ now.taps)
  same-record z =
      let a = same_order w₀ (with_entry z) (still_under_way z) in
      let b = same_order w₀ cs u in
      let s = same_campaign w₀ (enter day night z) cs refl in
      (a.0 ∙ ap (λ (c : Campaign). c.order) s ∙ sym b.0, a.1 ∙ ap (λ (c : Campaign). c.taps) s ∙ sym b.1)

  -- of an accepted entry, what its day is made and what is heard for it
  module _ (z : List ℤ) (e : answer (run w₀ cs) (enter day night z) ≡ 0) where
    taken : (f : ℕ) → eqb day f && accepted (run w₀ cs) (enter day night z) ≡ eqb day f
    taken f = rw (eq-eqb (answer (run w₀ cs) (enter day night z)) 0 e) (and-true (eqb day f))

    own_day : eqb day day && accepted (run w₀ cs) (enter day night z) ≡ true
    own_day = taken day ∙ eq-eqb day day refl

    made-own : made w₀ (with_entry z) day ≡ makes (run w₀ cs) (enter day night z)
    unfolding made
    made-own = ap (λ b. cond b (makes (run w₀ cs) (enter day night z)) (made w₀ cs day)) own_day

    made_other : (f : ℕ) → (f ≡ day → ⊥) → made w₀ (with_entry z) f ≡ made w₀ cs f
    unfolding made
    made_other f n =
        ap (λ b. cond b (makes (run w₀ cs) (enter day night z)) (made w₀ cs f)) (taken f ∙ ne_eqb day f (λ x. n (sym x)))

    heard-own : heard w₀ (with_entry z) day ≡ record { periods = periods_of night; samples = settled_of now night z }
    unfolding heard
    heard-own = ap (λ b. cond b (record { periods = periods_of night; samples = settled_of now night z }) (heard w₀ cs day)) own_day

    alone : ((f : ℕ) → Day f → made w₀ cs f ≡ standing → ⊥) → makes (run w₀ cs) (enter day night z) ≡ standing → Alone w₀ (with_entry z) day
    alone none k =
        record {
          in_year = entered_day now (run w₀ cs).store (run w₀ cs).sums day night z e;
          stands = made-own ∙ k;
          others = λ f r n h. none f r (sym (made_other f n) ∙ h);
        }

  -- where no day stands, both stand alone
  pub late_by : ((f : ℕ) → Day f → made w₀ cs f ≡ standing → ⊥) → answer (run w₀ cs) (enter day night y) ≡ 0
      → makes (run w₀ cs) (enter day night y) ≡ standing → (d : ℕ) → LateBy d w₀ w₀ (with_entry y) (with_entry (later d)) day day
  late_by none e k d =
      let e' = answer-late (run w₀ cs) day d night y ∙ e in
      record {
        order = (same-record (later d)).0 ∙ sym (same-record y).0;
        taps = (same-record (later d)).1 ∙ sym (same-record y).1;
        first_alone = alone y e none k;
        second_alone = alone (later d) e' none (makes-late (run w₀ cs) day d night y e ∙ k);
        periods = ap (λ (h : Heard). h.periods) (heard-own (later d) e') ∙ sym (ap (λ (h : Heard). h.periods) (heard-own y e));
        held = subst
            (λ n. (j : ℕ) → j < P n → term_at (P n) (heard w₀ (with_entry (later d)) day) j ≡ turned (P n) d (term_at (P n) (heard w₀ (with_entry y) day)) j)
            (sym (same-record y).0) (each e');
      }
    where
      each : answer (run w₀ cs) (enter day night (later d)) ≡ 0 → (j : ℕ) → j < P now.order
          → term_at (P now.order) (heard w₀ (with_entry (later d)) day) j ≡ turned (P now.order) d (term_at (P now.order) (heard w₀ (with_entry y) day)) j
      each e' =
          let long = entered_long now (run w₀ cs).store (run w₀ cs).sums day night y e in
          rw (heard-own (later d) e', heard-own y e)
          (held_late (P now.order) d _ _ (settled_long (P now.order) night y long) refl (settled-late (P now.order) d night y long))

-- ---- more days than one

-- the same order and taps, the same days, and on each that stands as many periods, turned by the same d
pub record AllLate (d : ℕ) (w₁ w₂ : World) (cs₁ cs₂ : List Call) : Type 0 where
  pub order : (begun w₂ cs₂).order ≡ (begun w₁ cs₁).order
  pub taps : (begun w₂ cs₂).taps ≡ (begun w₁ cs₁).taps
  pub days : (e : ℕ) → Day e → made w₂ cs₂ e ≡ made w₁ cs₁ e
  pub periods : (e : ℕ) → Day e → made w₁ cs₁ e ≡ standing → (heard w₂ cs₂ e).periods ≡ (heard w₁ cs₁ e).periods
  pub held : let p = P (begun w₁ cs₁).order in (e : ℕ) → Day e → made w₁ cs₁ e ≡ standing
      → (j : ℕ) → j < p → term_at p (heard w₂ cs₂ e) j ≡ turned p d (term_at p (heard w₁ cs₁ e)) j

-- what counts for the standing days alone
if_standing : {A : Type 0} (q v : ℕ) (f g none : A) → v ≡ q → (q ≡ standing → g ≡ f) → cond (eqb v standing) g none ≡ cond (eqb q standing) f none
if_standing q v f g none e same = elim (ℕ_discrete q standing) [
  | yes s ↦ rw (e, eq-eqb q standing s) (same s)
  | no s ↦ rw (e, ne_eqb q standing s)
]

module _ (d : ℕ) (w₁ w₂ : World) (cs₁ cs₂ : List Call) (u₁ : under_way w₁ cs₁ ≡ true) (u₂ : under_way w₂ cs₂ ≡ true) where
  pub all_late : AllLate d w₁ w₂ cs₁ cs₂ → SumsLate d (run w₁ cs₁) (run w₂ cs₂)
  all_late b =
      record {
        order = (same_order w₂ cs₂ u₂).0 ∙ b.order ∙ sym (same_order w₁ cs₁ u₁).0;
        taps = (same_order w₂ cs₂ u₂).1 ∙ b.taps ∙ sym (same_order w₁ cs₁ u₁).1;
        periods =
            periods_are w₂ cs₂ u₂
            ∙ total_ext 366 (λ i l. if_standing (made w₁ cs₁ (i + 1)) (made w₂ cs₂ (i + 1)) _ _ 0 (b.days (i + 1) (day i l)) (b.periods (i + 1) (day i l)))
            ∙ sym (periods_are w₁ cs₁ u₁);
        sums = subst (λ n. (j : ℕ) → j < P n → at (run w₂ cs₂).sums j ≡ turned (P n) d (at (run w₁ cs₁).sums) j) (sym (same_order w₁ cs₁ u₁).0) each;
      }
    where
      each : (j : ℕ) → j < P (begun w₁ cs₁).order → at (run w₂ cs₂).sums j ≡ turned (P (begun w₁ cs₁).order) d (at (run w₁ cs₁).sums) j
      each j l =
          sums_are w₂ cs₂ u₂ j (subst (λ n. j < P n) (sym b.order) l)
          ∙ ap (λ n. sum 366 (λ i. cond (eqb (made w₂ cs₂ (i + 1)) standing) (term_at (P n) (heard w₂ cs₂ (i + 1)) j) (pos 0))) b.order
          ∙ sum_ext 366 (λ i h. if_standing (made w₁ cs₁ (i + 1)) (made w₂ cs₂ (i + 1)) _ _ (pos 0) (b.days (i + 1) (day i h)) (λ e. b.held (i + 1) (day i h) e j l))
          ∙ sym (sums_are w₁ cs₁ u₁ ((j + d) % P (begun w₁ cs₁).order) (mod-lt (j + d) (omega arith)))

-- each standing day's response in time is turned by its own d, and then they are added
pub nights_late : (w₀ : World) (cs : List Call) → under_way w₀ cs ≡ true → let p = P (begun w₀ cs).order in
    let x = wave (begun w₀ cs).order (begun w₀ cs).taps in
    (behind : ℕ → ℕ) (in_time : ℕ → ℕ → ℤ)
    → ((e : ℕ) → Day e → made w₀ cs e ≡ standing → (j : ℕ) → j < p → term_at p (heard w₀ cs e) j ≡ turned p (behind e) (in_time e) j)
    → (k : ℕ) → k < p → formula.response p x (at (run w₀ cs).sums) k
    ≡ sum 366 (λ i. cond (eqb (made w₀ cs (i + 1)) standing) (turned p (behind (i + 1)) (formula.response p x (in_time (i + 1))) k) (pos 0))
nights_late w₀ cs u behind in_time held k m =
    let p = P (begun w₀ cs).order in
    let x = wave (begun w₀ cs).order (begun w₀ cs).taps in
    by_days w₀ cs u k
    ∙ sum_ext 366 (λ i l. if_standing (made w₀ cs (i + 1)) (made w₀ cs (i + 1)) _ _ (pos 0) refl (λ e.
    response_ext p x (held (i + 1) (day i l) e) k ∙ response-late p x (in_time (i + 1)) (behind (i + 1)) k m))
