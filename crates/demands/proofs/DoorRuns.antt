-- The third demand, of a C caller: a sequence of door calls on the same lent tables and memory is a run of the library's calls, world and answers.
-- Assumes nothing.
use mathlib.Core.Path.{◌≡◌, refl, sym, ap, subst, ◌∙◌}
use mathlib.Core.Bool.{false}
use mathlib.Core.List.{List, [], ◌∷◌, ◌++◌}
use Prim.Native.Nat.{ℕ, zero, suc, ◌*◌}
use borrow.Author.Tests.{le-ltb}
use lib.IntN.{ℤ}
use lib.ListN.{length, length-replicate}
use lib.Seq.{length-take-le}
use Rattle.sums.specs.Lists.{put}
use Rattle.sums.specs.Refusals.{first, answered}
use Rattle.register.specs.Register.{P}
use Rattle.register.specs.Calls.{answer_of}
use Rattle.samples.specs.Samples.{cleared_wide}
use Rattle.nights.specs.declared.Night.{Night}
use Rattle.judging.specs.Judging.{judging}
use Rattle.records.specs.Record.{fresh}
use Rattle.records.specs.declared.Campaign.{Campaign}
use Rattle.campaign.proofs.Handed.{Handed, file_handed, withdraw_handed}
use Rattle.campaign.specs.Calls.{start_checks, start_outcome, file_outcome, shown_to, withdraw_outcome}
use Rattle.campaign.specs.Calls.{Shown}
use Rattle.campaign.specs.Calls.{Started}
use Rattle.trend.specs.Calls.{response_outcome, summary_outcome, counts_outcome}
use Rattle.trend.specs.declared.Tally.{Tally}
use Rattle.trend.specs.declared.Levels.{Levels}
use Rattle.history.specs.Run.{World, after, answer, run}
use Rattle.meter.specs.Doors.{tables_short, record_of, entered_out, withdrawn_out, counted_out, summed_out, start_door, file_door, withdraw_door, counts_door, response_door, summary_door}
use Rattle.meter.proofs.Opening.{opens}
use Rattle.meter.proofs.Showing.{means_number}
use Rattle.meter.proofs.Starting.{long_checks, started_long}
use Rattle.demands.specs.Caller.{Lent, DoorCall, start, judge, file, withdraw, counts, response, summary, begins, holds, door_after, door_answer, door_run, world_of, behind_door, behind_doors}
use Rattle.demands.proofs.Handing.{Long, back_in, still_long}
use Rattle.demands.proofs.Demands.{Said, demand_3}

-- ---- one call

-- the caller's world and the door's answer are those of the call behind it, and the tables stay long
abbrev Follows : Lent → DoorCall → Type 0
Follows l c =
    (world_of (door_after l c) ≡ after (world_of l) (behind_door c))
    × (door_answer l c ≡ answer (world_of l) (behind_door c))
    × Long (door_after l c).days (door_after l c).slots (door_after l c).periods

abbrev world_with : Campaign → List ℤ → List ℤ → World
world_with c store sums = record { campaign = c; store = store; sums = sums }

module _ (l : Lent) (t : Long l.days l.slots l.periods) where
  open_tables : tables_short l.days l.slots l.periods ≡ false
  open_tables = simp (le-ltb (length l.days) 366 t.days, le-ltb (length l.slots) 64 t.slots, le-ltb (length l.periods) 64 t.periods)

  abbrev mine : Campaign
  mine = record_of l.order l.taps l.capacity l.edition l.days l.slots l.periods

  file_opened : (d : ℕ) (night : Night) (y : List ℤ) (x : Shown) (state value : ℕ)
      → file_door l.order l.taps l.capacity l.edition l.days l.slots l.periods l.store l.sums d night y x state value
      ≡ entered_out l.days l.slots l.periods state value (file_outcome mine l.store l.sums d night y (shown_to mine night y x))
  unfolding file_door
  file_opened d night y x state value = sym (opens l.days l.slots l.periods _ _ open_tables)

  withdraw_opened : (d : ℕ) → withdraw_door l.order l.taps l.capacity l.edition l.days l.slots l.periods l.store l.sums d
      ≡ withdrawn_out l.days l.slots l.periods (withdraw_outcome mine l.store l.sums d)
  unfolding withdraw_door
  withdraw_opened d = sym (opens l.days l.slots l.periods _ _ open_tables)

  follows_file : (d : ℕ) (night : Night) (y : List ℤ) (x : Shown) (state value : ℕ) → Follows l (file d night y x state value)
  follows_file d night y x state value =
      let v = shown_to mine night y x in
      let o = file_outcome mine l.store l.sums d night y v in
      let h = file_handed mine l.store l.sums d night y v in
      let e = file_opened d night y x state value in (
        ap (λ (x : ℕ × List ℕ × List ℕ × List ℕ × List ℤ × List ℤ × ℕ × ℕ). world_of (holds l x.1 x.2 x.3 x.4 x.5)) e
            ∙ ap (λ c. world_with c o.1 o.2) (back_in l.order l.taps l.capacity l.edition l.days l.slots l.periods t o.0.campaign h),
        ap (λ (x : ℕ × List ℕ × List ℕ × List ℕ × List ℤ × List ℤ × ℕ × ℕ). x.0) e,
        subst (λ (x : ℕ × List ℕ × List ℕ × List ℕ × List ℤ × List ℤ × ℕ × ℕ). Long x.1 x.2 x.3) (sym e) (still_long l.order l.taps l.capacity l.edition l.days l.slots l.periods t o.0.campaign h),
      )

  follows_withdraw : (d : ℕ) → Follows l (withdraw d)
  follows_withdraw d =
      let o = withdraw_outcome mine l.store l.sums d in
      let h = withdraw_handed mine l.store l.sums d in
      let e = withdraw_opened d in (
        ap (λ (x : ℕ × List ℕ × List ℕ × List ℕ × List ℤ × List ℤ). world_of (holds l x.1 x.2 x.3 x.4 x.5)) e
            ∙ ap (λ c. world_with c o.1 o.2) (back_in l.order l.taps l.capacity l.edition l.days l.slots l.periods t o.0.campaign h),
        ap (λ (x : ℕ × List ℕ × List ℕ × List ℕ × List ℤ × List ℤ). x.0) e,
        subst (λ (x : ℕ × List ℕ × List ℕ × List ℕ × List ℤ × List ℤ). Long x.1 x.2 x.3) (sym e) (still_long l.order l.taps l.capacity l.edition l.days l.slots l.periods t o.0.campaign h),
      )

  -- a start: refused, the caller goes on with the numbers that it has; accepted, with those that it gave
  module _ (N taps C E : ℕ) where
    fresh-handed : Handed (record_of N taps C E l.days l.slots l.periods) (fresh N taps C E)
    fresh-handed =
        record {
          order = refl;
          taps = refl;
          capacity = refl;
          edition = refl;
          days = length-replicate {A = ℕ} 366 0 ∙ sym (length-take-le 366 l.days t.days);
          slots = length-replicate {A = ℕ} 64 0 ∙ sym (length-take-le 64 l.slots t.slots);
          periods = length-replicate {A = ℕ} 64 0 ∙ sym (length-take-le 64 l.periods t.periods);
        }

    abbrev kept : ℕ → ℕ × List ℕ × List ℕ × List ℕ × List ℤ × List ℤ
    kept n = (n, l.days, l.slots, l.periods, l.store, l.sums)

    abbrev made : ℕ × List ℕ × List ℕ × List ℕ × List ℤ × List ℤ
    made = (0, put (fresh N taps C E).days l.days, put (fresh N taps C E).slots l.slots, put (fresh N taps C E).periods l.periods, cleared_wide (C * P N) l.store, cleared_wide (P N) l.sums)

    start_opened : start_door N taps C E l.days l.slots l.periods l.store l.sums ≡ answered (first (start_checks N taps C E l.store l.sums)) kept made
    unfolding start_door
    start_opened = ap (λ n. answered n kept made) (long_checks N taps C E l.days l.slots l.periods l.store l.sums open_tables)

    by_answer : (n : ℕ) → let o = answered n kept made in
        let k = answered {A = Started × List ℤ × List ℤ} n (λ n. (record { answer = answer_of N taps n; campaign = mine }, l.store, l.sums)) (record { answer = answer_of N taps 0; campaign = fresh N taps C E }, cleared_wide (C * P N) l.store, cleared_wide (P N) l.sums) in
        (world_of (begins l N taps C E o) ≡ world_with k.0.campaign k.1 k.2) × (o.0 ≡ k.0.answer.number) × Long o.1 o.2 o.3
    by_answer zero = (
      ap (λ c. world_with c (cleared_wide (C * P N) l.store) (cleared_wide (P N) l.sums)) (back_in N taps C E l.days l.slots l.periods t (fresh N taps C E) fresh-handed),
      refl,
      still_long N taps C E l.days l.slots l.periods t (fresh N taps C E) fresh-handed,
    )
    by_answer (suc n) = (refl, refl, t)

    follows_start : Follows l (start N taps C E)
    unfolding start_outcome
    follows_start =
        let b = by_answer (first (start_checks N taps C E l.store l.sums)) in (
          ap (λ (x : ℕ × List ℕ × List ℕ × List ℕ × List ℤ × List ℤ). world_of (begins l N taps C E x)) start_opened ∙ b.0,
          ap (λ (x : ℕ × List ℕ × List ℕ × List ℕ × List ℤ × List ℤ). x.0) start_opened ∙ b.1,
          subst (λ (x : ℕ × List ℕ × List ℕ × List ℕ × List ℤ × List ℤ). Long x.1 x.2 x.3) (sym start_opened) b.2,
        )

  -- the calls that only ask
  counts_opened : (was : Tally) → counts_door l.order l.taps l.capacity l.edition l.days l.slots l.periods l.store l.sums was
      ≡ counted_out was (counts_outcome mine l.store l.sums)
  unfolding counts_door
  counts_opened was = sym (opens l.days l.slots l.periods _ _ open_tables)

  response_opened : (r mean room : List ℤ) (tags : List ℕ)
      → response_door l.order l.taps l.capacity l.edition l.days l.slots l.periods l.store l.sums r mean room tags
      ≡ response_outcome mine l.store l.sums r mean room tags
  unfolding response_door
  response_opened r mean room tags = sym (opens l.days l.slots l.periods _ _ open_tables)

  summary_opened : (room : List ℤ) (tags : List ℕ) (stood : ℕ) (was : Levels)
      → summary_door l.order l.taps l.capacity l.edition l.days l.slots l.periods l.store l.sums room tags stood was
      ≡ summed_out stood was (summary_outcome mine l.store l.sums room tags)
  unfolding summary_door
  summary_opened room tags stood was = sym (opens l.days l.slots l.periods _ _ open_tables)

  follows : (c : DoorCall) → Follows l c
  follows (start N taps C E) = follows_start N taps C E
  follows (judge N taps night y state value) = (refl, means_number (judging N taps night y), t)
  follows (file d night y x state value) = follows_file d night y x state value
  follows (withdraw d) = follows_withdraw d
  follows (counts was) = (refl, ap (λ (o : ℕ × Tally). o.0) (counts_opened was), t)
  follows (response r mean room tags) = (refl, ap (λ (o : ℕ × List ℤ × List ℤ × List ℤ × List ℕ). o.0) (response_opened r mean room tags), t)
  follows (summary room tags stood was) = (refl, ap (λ (o : ℕ × List ℤ × List ℕ × ℕ × Levels). o.0) (summary_opened room tags stood was), t)

-- ---- every sequence of door calls

-- what the caller holds after it is the world after the run, and the next door answers as the call does
pub record AsRun (l : Lent) (cs : List DoorCall) : Type 0 where
  pub world : world_of (door_run l cs) ≡ run (world_of l) (behind_doors cs)
  pub says : (c : DoorCall) → door_answer (door_run l cs) c ≡ answer (run (world_of l) (behind_doors cs)) (behind_door c)
  pub tables : Long (door_run l cs).days (door_run l cs).slots (door_run l cs).periods

pub as_run : (l : Lent) → Long l.days l.slots l.periods → (cs : List DoorCall) → AsRun l cs
unfolding door_run run behind_doors
as_run l t [] = record { world = refl; says = λ c. (follows l t c).1; tables = t }
as_run l t (c ∷ cs) =
    let s = as_run l t cs in
    let f = follows (door_run l cs) s.tables c in
    let e : world_of (door_after (door_run l cs) c) ≡ after (run (world_of l) (behind_doors cs)) (behind_door c) = f.0 ∙ ap (λ w. after w (behind_door c)) s.world in
    record {
      world = e;
      says = λ k. (follows (door_after (door_run l cs) c) f.2 k).1 ∙ ap (λ w. answer w (behind_door k)) e;
      tables = f.2;
    }

-- the third demand, of a C caller: from a door's start that answered 0, whatever tables and memory it lends, what it then holds
pub record DoorSaid (l : Lent) (cs : List DoorCall) : Type 0 where
  pub as_run : AsRun l cs
  pub said : Said (world_of l) (behind_doors cs) (world_of (door_run l cs))
  pub no_fifteen : (c : DoorCall) → door_answer (door_run l cs) c ≡ 15 → ⊥
  -- the doors that only ask answer as the calls do
  pub counts : (was : Tally) → let h = door_run l cs in let w = world_of h in
      counts_door h.order h.taps h.capacity h.edition h.days h.slots h.periods h.store h.sums was
      ≡ counted_out was (counts_outcome w.campaign w.store w.sums)
  pub response : (r mean room : List ℤ) (tags : List ℕ) → let h = door_run l cs in let w = world_of h in
      response_door h.order h.taps h.capacity h.edition h.days h.slots h.periods h.store h.sums r mean room tags
      ≡ response_outcome w.campaign w.store w.sums r mean room tags
  pub summary : (room : List ℤ) (tags : List ℕ) (stood : ℕ) (was : Levels) → let h = door_run l cs in let w = world_of h in
      summary_door h.order h.taps h.capacity h.edition h.days h.slots h.periods h.store h.sums room tags stood was
      ≡ summed_out stood was (summary_outcome w.campaign w.store w.sums room tags)

appended : (cs before : List DoorCall) → behind_doors (cs ++ before) ≡ behind_doors cs ++ behind_doors before
unfolding behind_doors
appended [] before = refl
appended (c ∷ cs) before = ap (λ t. behind_door c ∷ t) (appended cs before)

pub door_demand_3 : (l : Lent) (N taps C E : ℕ) → (start_door N taps C E l.days l.slots l.periods l.store l.sums).0 ≡ 0
    → (cs : List DoorCall) → DoorSaid l (cs ++ start N taps C E ∷ [])
unfolding behind_doors
door_demand_3 l N taps C E e cs =
    record {
      as_run = s;
      said = d;
      no_fifteen = λ c h. d.no_fifteen (behind_door c) (sym (follows (door_run l all) s.tables c).1 ∙ h);
      counts = counts_opened (door_run l all) s.tables;
      response = response_opened (door_run l all) s.tables;
      summary = summary_opened (door_run l all) s.tables;
    }
  where
    all : List DoorCall
    all = cs ++ start N taps C E ∷ []

    long : Long l.days l.slots l.periods
    long = let h = started_long N taps C E l.days l.slots l.periods l.store l.sums e in record { days = h.0; slots = h.1; periods = h.2 }

    s : AsRun l (cs ++ start N taps C E ∷ [])
    s = as_run l long (cs ++ start N taps C E ∷ [])

    d : Said (world_of l) (behind_doors (cs ++ start N taps C E ∷ [])) (world_of (door_run l (cs ++ start N taps C E ∷ [])))
    d =
        rw (s.world, appended cs (start N taps C E ∷ []))
        (demand_3 (world_of l) N taps C E (sym (follows l long (start N taps C E)).1 ∙ e) (behind_doors cs))
