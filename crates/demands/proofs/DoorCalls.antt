-- The first demand, of a C caller: each door answers the first check that holds, refused it hands back all that was lent, and it leaves what is lent
-- beyond the lengths that it needs. At a start a short table is among the causes of 6; every other door of a campaign looks at the tables first. And
-- what the doors tell of requests 1, 2, 5, 6 and 7 of document 02. Of request 10 `short_rooms` speaks, for its doors have the calls' own functions. Assumes
-- nothing.
use mathlib.Core.Path.{◌≡◌, refl, sym, ap, ◌∙◌}
use mathlib.Core.Logic.{◌↔◌, ◌⊎◌}
use mathlib.Core.Bool.{Bool, true, false}
use mathlib.Core.List.{List, [], ◌∷◌}
use Prim.Native.Nat.{ℕ, zero, suc, ◌+◌, ◌*◌, ◌≤◌, ◌<◌}
use native.Mathlib.Omega.{arith}
use lib.Dec.{eqb}
use lib.IntN.{ℤ}
use lib.ListN.{length, length-replicate}
use Rattle.sums.specs.Lists.{put}
use Rattle.sums.specs.Refusals.{first, numbers, answered, outcome}
use Rattle.sums.proofs.First.{passes, accepts, exactly}
use Rattle.register.specs.Register.{P}
use Rattle.register.specs.Calls.{order_out, told, shape_checks}
use Rattle.register.proofs.HowShort.{Tells, how_short, how_short_by}
use Rattle.player.specs.Calls.{step_checks}
use Rattle.player.specs.declared.Player.{Player}
use Rattle.samples.specs.Samples.{work_short, cleared_wide}
use Rattle.samples.proofs.Rooms.{work_short_lem}
use Rattle.finding.specs.declared.Finding.{Finding}
use Rattle.finding.specs.declared.Finding.TheVariants as finds
use Rattle.finding.proofs.Exactly.{Found, found_exactly}
use Rattle.nights.specs.Nights.{settled}
use Rattle.nights.specs.declared.Night.{Night}
use Rattle.records.specs.Record.{standing, days_in, apart, fresh}
use Rattle.records.specs.declared.Campaign.{Campaign}
use Rattle.judging.specs.Judging.{found_in, judge_checks, judged_of, judging}
use Rattle.judging.specs.declared.Judgement.{Judgement}
use Rattle.judging.proofs.Judgements.{judge_first, judge_found}
use Rattle.campaign.proofs.Handed.{Handed, file_handed, withdraw_handed}
use Rattle.campaign.specs.Calls.{enter_checks, file_outcome, own, handed, shown_to, file_all, enter_all, verdict_of, state_of, withdraw_checks, verdict_means}
use Rattle.campaign.specs.Calls.{Shown}
use Rattle.campaign.proofs.EntryCases.{accepted_verdict, refusal_shown}
use Rattle.trend.specs.Calls.{answer_short, response_checks, summary_checks}
use Rattle.trend.proofs.Enough.{answer_short_lem}
use Rattle.trend.specs.declared.Tally.{Tally}
use Rattle.trend.specs.declared.Levels.{Levels}
use Rattle.meter.specs.Players.{default_out, default_door, new_out, new_door, stepped_out, step_door, played_out, play_door}
use Rattle.meter.specs.Doors.{tables_short, record_of, behind, start_door_checks, start_door, judged_means, judged_out, judge_door, pair_says, entered_out, file_door, withdrawn_out, withdraw_door, counted_out, counts_door, response_door, summed_out, summary_door}
use Rattle.meter.proofs.Opening.{long, opens, put_backs}
use Rattle.meter.proofs.Showing.{means_number, pair_of, writes_pair, comes_back, no_verdict}
use Rattle.demands.specs.Buffers.{KeepsTail}
use Rattle.demands.proofs.Tails.{same, put_tail, written, file_tails, withdraw_tails, response_tails, summary_tails}
use Rattle.demands.proofs.Handing.{Long, days_long, slots_long, periods_long}
use Rattle.demands.proofs.Demands.{Checked, checked, demand_1}

-- `meter_taps`, `meter_sequence`, `meter_recording`, `meter_predict` and `meter_predict_in_room`, and `meter_legendre_sequence`, `meter_legendre_recording` and
-- `meter_legendre_predict`, have the calls' own outcome functions, of which `demand_1` speaks
pub record DoorRefusals : Type 0 where
  pub default_taps : (N was : ℕ) → Checked (1 ∷ []) ((1, order_out N) ∷ []) (λ (o : ℕ × ℕ). o.0) (λ n. (n, was)) (default_door N was)
  pub new_player : (N taps : ℕ) (was : Player)
      → Checked (1 ∷ 2 ∷ 3 ∷ []) (shape_checks N taps) (λ (o : ℕ × Player). o.0) (λ n. (n, was)) (new_door N taps was)
  pub step : (p : Player) (was : ℤ) → Checked (1 ∷ 2 ∷ 3 ∷ 16 ∷ []) (step_checks p) (λ (o : ℕ × Player × ℤ). o.0) (λ n. (n, p, was)) (step_door p was)
  pub play : (p : Player) (signs : List ℤ)
      → Checked (1 ∷ 2 ∷ 3 ∷ 16 ∷ []) (step_checks p) (λ (o : ℕ × Player × List ℤ). o.0) (λ n. (n, p, signs)) (play_door p signs)
  pub start : (N taps C E : ℕ) (days slots periods : List ℕ) (store sums : List ℤ)
      → Checked (1 ∷ 2 ∷ 3 ∷ 4 ∷ 9 ∷ 24 ∷ 6 ∷ []) (start_door_checks N taps C E days slots periods store sums) (λ (o : ℕ × List ℕ × List ℕ × List ℕ × List ℤ × List ℤ). o.0)
      (λ n. (n, days, slots, periods, store, sums)) (start_door N taps C E days slots periods store sums)
  pub judge : (N taps : ℕ) (night : Night) (y : List ℤ) (state value : ℕ)
      → Checked (1 ∷ 2 ∷ 3 ∷ 4 ∷ 18 ∷ 5 ∷ 7 ∷ []) (judge_checks N taps night y) (λ (o : ℕ × ℕ × ℕ). o.0) (λ n. (n, state, value)) (judge_door N taps night y state value)
  pub file : (N taps C E : ℕ) (days slots periods : List ℕ) (store sums : List ℤ) (d : ℕ) (night : Night) (y : List ℤ) (x : Shown) (state value : ℕ)
      → let c = record_of N taps C E days slots periods in
      Checked (15 ∷ 15 ∷ 10 ∷ 18 ∷ 5 ∷ 7 ∷ 11 ∷ 23 ∷ 12 ∷ []) ((15, tables_short days slots periods) ∷ file_all c store sums d night y (shown_to c night y x))
      (λ (o : ℕ × List ℕ × List ℕ × List ℕ × List ℤ × List ℤ × ℕ × ℕ). o.0) (λ n. (n, days, slots, periods, store, sums, state, value))
      (file_door N taps C E days slots periods store sums d night y x state value)
  pub enter : (N taps C E : ℕ) (days slots periods : List ℕ) (store sums : List ℤ) (d : ℕ) (night : Night) (y : List ℤ) (state value : ℕ)
      → Checked (15 ∷ 15 ∷ 10 ∷ 18 ∷ 5 ∷ 7 ∷ 11 ∷ 12 ∷ []) ((15, tables_short days slots periods) ∷ enter_all (record_of N taps C E days slots periods) store sums d night y)
      (λ (o : ℕ × List ℕ × List ℕ × List ℕ × List ℤ × List ℤ × ℕ × ℕ). o.0) (λ n. (n, days, slots, periods, store, sums, state, value))
      (file_door N taps C E days slots periods store sums d night y own state value)
  pub withdraw : (N taps C E : ℕ) (days slots periods : List ℕ) (store sums : List ℤ) (d : ℕ)
      → Checked (15 ∷ 15 ∷ 10 ∷ 13 ∷ []) ((15, tables_short days slots periods) ∷ withdraw_checks (record_of N taps C E days slots periods) store sums d)
      (λ (o : ℕ × List ℕ × List ℕ × List ℕ × List ℤ × List ℤ). o.0) (λ n. (n, days, slots, periods, store, sums)) (withdraw_door N taps C E days slots periods store sums d)
  pub counts : (N taps C E : ℕ) (days slots periods : List ℕ) (store sums : List ℤ) (was : Tally)
      → Checked (15 ∷ 15 ∷ []) ((15, tables_short days slots periods) ∷ (15, apart (record_of N taps C E days slots periods) store sums) ∷ [])
      (λ (o : ℕ × Tally). o.0) (λ n. (n, was)) (counts_door N taps C E days slots periods store sums was)
  pub response : (N taps C E : ℕ) (days slots periods : List ℕ) (store sums r mean room : List ℤ) (tags : List ℕ)
      → Checked (15 ∷ 15 ∷ 6 ∷ 14 ∷ []) ((15, tables_short days slots periods) ∷ response_checks (record_of N taps C E days slots periods) store sums r mean room tags)
      (λ (o : ℕ × List ℤ × List ℤ × List ℤ × List ℕ). o.0) (λ n. (n, r, mean, room, tags)) (response_door N taps C E days slots periods store sums r mean room tags)
  pub summary : (N taps C E : ℕ) (days slots periods : List ℕ) (store sums room : List ℤ) (tags : List ℕ) (stood : ℕ) (was : Levels)
      → Checked (15 ∷ 15 ∷ 6 ∷ []) ((15, tables_short days slots periods) ∷ summary_checks (record_of N taps C E days slots periods) store sums room tags)
      (λ (o : ℕ × List ℤ × List ℕ × ℕ × Levels). o.0) (λ n. (n, room, tags, stood, was)) (summary_door N taps C E days slots periods store sums room tags stood was)

-- the tables' tails too, beyond 366 days, 64 slots and their 64 periods
pub record DoorTails : Type 0 where
  pub start : (N taps C E : ℕ) (days slots periods : List ℕ) (store sums : List ℤ) → let o = start_door N taps C E days slots periods store sums in
      KeepsTail 366 days o.1 × KeepsTail 64 slots o.2 × KeepsTail 64 periods o.3 × KeepsTail (C * P N) store o.4 × KeepsTail (P N) sums o.5
  pub file : (N taps C E : ℕ) (days slots periods : List ℕ) (store sums : List ℤ) (d : ℕ) (night : Night) (y : List ℤ) (x : Shown) (state value : ℕ)
      → let o = file_door N taps C E days slots periods store sums d night y x state value in
      KeepsTail 366 days o.1 × KeepsTail 64 slots o.2 × KeepsTail 64 periods o.3 × KeepsTail (C * P N) store o.4 × KeepsTail (P N) sums o.5
  pub withdraw : (N taps C E : ℕ) (days slots periods : List ℕ) (store sums : List ℤ) (d : ℕ) → let o = withdraw_door N taps C E days slots periods store sums d in
      KeepsTail 366 days o.1 × KeepsTail 64 slots o.2 × KeepsTail 64 periods o.3 × KeepsTail (C * P N) store o.4 × KeepsTail (P N) sums o.5
  pub response : (N taps C E : ℕ) (days slots periods : List ℕ) (store sums r mean room : List ℤ) (tags : List ℕ)
      → let o = response_door N taps C E days slots periods store sums r mean room tags in
      KeepsTail (P N) r o.1 × KeepsTail (P N) mean o.2 × KeepsTail (P N + 1) room o.3 × KeepsTail (P N) tags o.4
  pub summary : (N taps C E : ℕ) (days slots periods : List ℕ) (store sums room : List ℤ) (tags : List ℕ) (stood : ℕ) (was : Levels)
      → let o = summary_door N taps C E days slots periods store sums room tags stood was in KeepsTail (P N + 1) room o.1 × KeepsTail (P N) tags o.2

-- ---- the checks

-- a call's outcome on its way out
through : {A B : Type 0} {order : List ℕ} {checks : List (ℕ × Bool)} {number : B → ℕ} {back : ℕ → B} {o : B} → Checked order checks number back o
    → (tell : A → ℕ) (kept : ℕ → A) (out : B → A) → ((x : B) → tell (out x) ≡ number x) → ((n : ℕ) → out (back n) ≡ kept n) → Checked order checks tell kept (out o)
through {number = number} {o = o} c tell kept out tells keeps =
    record {
      in_order = c.in_order;
      answer = tells o ∙ c.answer;
      unchanged = λ h. ap out (c.unchanged (λ z. h (tells o ∙ z))) ∙ keeps (number o) ∙ ap kept (sym (tells o));
    }

-- and behind the check of the tables
behind_tables : {A : Type 0} (days slots periods : List ℕ) (order : List ℕ) (checks : List (ℕ × Bool)) (tell : A → ℕ) (kept : ℕ → A) (opened : A)
    → numbers checks ≡ order → ((n : ℕ) → tell (kept n) ≡ n) → ((366 ≤ length days) × (64 ≤ length slots) × (64 ≤ length periods) → Checked order checks tell kept opened)
    → Checked (15 ∷ order) ((15, tables_short days slots periods) ∷ checks) tell kept (behind days slots periods kept opened)
behind_tables days slots periods order checks tell kept opened e told inner = go (tables_short days slots periods) refl
  where
    go : (b : Bool) → tables_short days slots periods ≡ b → Checked (15 ∷ order) ((15, b) ∷ checks) tell kept (outcome ((15, b) ∷ []) kept opened)
    go true h = record { in_order = ap (λ l. 15 ∷ l) e; answer = told 15; unchanged = λ _. ap kept (sym (told 15)) }
    go false h = let c = inner (long days slots periods h) in record { in_order = ap (λ l. 15 ∷ l) e; answer = c.answer; unchanged = c.unchanged }

refusals : DoorRefusals
unfolding start_door file_door withdraw_door counts_door response_door summary_door
refusals =
    let calls = demand_1.0 in
    record {
      default_taps = λ N was. through (calls.default_taps N) _ _ (default_out was) (λ x. refl) (λ n. refl);
      new_player = λ N taps was. through (calls.new_player N taps) _ _ (new_out was) (λ x. refl) (λ n. refl);
      step = λ p was. through (calls.step p) _ _ (stepped_out was) (λ x. refl) (λ n. refl);
      play = λ p signs. through (calls.play p signs) _ _ played_out (λ x. refl) (λ n. refl);
      start = λ N taps C E days slots periods store sums. checked _ _ _ _ _ refl (λ n. refl) refl;
      judge = λ N taps night y state value.
          through (calls.judge N taps night y) _ _ (λ (j : Judgement). judged_out state value j.verdict) (λ j. means_number j.verdict) (λ n. refl);
      file = λ N taps C E days slots periods store sums d night y x state value.
          let c = record_of N taps C E days slots periods in
          behind_tables days slots periods _ _ _ _ _ refl (λ n. refl) (λ l.
          through (calls.file c store sums d night y (shown_to c night y x)) _ _ (entered_out days slots periods state value) (λ o. refl)
          (λ n. put_backs days slots periods l (λ a b e. (n, a, b, e, store, sums, state, value))));
      enter = λ N taps C E days slots periods store sums d night y state value.
          behind_tables days slots periods _ _ _ _ _ refl (λ n. refl) (λ l.
          through (calls.enter (record_of N taps C E days slots periods) store sums d night y) _ _ (entered_out days slots periods state value) (λ x. refl)
          (λ n. put_backs days slots periods l (λ a b e. (n, a, b, e, store, sums, state, value))));
      withdraw = λ N taps C E days slots periods store sums d.
          behind_tables days slots periods _ _ _ _ _ refl (λ n. refl) (λ l.
          through (calls.withdraw (record_of N taps C E days slots periods) store sums d) _ _ (withdrawn_out days slots periods) (λ x. refl)
          (λ n. put_backs days slots periods l (λ a b e. (n, a, b, e, store, sums))));
      counts = λ N taps C E days slots periods store sums was.
          behind_tables days slots periods _ _ _ _ _ refl (λ n. refl) (λ _.
          through (calls.counts (record_of N taps C E days slots periods) store sums) _ _ (counted_out was) (λ x. refl) (λ n. refl));
      response = λ N taps C E days slots periods store sums r mean room tags.
          behind_tables days slots periods _ _ _ _ _ refl (λ n. refl) (λ _. calls.response (record_of N taps C E days slots periods) store sums r mean room tags);
      summary = λ N taps C E days slots periods store sums room tags stood was.
          behind_tables days slots periods _ _ _ _ _ refl (λ n. refl) (λ _.
          through (calls.summary (record_of N taps C E days slots periods) store sums room tags) _ _ (summed_out stood was) (λ x. refl) (λ n. refl));
    }

-- ---- the tails

-- what holds of a short table's refusal and of an open door
behind_either : {A : Type 0} (days slots periods : List ℕ) (kept : ℕ → A) (opened : A) (Q : A → Type 0) → Q (kept 15)
    → ((366 ≤ length days) × (64 ≤ length slots) × (64 ≤ length periods) → Q opened) → Q (behind days slots periods kept opened)
behind_either days slots periods kept opened Q shut wide = go (tables_short days slots periods) refl
  where
    go : (b : Bool) → tables_short days slots periods ≡ b → Q (outcome ((15, b) ∷ []) kept opened)
    go true h = shut
    go false h = wide (long days slots periods h)

module _ (N taps C E : ℕ) (days slots periods : List ℕ) (store sums : List ℤ) where
  abbrev All : List ℕ → List ℕ → List ℕ → List ℤ → List ℤ → Type 0
  All d s p m t = KeepsTail 366 days d × KeepsTail 64 slots s × KeepsTail 64 periods p × KeepsTail (C * P N) store m × KeepsTail (P N) sums t

  all_same : All days slots periods store sums
  all_same = (same refl, same refl, same refl, same refl, same refl)

  -- a record handed back, its tables put over the lent ones
  all_put : (366 ≤ length days) × (64 ≤ length slots) × (64 ≤ length periods) → (c : Campaign) → Handed (record_of N taps C E days slots periods) c → {m t : List ℤ}
      → KeepsTail (C * P N) store m × KeepsTail (P N) sums t → All (put c.days days) (put c.slots slots) (put c.periods periods) m t
  all_put l c h k =
      let wide : Long days slots periods = record { days = l.0; slots = l.1; periods = l.2 } in (
        put_tail c.days days (omega (arith, days_long N taps C E days slots periods wide c h)),
        put_tail c.slots slots (omega (arith, slots_long N taps C E days slots periods wide c h)),
        put_tail c.periods periods (omega (arith, periods_long N taps C E days slots periods wide c h)),
        k.0,
        k.1,
      )

  start_all : let o = start_door N taps C E days slots periods store sums in All o.1 o.2 o.3 o.4 o.5
  unfolding start_door
  start_all = by_answer (first (start_door_checks N taps C E days slots periods store sums))
    where
      by_answer : (n : ℕ) → let o = answered {A = ℕ × List ℕ × List ℕ × List ℕ × List ℤ × List ℤ} n (λ n. (n, days, slots, periods, store, sums)) (0, put (fresh N taps C E).days days, put (fresh N taps C E).slots slots, put (fresh N taps C E).periods periods, cleared_wide (C * P N) store, cleared_wide (P N) sums) in
          All o.1 o.2 o.3 o.4 o.5
      by_answer zero = (
        put_tail (fresh N taps C E).days days (omega (arith, length-replicate {A = ℕ} 366 0)),
        put_tail (fresh N taps C E).slots slots (omega (arith, length-replicate {A = ℕ} 64 0)),
        put_tail (fresh N taps C E).periods periods (omega (arith, length-replicate {A = ℕ} 64 0)),
        written _ _ _,
        written _ _ _,
      )
      by_answer (suc n) = all_same

tails : DoorTails
unfolding file_door withdraw_door response_door summary_door
tails =
    record {
      start = start_all;
      file = λ N taps C E days slots periods store sums d night y x state value.
          let c = record_of N taps C E days slots periods in
          behind_either days slots periods (λ n. (n, days, slots, periods, store, sums, state, value)) _
          (λ (o : ℕ × List ℕ × List ℕ × List ℕ × List ℤ × List ℤ × ℕ × ℕ). All N taps C E days slots periods store sums o.1 o.2 o.3 o.4 o.5)
          (all_same N taps C E days slots periods store sums)
          (λ l. all_put N taps C E days slots periods store sums l _ (file_handed c store sums d night y (shown_to c night y x)) (file_tails c store sums d night y (shown_to c night y x)));
      withdraw = λ N taps C E days slots periods store sums d.
          behind_either days slots periods (λ n. (n, days, slots, periods, store, sums)) _
          (λ (o : ℕ × List ℕ × List ℕ × List ℕ × List ℤ × List ℤ). All N taps C E days slots periods store sums o.1 o.2 o.3 o.4 o.5)
          (all_same N taps C E days slots periods store sums)
          (λ l. all_put N taps C E days slots periods store sums l _ (withdraw_handed (record_of N taps C E days slots periods) store sums d) (withdraw_tails (record_of N taps C E days slots periods) store sums d));
      response = λ N taps C E days slots periods store sums r mean room tags.
          behind_either days slots periods (λ n. (n, r, mean, room, tags)) _
          (λ (o : ℕ × List ℤ × List ℤ × List ℤ × List ℕ). KeepsTail (P N) r o.1 × KeepsTail (P N) mean o.2 × KeepsTail (P N + 1) room o.3 × KeepsTail (P N) tags o.4)
          (same refl, same refl, same refl, same refl) (λ _. response_tails (record_of N taps C E days slots periods) store sums r mean room tags);
      summary = λ N taps C E days slots periods store sums room tags stood was.
          behind_either days slots periods (λ n. (n, room, tags, stood, was)) _
          (λ (o : ℕ × List ℤ × List ℕ × ℕ × Levels). KeepsTail (P N + 1) room o.1 × KeepsTail (P N) tags o.2)
          (same refl, same refl) (λ _. summary_tails (record_of N taps C E days slots periods) store sums room tags);
    }

pub door_demand_1 : DoorRefusals × DoorTails
door_demand_1 = (refusals, tails)

-- the period that a start and judging tell in C's own number for it; the other doors tell theirs as `how_short` says
pub start_how_short : (N taps C E was : ℕ) (days slots periods : List ℕ) (store sums : List ℤ) → let n = (start_door N taps C E days slots periods store sums).0 in
    Tells N taps n (told N taps n was) was
unfolding start_door
start_how_short N taps C E was days slots periods store sums =
    how_short_by N taps (start_door_checks N taps C E days slots periods store sums) refl (λ (o : ℕ × List ℕ × List ℕ × List ℕ × List ℤ × List ℤ). o.0) _ _ (λ n. refl) refl refl tt was

pub judge_how_short : (N taps was : ℕ) (night : Night) (y : List ℤ) (state value : ℕ) → let n = (judge_door N taps night y state value).0 in Tells N taps n (told N taps n was) was
judge_how_short N taps was night y state value =
    rw (refusals.judge N taps night y state value).answer (how_short N taps (judge_checks N taps night y) refl tt was)

-- 6 exactly where the tables are long enough, the record holds together, and something lent is shorter than it needs; of `meter_recording` `Rooms` says it, and of
-- each `meter_legendre_…` `ShortRooms`
pub record DoorRooms : Type 0 where
  pub response : (N taps C E : ℕ) (days slots periods : List ℕ) (store sums r mean room : List ℤ) (tags : List ℕ)
      → ((response_door N taps C E days slots periods store sums r mean room tags).0 ≡ 6)
      ↔ ((first ((15, tables_short days slots periods) ∷ (15, apart (record_of N taps C E days slots periods) store sums) ∷ []) ≡ 0)
      × ((length r < P N) ⊎ (length mean < P N) ⊎ (length room < P N + 1) ⊎ (length tags < P N)))
  pub summary : (N taps C E : ℕ) (days slots periods : List ℕ) (store sums room : List ℤ) (tags : List ℕ) (stood : ℕ) (was : Levels)
      → ((summary_door N taps C E days slots periods store sums room tags stood was).0 ≡ 6)
      ↔ ((first ((15, tables_short days slots periods) ∷ (15, apart (record_of N taps C E days slots periods) store sums) ∷ []) ≡ 0)
      × ((length room < P N + 1) ⊎ (length tags < P N)))

pub door_six : DoorRooms
door_six =
    record {
      response = λ N taps C E days slots periods store sums r mean room tags.
          let c = record_of N taps C E days slots periods in
          exactly _ 6 ((15, tables_short days slots periods) ∷ (15, apart c store sums) ∷ []) (answer_short (P N) (length r) (length mean) (length room) (length tags))
          ((14, eqb (days_in c standing) 0) ∷ []) (refusals.response N taps C E days slots periods store sums r mean room tags).answer tt tt tt
          (answer_short_lem (P N) (length r) (length mean) (length room) (length tags));
      summary = λ N taps C E days slots periods store sums room tags stood was.
          exactly _ 6 ((15, tables_short days slots periods) ∷ (15, apart (record_of N taps C E days slots periods) store sums) ∷ []) (work_short (P N) (length room) (length tags)) []
          (refusals.summary N taps C E days slots periods store sums room tags stood was).answer tt tt tt (work_short_lem (P N) (length room) (length tags));
    }

-- an accepted filing writes the state that goes with what the samples after the run-in are: dead where no sample is at a rail and no two are more than 7 apart
pub door_verdict : (N taps C E : ℕ) (days slots periods : List ℕ) (store sums : List ℤ) (d : ℕ) (night : Night) (y : List ℤ) (x : Shown) (state value : ℕ) (f : Finding)
    → Found (settled (P N) night y) f → let o = file_door N taps C E days slots periods store sums d night y x state value in o.0 ≡ 0 → o.6 ≡ state_of f
unfolding file_door
door_verdict N taps C E days slots periods store sums d night y x state value f h =
    behind_either days slots periods (λ n. (n, days, slots, periods, store, sums, state, value)) _
    (λ (o : ℕ × List ℕ × List ℕ × List ℕ × List ℤ × List ℤ × ℕ × ℕ). o.0 ≡ 0 → o.6 ≡ state_of f) (λ z. absurd (omega arith))
    (λ _ z.
    ap (λ v. ((verdict_means v).1 (state, value)).0) (accepted_verdict mine store sums d night y (shown_to mine night y x) z ∙ ap (verdict_of mine) ((found_exactly (settled (P N) night y) f).1 h)) ∙ gives f)
  where
    mine : Campaign
    mine = record_of N taps C E days slots periods

    gives : (g : Finding) → ((verdict_means (verdict_of (record_of N taps C E days slots periods) g)).1 (state, value)).0 ≡ state_of g
    gives (finds.Overloaded p) = refl
    gives finds.Dead = refl
    gives finds.Kept = refl

-- ---- a verdict that is shown and comes back. `pair_of f` is the pair of state and value for the finding f: (2, place), (3, 0), and (1, 0), which has no slot

pub record DoorJudgements : Type 0 where
  -- an accepted judgement writes the pair of what the samples after the run-in are
  pub shown : (N taps : ℕ) (night : Night) (y : List ℤ) (state value : ℕ) (f : Finding) → Found (settled (P N) night y) f
      → let o = judge_door N taps night y state value in o.0 ≡ 0 → ◌≡◌ {A = ℕ × ℕ} (o.1, o.2) (pair_of f)
  -- handed to filing as it was written, it is filed as an entry is
  pub then_filed : (N taps C E : ℕ) (days slots periods : List ℕ) (store sums : List ℤ) (d : ℕ) (night : Night) (y : List ℤ) (state value q v : ℕ)
      → let j = judge_door N taps night y q v in j.0 ≡ 0
      → file_door N taps C E days slots periods store sums d night y (handed (pair_says j.1 j.2)) state value
      ≡ file_door N taps C E days slots periods store sums d night y own state value
  -- a pair that is no verdict is 23, and all that was lent is as it was
  pub no_verdict : (N taps C E : ℕ) (days slots periods : List ℕ) (store sums : List ℤ) (d : ℕ) (night : Night) (y : List ℤ) (state value q v : ℕ)
      → ((f : Finding) → pair_of f ≡ (q, v) → ⊥)
      → first ((15, tables_short days slots periods) ∷ enter_checks (record_of N taps C E days slots periods) store sums d night y) ≡ 0
      → file_door N taps C E days slots periods store sums d night y (handed (pair_says q v)) state value ≡ (23, days, slots, periods, store, sums, state, value)

pub door_judge_first : DoorJudgements
unfolding file_door
door_judge_first =
    record {
      shown = λ N taps night y state value f h z.
          ap (λ x. (judged_means x).1 (state, value)) (found-is N taps night y state value z ∙ ap judged_of ((found_exactly (settled (P N) night y) f).1 h)) ∙ writes_pair f (state, value);
      then_filed = λ N taps C E days slots periods store sums d night y state value q v z.
          let c = record_of N taps C E days slots periods in
          let e = found-is N taps night y q v z in
          ap (λ x. behind days slots periods (λ n. (n, days, slots, periods, store, sums, state, value)) (entered_out days slots periods state value (file_outcome c store sums d night y x)))
          (ap (λ (o : ℕ × ℕ). pair_says o.0 o.1) (ap (λ x. (judged_means x).1 (q, v)) e ∙ writes_pair (found_in N night y) (q, v)) ∙ comes_back (found_in N night y) ∙ sym e);
      no_verdict = λ N taps C E days slots periods store sums d night y state value q v none z.
          let c = record_of N taps C E days slots periods in
          let p = passes ((15, tables_short days slots periods) ∷ enter_checks c store sums d night y) tt z in
          let e = refusal_shown c store sums d night y 23 (accepts (enter_checks c store sums d night y) p.1) in
          let l = long days slots periods p.0 in
          sym (opens days slots periods _ _ p.0)
          ∙ ap (λ x. entered_out days slots periods state value (file_outcome c store sums d night y x)) (no_verdict q v none)
          ∙ ap (entered_out days slots periods state value) e
          ∙ put_backs days slots periods l (λ a b m. (23, a, b, m, store, sums, state, value));
    }
  where
    found-is : (N taps : ℕ) (night : Night) (y : List ℤ) (state value : ℕ) → (judge_door N taps night y state value).0 ≡ 0 → judging N taps night y ≡ judged_of (found_in N night y)
    found-is N taps night y state value z = judge_found N taps night y (sym (judge_first N taps night y) ∙ sym (means_number (judging N taps night y)) ∙ z)
