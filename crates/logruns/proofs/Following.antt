-- After any number of turns the record and the memory are what the log's calls made of them, in a run in which a start was accepted; and the
-- room lent to a response is long enough. Assumes nothing.
use mathlib.Core.Path.{◌≡◌, refl, sym, ap, subst, ◌∙◌}
use mathlib.Core.Bool.{Bool, true, false, cond}
use mathlib.Core.List.{List, [], ◌∷◌, ◌++◌}
use Prim.Native.Nat.{ℕ, zero, suc, ◌+◌, ◌≤◌}
use native.Mathlib.Omega.{arith}
use borrow.Author.Tests.{ltb-false}
use lib.Dec.{ltb}
use lib.IntN.{ℤ, pos}
use lib.ListN.{length, take, length-replicate}
use lib.Pow.{pow_mono}
use Rattle.sums.specs.Lists.{table, put}
use Rattle.sums.specs.Refusals.{first, answered}
use Rattle.sums.proofs.First.{passes, or-false, outcome_cases}
use Rattle.sums.proofs.Tables.{length-put, length-table}
use Rattle.register.specs.Register.{P}
use Rattle.register.specs.Calls.{answer_of}
use Rattle.refusals.specs.declared.Answer.{Answer}
use Rattle.rounding.specs.Rounding.{away_from_zero}
use Rattle.nights.specs.Nights.{periods_of}
use Rattle.nights.specs.declared.Night.{Night}
use Rattle.records.specs.Record.{fresh}
use Rattle.records.specs.declared.Campaign.{Campaign}
use Rattle.judging.specs.Judging.{judging}
use Rattle.campaign.specs.Calls.{start_outcome, entered, handed}
use Rattle.campaign.specs.declared.Verdict.TheVariants as verdict
use Rattle.trend.specs.Calls.{response_checks, response_outcome, worked, mean_at}
use Rattle.history.specs.Run.{World, Call, start, judge, file, withdraw, counts, response, after, accepted, run, under_way, begun}
use Rattle.history.specs.Run as run_of
use Rattle.history.proofs.UnderWay.{stays_under_way, same_campaign, started, started_campaign}
use Rattle.history.proofs.History.{says}
use Rattle.history.proofs.Answers.{RoomFor, responded}
use Rattle.logitems.specs.declared.Phase.{Phase}
use Rattle.logitems.specs.declared.Phase.TheVariants as phase
use Rattle.logitems.specs.declared.Item.{Item}
use Rattle.logitems.specs.declared.Found.{Found}
use Rattle.logitems.specs.declared.Found.TheVariants as found
use Rattle.logitems.proofs.Finding.{Fits, starts, editions, opens, captures, withdraws, asks, samples, enters, whole, bad, end}
use Rattle.logeffects.specs.Book.{Memory, day_length, log_start_checks, over, started_by, began_outcome, unheld, log_enter_checks, judged_then_filed, entered_by, entered_outcome, filing, applied}
use Rattle.logeffects.specs.declared.Applied.{Applied}
use Rattle.logeffects.proofs.Starts as starting
use Rattle.logeffects.proofs.Held.{passed_held}
use Rattle.logprogram.specs.Program.{Place, zeros, first_memory, turn_on, stands_at}
use Rattle.logprogram.proofs.Turns.{StandsAt, found_at, turns}
use Rattle.logruns.specs.Calls.{pair, first_world, calls_of, calls_at, Reached, onward, reached}
use Rattle.logruns.proofs.Recording.{Sampled, SampledAt, samples_held}
use Rattle.logruns.proofs.Recording as recording

-- ---- what is claimed of a place

-- a start of an order up to 9 was accepted, the record and the memory are those of the run of the calls, and a response has room
pub record Running (calls : List Call) (c : Campaign) (m : Memory) : Type 0 where
  pub going : under_way first_world calls ≡ true
  pub few : (begun first_world calls).order ≤ 9
  pub world : ◌≡◌ {A = World} (record { campaign = c; store = m.store; sums = m.sums }) (run first_world calls)
  pub room : RoomFor 9 m.r m.mean m.room m.tags

-- before the start there are no calls, and after a refused one nothing more is read
pub data Follows (calls : List Call) (c : Campaign) (m : Memory) : Phase → Type 0 where
  unbegun : c ≡ fresh 0 0 0 0 → m ≡ first_memory → calls ≡ [] → Follows calls c m phase.Unbegun
  between : {b : Bool} → Running calls c m → Follows calls c m (phase.Between b)
  inside : {d n : ℕ} {night : Night} → Running calls c m → Follows calls c m (phase.Open d night n)
  stopped : Follows calls c m phase.Stopped

abbrev pub FollowsAt : List Call → Place → Type 0
FollowsAt calls p = Follows calls p.book.campaign p.memory p.book.phase

-- ---- a start

few_slots : (N taps C : ℕ) → first (log_start_checks N taps C) ≡ 0 → N ≤ 9
few_slots N taps C e = let p = passes (log_start_checks N taps C) tt e in ltb-false 9 N (or-false (ltb 9 N) (ltb 8 C) p.1.1.1.1.1.0).0

first_room : RoomFor 9 (zeros 511) (zeros 511) (zeros 512) first_memory.tags
first_room =
    record {
      r_long = omega (arith, length-replicate {A = ℤ} 511 (pos 0));
      mean_long = omega (arith, length-replicate {A = ℤ} 511 (pos 0));
      room_long = omega (arith, length-replicate {A = ℤ} 512 (pos 0));
      tags_long = omega (arith, length-replicate {A = ℕ} 511 0);
    }

abbrev began : ℕ → ℕ → ℕ → ℕ → Applied × Memory
began N taps C k =
    filing first_memory
    (answered k (λ n. (started_by (record { answer = answer_of N taps n; campaign = fresh 0 0 0 0 }), zeros 4088, zeros 511))
    (over started_by (start_outcome (fresh 0 0 0 0) N taps C away_from_zero (zeros 4088) (zeros 511))))

-- a start of the campaign goes on or stops by its answer
by_answer : (b : Bool) {calls : List Call} {c : Campaign} {m : Memory} (n : ℕ) → Running calls c m → Follows calls c m (answered n (λ _. phase.Stopped) (phase.Between b))
by_answer b zero r = between r
by_answer b (suc n) r = stopped

began_follows : (N taps C k : ℕ) → first (log_start_checks N taps C) ≡ k
    → Follows (answered k (λ _. []) (start N taps C away_from_zero ∷ []) ++ []) (began N taps C k).0.book.campaign (began N taps C k).1 (began N taps C k).0.book.phase
unfolding run
began_follows N taps C (suc k) e = stopped
began_follows N taps C zero e =
    let a = ap (λ (x : Answer). x.number) (starting.accepted (fresh 0 0 0 0) N taps C (zeros 4088) (zeros 511)
    (omega (arith, length-replicate {A = ℤ} 4088 (pos 0))) (omega (arith, length-replicate {A = ℤ} 511 (pos 0))) e) in
    by_answer true (start_outcome (fresh 0 0 0 0) N taps C away_from_zero (zeros 4088) (zeros 511)).0.answer.number (record {
      going = started first_world N taps C away_from_zero [] a;
      few = subst (λ (x : Campaign). x.order ≤ 9) (sym (started_campaign first_world N taps C away_from_zero [] a)) (few_slots N taps C e);
      world = refl;
      room = first_room;
    })

-- ---- an ask keeps the room's lengths

module _ {A : Type 0} where
  long_put : (k n : ℕ) (f : ℕ → A) (l : List A) → k ≤ n → n ≤ length l → n ≤ length (put (table k f) l)
  long_put k n f l h g = rw (length-put (table k f) l (omega (arith, length-table k f))) g

asked_room : (c : Campaign) (store sums r mean room : List ℤ) (tags : List ℕ) → c.order ≤ 9 → RoomFor 9 r mean room tags
    → let o = response_outcome c store sums r mean room tags in RoomFor 9 o.1 o.2 o.3 o.4
unfolding response_outcome
asked_room c store sums r mean room tags h l =
    outcome_cases {A = ℕ × List ℤ × List ℤ × List ℤ × List ℕ} (response_checks c store sums r mean room tags) tt (λ n. (n, r, mean, room, tags))
    (responded c sums r mean room tags) (λ o. RoomFor 9 o.1 o.2 o.3 o.4) (λ _ _ _. l)
    (λ _.
    let p : P c.order ≤ 511 = omega (arith, pow_mono h) in
    record {
      r_long = long_put (P c.order) 511 (worked c sums) r p l.r_long;
      mean_long = long_put (P c.order) 511 (mean_at c sums) mean p l.mean_long;
      room_long = long_put (P c.order + 1) 512 (λ _. pos 0) room (omega arith) l.room_long;
      tags_long = long_put (P c.order) 511 (λ _. 0) tags p l.tags_long;
    })

module _ {calls : List Call} {c : Campaign} {m : Memory} (r : Running calls c m) where
  pub order_is : c.order ≡ (begun first_world calls).order
  order_is = ap (λ w. w.campaign.order) r.world ∙ (says first_world calls r.going).order

  pub order_few : c.order ≤ 9
  order_few = omega (arith, order_is, r.few)

-- ---- one item

-- the run goes on by a call, and the room is as long
onward_running : {calls : List Call} {c d : Campaign} {m l : Memory} (r : Running calls c m) (call : Call) → run_of.starts call ≡ false
    → ◌≡◌ {A = World} (record { campaign = d; store = l.store; sums = l.sums }) (run first_world (call ∷ calls))
    → RoomFor 9 l.r l.mean l.room l.tags → Running (call ∷ calls) d l
onward_running {calls} r call n w o =
    record {
      going = stays_under_way first_world call calls r.going;
      few = subst (λ (x : Campaign). x.order ≤ 9) (sym (same_campaign first_world call calls n)) r.few;
      world = w;
      room = o;
    }

-- a start of the same campaign, accepted or refused
restarted : {calls : List Call} {c : Campaign} {m : Memory} → Running calls c m → (E : ℕ)
    → let o = start_outcome c c.order c.taps c.capacity E m.store m.sums in let call = start c.order c.taps c.capacity E in
    (l : Memory) → l.store ≡ o.1 → l.sums ≡ o.2 → RoomFor 9 l.r l.mean l.room l.tags → Running (call ∷ calls) o.0.campaign l
unfolding run begun
restarted {calls} {c} {m} r E l e f o =
    let call = start c.order c.taps c.capacity E in
    record {
      going = stays_under_way first_world call calls r.going;
      few = either (accepted (run first_world calls) call) (fresh c.order c.taps c.capacity E) (begun first_world calls) (order_few r) r.few;
      world = rw (e, f) (ap (λ w. after w call) r.world);
      room = o;
    }
  where
    either : (b : Bool) (x y : Campaign) → x.order ≤ 9 → y.order ≤ 9 → (cond b x y).order ≤ 9
    either true x y p q = p
    either false x y p q = q

module _ (c : Campaign) (m : Memory) (calls : List Call) where
  start_follows : (N taps C : ℕ) → c ≡ fresh 0 0 0 0 → m ≡ first_memory → calls ≡ []
      → let o = filing m (began_outcome c N taps C m.store m.sums) in
      Follows (answered (first (log_start_checks N taps C)) (λ _. []) (start N taps C away_from_zero ∷ []) ++ calls) o.0.book.campaign o.1 o.0.book.phase
  unfolding began_outcome
  start_follows N taps C e f g = rw (e, f, g) (began_follows N taps C (first (log_start_checks N taps C)) refl)

  -- a day whose samples are not kept is refused and nothing is called; another is judged and filed with those that came
  entry_follows : (d n : ℕ) (night : Night) (y : List ℤ) → (unheld (periods_of night) ≡ false → take n m.recording ≡ y) → Running calls c m
      → let o = filing m (entered_outcome c d night n m.store m.sums m.recording) in
      Follows (answered (first (log_enter_checks d night)) (λ _. []) (pair c d night y) ++ calls) o.0.book.campaign o.1 o.0.book.phase
  unfolding entered_outcome run
  entry_follows d n night y came r = go (first (log_enter_checks d night)) refl
    where
      go : (k : ℕ) → first (log_enter_checks d night) ≡ k
          → let o = filing m (answered k (λ k. (entered_by (entered c d (verdict.Refused k)), m.store, m.sums))
          (over entered_by (judged_then_filed c d night m.store m.sums (take n m.recording)))) in
          Follows (answered k (λ _. []) (pair c d night y) ++ calls) o.0.book.campaign o.1 o.0.book.phase
      go (suc k) e = between r
      go zero e =
          let z = take n m.recording in
          let ask = judge c.order c.taps night z in
          let filing_it = file d night z (handed (judging c.order c.taps night z)) in
          let asked : Running (ask ∷ calls) c m = onward_running r ask refl r.world r.room in
          rw (← (came (passed_held d night e))) (between (onward_running asked filing_it refl (ap (λ w. after w filing_it) r.world) r.room))

module _ (D : ℕ) (c : Campaign) (m : Memory) (offset : ℕ) (going : Bool) (calls : List Call) where
  abbrev standing-at : Phase → Place
  standing-at p = record { book = record { phase = p; campaign = c }; memory = m; offset = offset; going = going }

  item_follows : (y : List ℤ) (p : Phase) (i : Item) (k : ℕ) → Fits D p i → Sampled y m.recording p → Follows calls c m p
      → FollowsAt (calls_of (standing-at p) y i ++ calls) (turn_on (standing-at p) (found.Whole i k)).place
  unfolding applied run
  item_follows y p i k (starts {N} {taps} {C}) _ (unbegun e f g) = start_follows c m calls N taps C e f g
  item_follows y p i k (editions {e}) _ (between r) =
      by_answer false (start_outcome c c.order c.taps c.capacity e m.store m.sums).0.answer.number (restarted r e _ refl refl r.room)
  item_follows y p i k opens _ (between r) = inside r
  item_follows y p i k captures _ (between r) = inside r
  item_follows y p i k (withdraws {d}) _ (between r) = between (onward_running r (withdraw d) refl (ap (λ w. after w (withdraw d)) r.world) r.room)
  item_follows y p i k asks _ (between r) =
      let ask = response m.r m.mean m.room m.tags in
      let asked : Running (ask ∷ calls) c m = onward_running r ask refl r.world r.room in
      between (onward_running asked counts refl r.world (asked_room c m.store m.sums m.r m.mean m.room m.tags (order_few r) r.room))
  item_follows y p i k (samples h) _ (inside r) = inside (record { going = r.going; few = r.few; world = r.world; room = r.room })
  item_follows y p i k (enters {d} {n} {night}) (recording.inside came) (inside r) = entry_follows c m calls d n night y came r

-- ---- all items

turn_follows : (p : Place) (bytes : List ℕ) (y : List ℤ) (calls : List Call) (f : Found) → StandsAt p bytes true f → SampledAt y p → FollowsAt calls p
    → FollowsAt (calls_at p y f ++ calls) (turn_on p f).place
turn_follows p bytes y calls f (whole {i = i} {n = k} fit _ _ _) h s =
    item_follows (day_length p.book.campaign.order) p.book.campaign p.memory p.offset p.going calls y p.book.phase i k fit h.day s
turn_follows p bytes y calls f (bad _) h s = s
turn_follows p bytes y calls f (end _) h s = s

going_follows : (s : Reached) (b : Bool) → SampledAt s.samples s.place → FollowsAt s.calls s.place
    → FollowsAt (cond b (onward s) s).calls (cond b (onward s) s).place
going_follows s false h f = f
going_follows s true h f =
    rw (turns s.place s.left true)
    (turn_follows s.place s.left s.samples s.calls (stands_at s.place s.left true) (found_at s.place s.left true) h f)

pub follows : (n : ℕ) (input : List ℕ) → FollowsAt (reached n input).calls (reached n input).place
unfolding reached
follows zero input = unbegun refl refl refl
follows (suc n) input = going_follows (reached n input) (reached n input).place.going (samples_held n input) (follows n input)
