-- What every log is promised: no line of it says 15, 6 or 23, a start prints its answer and after 4 how short the period is, an edition prints 0 or 24, an entry prints its answer or,
-- where the samples are not kept, the first of 10, 18, 17, and what a response prints is what the history of its calls says, the third demand. For every
-- input, and after any number of turns. Assumes nothing.
use mathlib.Core.Path.{◌≡◌, refl, sym, ap, subst, ◌∙◌}
use mathlib.Core.Bool.{Bool, true, false, cond}
use mathlib.Core.List.{List, [], ◌∷◌, ◌++◌, append-nil}
use Prim.Native.Nat.{ℕ, suc, ◌+◌, ◌*◌, ◌≤◌, ◌<◌}
use native.Mathlib.Omega.{arith}
use borrow.Author.Tests.{le-leb}
use lib.Dec.{T}
use lib.IntN.{ℤ, pos, ◌*ℤ◌}
use lib.ListN.{length, take, length-replicate}
use lib.Pow.{pow_mono}
use Rattle.sums.proofs.First.{lacks, not_first, outcome_cases, answered_refused, answers_first}
use Rattle.sums.specs.Lists.{at}
use Rattle.sums.specs.Text.{ascii}
use Rattle.sums.specs.Refusals.{first, answered}
use Rattle.register.specs.Register.{P, wave, period}
use Rattle.register.specs.Calls.{told, answer_of}
use Rattle.refusals.specs.declared.Answer.{Answer}
use Rattle.register.proofs.HowShort.{how_short}
use Rattle.register.proofs.Judged.{FirstReturn}
use Rattle.response.specs.Response.{prediction}
use Rattle.nights.specs.Nights.{periods_of}
use Rattle.nights.specs.declared.Night.{Night}
use Rattle.records.specs.Record.{unseen, standing, overloaded, dead, withdrawn, together}
use Rattle.records.specs.declared.Campaign.{Campaign}
use Rattle.records.proofs.Holding.{holds-together}
use Rattle.records.proofs.Refiling.{Day}
use Rattle.campaign.specs.Calls.{edition_out, start_outcome, enter_all, entered, enter_outcome, withdraw_checks, withdraw_outcome}
use Rattle.campaign.proofs.EntryCases.{entry_first}
use Rattle.campaign.proofs.Passing.{start_tells, afresh}
use Rattle.campaign.specs.declared.Entered.{Entered}
use Rattle.campaign.specs.declared.Verdict.TheVariants as verdict
use Rattle.campaign.specs.Calls.{Withdrawn}
use Rattle.trend.specs.Calls.{counts_outcome, response_checks, response_outcome}
use Rattle.trend.proofs.Enough.{response_enough}
use Rattle.trend.specs.declared.Tally.{Tally}
use Rattle.history.specs.Run.{World, Call, enter, withdraw, response, answer, begun, made, heard}
use Rattle.history.proofs.Answers.{RoomFor}
use Rattle.history.proofs.EveryRun as every
use Rattle.logitems.specs.Phases.{after_other}
use Rattle.logitems.specs.declared.Phase.{Phase}
use Rattle.logitems.specs.declared.Phase.TheVariants as phase
use Rattle.logitems.specs.declared.Item.{Item}
use Rattle.logitems.specs.declared.Item.TheVariants as item
use Rattle.logitems.specs.declared.Found.TheVariants as found
use Rattle.logitems.proofs.Finding.{Fits, starts, editions, opens, captures, withdraws, asks, samples, enters, whole_fits}
use Rattle.report.specs.Lines.{digits, spaced, line_end, start_line, edition_line, line_bytes, response_line}
use Rattle.report.specs.declared.Line.TheVariants as line
use Rattle.logeffects.specs.Book.{Memory, log_start_checks, day_length, unheld, log_enter_checks, entered_by, entered_outcome, closed_outcome, tallied, filing, applied}
use Rattle.logeffects.specs.declared.Applied.{Applied}
use Rattle.logeffects.proofs.Rows.{start_few}
use Rattle.logeffects.proofs.Starts.{never_six}
use Rattle.logeffects.proofs.Held.{held_passes, unheld_refused, unkept_answer, unkept_refused, refusing, unkept_entry, kept_entry}
use Rattle.logprogram.specs.Program.{Place, first_memory, rows_bytes, printed, took, turn_on, stands_at, turn}
use Rattle.logprogram.proofs.Turns.{found_at, turns}
use Rattle.logruns.specs.Calls.{world_of, first_world, pair, entry, calls_at, line_number, onward, reached}
use Rattle.logruns.proofs.Recording.{Sampled, samples_held}
use Rattle.logruns.proofs.Recording as recording
use Rattle.logruns.proofs.Following.{Running, Follows, unbegun, between, inside, order_is, order_few, follows}

-- ---- the run that a place stands in

module _ {calls : List Call} {c : Campaign} {m : Memory} (r : Running calls c m) where
  -- the order and the taps of the start that was accepted
  abbrev pub N : ℕ
  N = (begun first_world calls).order

  abbrev pub taps : ℕ
  taps = (begun first_world calls).taps

  abbrev now : World
  now = record { campaign = c; store = m.store; sums = m.sums }

  holds : together c m.store m.sums ≡ true
  holds =
      ap (λ (w : World). together w.campaign w.store w.sums) r.world
      ∙ every.holds first_world calls r.going

  no_fifteen : (call : Call) → answer now call ≡ 15 → ⊥
  no_fifteen call e =
      every.no_fifteen first_world calls r.going call (ap (λ w. answer w call) (sym r.world) ∙ e)

  -- ---- 6 and 23 are no answers of an entry or of a withdrawal; nor is 23 one of a response, and that has room

  entry_lacks : (d : ℕ) (night : Night) (y : List ℤ) (k : ℕ) → T (lacks k (enter_all c m.store m.sums d night y)) → answer now (enter d night y) ≡ k → ⊥
  entry_lacks d night y k t h = not_first k (enter_all c m.store m.sums d night y) t (sym (entry_first c m.store m.sums d night y) ∙ h)

  withdrawal_lacks : (d k : ℕ) → T (lacks k (withdraw_checks c m.store m.sums d)) → answer now (withdraw d) ≡ k → ⊥
  unfolding withdraw_outcome
  withdrawal_lacks d k t h =
      not_first k (withdraw_checks c m.store m.sums d) t
      (sym (answers_first (withdraw_checks c m.store m.sums d) (λ (o : Withdrawn × List ℤ × List ℤ). o.0.answer) _ _ (λ n. refl) refl) ∙ h)

  response_no_23 : answer now (response m.r m.mean m.room m.tags) ≡ 23 → ⊥
  unfolding response_outcome
  response_no_23 h =
      let checks = response_checks c m.store m.sums m.r m.mean m.room m.tags in
      not_first 23 checks tt (sym (answers_first checks (λ (o : ℕ × List ℤ × List ℤ × List ℤ × List ℕ). o.0) _ _ (λ n. refl) refl) ∙ h)

  response_no_six : answer now (response m.r m.mean m.room m.tags) ≡ 6 → ⊥
  response_no_six =
      let p : P c.order ≤ 511 = omega (arith, pow_mono (order_few r)) in
      (response_enough c m.store m.sums m.r m.mean m.room m.tags (omega (arith, p, r.room.r_long)) (omega (arith, p, r.room.mean_long))
      (omega (arith, p, r.room.room_long)) (omega (arith, p, r.room.tags_long))).0

-- ---- no line says 15, 6 or 23

abbrev Spared : ℕ → Type 0
Spared k = (k ≡ 15 → ⊥) × (k ≡ 6 → ⊥) × (k ≡ 23 → ⊥)

module _ (D : ℕ) (c : Campaign) (m : Memory) (calls : List Call) where
  abbrev number : Phase → Item → ℕ
  number p i = line_number (applied (record { phase = p; campaign = c }) i m).0.line

  start_line_lem : (p : Phase) (N taps C : ℕ) → m ≡ first_memory
      → (applied (record { phase = p; campaign = c }) (item.Start N taps C) m).0.line ≡ line.Started (answer_of N taps (first (log_start_checks N taps C)))
  unfolding applied
  start_line_lem p N taps C f =
      never_six c N taps C m.store m.sums (omega (arith, ap (λ (x : Memory). length x.store) f, length-replicate {A = ℤ} 4088 (pos 0)))
      (omega (arith, ap (λ (x : Memory). length x.sums) f, length-replicate {A = ℤ} 511 (pos 0)))

  entry_number : (d n : ℕ) (night : Night) → Running calls c m
      → Spared (line_number (entered_outcome c d night n m.store m.sums m.recording).0.line)
  unfolding entered_outcome
  entry_number d n night r =
      outcome_cases {A = Applied × List ℤ × List ℤ} (log_enter_checks d night) tt _ _ (λ o. Spared (line_number o.0.line))
      (λ _ _ e. (
        λ h. not_first 15 (log_enter_checks d night) tt (e ∙ h),
        λ h. not_first 6 (log_enter_checks d night) tt (e ∙ h),
        λ h. not_first 23 (log_enter_checks d night) tt (e ∙ h),
      ))
      (λ _. let z = take n m.recording in (no_fifteen r (enter d night z), entry_lacks r d night z 6 tt, entry_lacks r d night z 23 tt))

  -- nothing but 24 refuses an edition
  edition_number : (E : ℕ) → Running calls c m
      → (start_outcome c c.order c.taps c.capacity E m.store m.sums).0.answer.number ≡ first ((24, edition_out E) ∷ [])
  edition_number E r =
      ap (λ (a : Answer). a.number) (start_tells c c.order c.taps c.capacity E m.store m.sums)
      ∙ afresh c m.store m.sums ((holds-together c m.store m.sums).0 (holds r)) E

  edition_spared : (E : ℕ) → Running calls c m → Spared (start_outcome c c.order c.taps c.capacity E m.store m.sums).0.answer.number
  edition_spared E r = rw (edition_number E r) (go (edition_out E))
    where
      go : (b : Bool) → Spared (first ((24, b) ∷ []))
      go true = (λ h. omega arith, λ h. omega arith, λ h. omega arith)
      go false = (λ h. omega arith, λ h. omega arith, λ h. omega arith)

  item_number : (p : Phase) (i : Item) → Fits D p i → Follows calls c m p → Spared (number p i)
  unfolding applied
  item_number p i (starts {N} {taps} {C}) (unbegun e f g) = (
    λ h. not_first 15 (log_start_checks N taps C) tt (sym (ap line_number (start_line_lem p N taps C f)) ∙ h),
    λ h. not_first 6 (log_start_checks N taps C) tt (sym (ap line_number (start_line_lem p N taps C f)) ∙ h),
    λ h. not_first 23 (log_start_checks N taps C) tt (sym (ap line_number (start_line_lem p N taps C f)) ∙ h),
  )
  item_number p i (editions {e}) (between r) = edition_spared e r
  item_number p i opens (between r) = (λ h. omega arith, λ h. omega arith, λ h. omega arith)
  item_number p i captures (between r) = (λ h. omega arith, λ h. omega arith, λ h. omega arith)
  item_number p i (withdraws {d}) (between r) = (no_fifteen r (withdraw d), withdrawal_lacks r d 6 tt, withdrawal_lacks r d 23 tt)
  item_number p i asks (between r) = (no_fifteen r (response m.r m.mean m.room m.tags), response_no_six r, response_no_23 r)
  item_number p i (samples h) (inside r) = (λ h. omega arith, λ h. omega arith, λ h. omega arith)
  item_number p i (enters {d} {n} {night}) (inside r) = entry_number d n night r

module _ (n : ℕ) (input : List ℕ) where
  abbrev pub here : Place
  here = (reached n input).place

  -- what the next turn prints
  abbrev pub said : List ℕ
  said = (turn here (reached n input).left true).text

  module _ (i : Item) (k : ℕ) (stands : stands_at here (reached n input).left true ≡ found.Whole i k) where
    fits : Fits (day_length here.book.campaign.order) here.book.phase i
    fits = whole_fits (rw stands at (found_at here (reached n input).left true))

    text_is : said ≡ printed (applied here.book i here.memory)
    text_is = ap (λ t. t.text) (turns here (reached n input).left true ∙ ap (turn_on here) stands)

    numbers : Spared (line_number (applied here.book i here.memory).0.line)
    numbers =
        item_number (day_length here.book.campaign.order) here.book.campaign here.memory (reached n input).calls
        here.book.phase i fits (follows n input)

    pub never_says_15 : line_number (applied here.book i here.memory).0.line ≡ 15 → ⊥
    never_says_15 = numbers.0

    pub never_says_6 : line_number (applied here.book i here.memory).0.line ≡ 6 → ⊥
    never_says_6 = numbers.1

    pub never_says_23 : line_number (applied here.book i here.memory).0.line ≡ 23 → ⊥
    never_says_23 = numbers.2

-- ---- what a start prints, where one stands after n turns

module _ (n : ℕ) (input : List ℕ) (N taps C k : ℕ) (stands : stands_at (here n input) (reached n input).left true ≡ found.Whole (item.Start N taps C) k) where
  -- the first of its checks that refuses it, and 0 where none does
  abbrev pub start_number : ℕ
  start_number = first (log_start_checks N taps C)

  abbrev D : ℕ
  D = day_length (here n input).book.campaign.order

  first-memory : (p : Phase) → Fits D p (item.Start N taps C)
      → Follows (reached n input).calls (here n input).book.campaign (here n input).memory p → (here n input).memory ≡ first_memory
  first-memory p starts (unbegun e f g) = f

  no_rows : (applied (here n input).book (item.Start N taps C) (here n input).memory).0.rows ≡ 0
  unfolding applied
  no_rows = start_few (here n input).book.campaign N taps C (here n input).memory.store (here n input).memory.sums

  pub prints_start : said n input ≡ start_line (answer_of N taps start_number)
  unfolding rows_bytes
  prints_start =
      let m = (here n input).memory in
      let o = applied (here n input).book (item.Start N taps C) m in
      let f = first-memory (here n input).book.phase (fits n input (item.Start N taps C) k stands) (follows n input) in
      text_is n input (item.Start N taps C) k stands
      ∙ ap (λ rows. line_bytes o.0.line ++ rows_bytes rows o.1.r o.1.mean) no_rows
      ∙ append-nil (line_bytes o.0.line)
      ∙ ap line_bytes (start_line_lem D (here n input).book.campaign m (reached n input).calls (here n input).book.phase N taps C f)

  -- refused with 4 it prints after how many steps the register first returns to all ones
  pub prints_short : start_number ≡ 4
      → (said n input ≡ ascii "start 4" ++ spaced (period N taps) ++ line_end) × FirstReturn N taps (period N taps) × (period N taps < P N)
  unfolding digits
  prints_short e =
      let s = subst (λ a. FirstReturn N taps (told N taps a 0) × (told N taps a 0 < P N)) e
      ((how_short N taps (log_start_checks N taps C) refl tt 0).short e) in
      (prints_start ∙ ap (λ a. start_line (answer_of N taps a)) e, s.0, s.1)

-- ---- what an edition prints, where one stands after n turns: 0, or 24 where it is neither 1 nor 2

module _ (n : ℕ) (input : List ℕ) (E k : ℕ) (stands : stands_at (here n input) (reached n input).left true ≡ found.Whole (item.Edition E) k) where
  by_edition : (p : Phase) → Fits (day_length (here n input).book.campaign.order) p (item.Edition E)
      → Follows (reached n input).calls (here n input).book.campaign (here n input).memory p
      → let m = (here n input).memory in
      let c = (here n input).book.campaign in
      (start_outcome c c.order c.taps c.capacity E m.store m.sums).0.answer.number ≡ first ((24, edition_out E) ∷ [])
  by_edition p editions (between r) =
      edition_number (day_length (here n input).book.campaign.order) (here n input).book.campaign (here n input).memory (reached n input).calls E r

  pub prints_edition : said n input ≡ edition_line (first ((24, edition_out E) ∷ []))
  unfolding applied rows_bytes
  prints_edition =
      let m = (here n input).memory in
      let c = (here n input).book.campaign in
      text_is n input (item.Edition E) k stands
      ∙ append-nil (edition_line (start_outcome c c.order c.taps c.capacity E m.store m.sums).0.answer.number)
      ∙ ap edition_line (by_edition (here n input).book.phase (fits n input (item.Edition E) k stands) (follows n input))

-- ---- what an entry prints, where one stands after n turns in an open day

module _ (n : ℕ) (input : List ℕ) (k : ℕ) (stands : stands_at (here n input) (reached n input).left true ≡ found.Whole item.Enter k) (d i : ℕ)
    (night : Night) (day : (here n input).book.phase ≡ phase.Open d night i) where
  -- the record, the memory and the samples before it
  abbrev c : Campaign
  c = (here n input).book.campaign

  abbrev m : Memory
  m = (here n input).memory

  abbrev y : List ℤ
  y = (reached n input).samples

  applied_is : (o : Applied × List ℤ × List ℤ) → entered_outcome c d night i m.store m.sums m.recording ≡ o
      → applied (here n input).book item.Enter m ≡ filing m o
  unfolding applied
  applied_is o e = ap (λ p. filing m (closed_outcome p c m.store m.sums m.recording)) day ∙ ap (filing m) e

  prints_line : (e : Entered) (store sums : List ℤ) → entered_outcome c d night i m.store m.sums m.recording ≡ (entered_by e, store, sums)
      → said n input ≡ line_bytes (line.Entered e.entry)
  unfolding rows_bytes
  prints_line e store sums q =
      text_is n input item.Enter k stands ∙ ap printed (applied_is (entered_by e, store, sums) q) ∙ append-nil (line_bytes (line.Entered e.entry))

  calls_are : (a : ℕ) → first (log_enter_checks d night) ≡ a
      → (onward (reached n input)).calls ≡ answered a (λ _. []) (pair c d night y) ++ (reached n input).calls
  calls_are a e =
      ap (λ f. calls_at (here n input) y f ++ (reached n input).calls) stands
      ∙ ap (λ p. entry c p y ++ (reached n input).calls) day
      ∙ ap (λ b. answered b (λ _. []) (pair c d night y) ++ (reached n input).calls) e

  came : {p : Phase} → p ≡ phase.Open d night i → Sampled y m.recording p → unheld (periods_of night) ≡ false → take i m.recording ≡ y
  came e s = go (subst (Sampled y m.recording) e s)
    where
      go : Sampled y m.recording (phase.Open d night i) → unheld (periods_of night) ≡ false → take i m.recording ≡ y
      go (recording.inside f) = f

  -- where the samples are not kept, the first of 10, 18, 17; and nothing is called, and the record and the memory stay
  module _ (u : unheld (periods_of night) ≡ true) where
    pub prints_unkept : said n input ≡ line_bytes (line.Entered (record { day = d; verdict = verdict.Refused (unkept_answer d night) }))
    prints_unkept =
        prints_line (entered c d (verdict.Refused (unkept_answer d night))) m.store m.sums
        (unkept_entry c d night i m.store m.sums m.recording u)

    pub unkept_calls : (onward (reached n input)).calls ≡ (reached n input).calls
    unkept_calls =
        calls_are (unkept_answer d night) (unheld_refused d night u)
        ∙ ap (λ l. l ++ (reached n input).calls) (answered_refused (λ _. []) (pair c d night y) (unkept_answer d night) (unkept_refused d night))

    pub unkept_stays : (onward (reached n input)).place
        ≡ record { book = record { phase = after_other; campaign = c }; memory = m; offset = (here n input).offset + k; going = true }
    unkept_stays =
        ap (λ t. t.place)
        (turns (here n input) (reached n input).left true ∙ ap (turn_on (here n input)) stands
        ∙ ap (took (here n input).offset k)
        (applied_is (refusing c d night i m.store m.sums m.recording (unkept_answer d night))
        (unkept_entry c d night i m.store m.sums m.recording u)))

  -- where they are, the answer of the entry with those that came since the day was opened, made by judging and then filing
  module _ (u : unheld (periods_of night) ≡ false) where
    pub prints_kept : said n input ≡ line_bytes (line.Entered (enter_outcome c m.store m.sums d night y).0.entry)
    prints_kept =
        let o = enter_outcome c m.store m.sums d night in
        prints_line (o (take i m.recording)).0 (o (take i m.recording)).1 (o (take i m.recording)).2
        (kept_entry c d night i m.store m.sums m.recording u)
        ∙ ap (λ z. line_bytes (line.Entered (o z).0.entry)) (came day (samples_held n input).day u)

    pub kept_calls : (onward (reached n input)).calls ≡ pair c d night y ++ (reached n input).calls
    kept_calls = calls_are 0 (held_passes d night u)

-- ---- the third demand, of what an ask prints

module _ {calls : List Call} {c : Campaign} {m : Memory} (r : Running calls c m) where
  -- the days in each state, by what the last accepted call that names each made of it
  abbrev pub history_tally : Tally
  history_tally =
      let days = every.days_made first_world calls r.going in
      record { unseen = days unseen; standing = days standing; overloaded = days overloaded; dead = days dead; withdrawn = days withdrawn }

  abbrev asked : Phase → Applied × Memory
  asked p = applied (record { phase = p; campaign = c }) item.Ask m

  counts_said : (p : Phase) → (asked p).0.line ≡ line.Answered (answer (now r) (response m.r m.mean m.room m.tags)) history_tally
  unfolding applied
  counts_said p =
      ap (λ n. line.Answered (answer (now r) (response m.r m.mean m.room m.tags)) (tallied n))
      (ap (λ (w : World). counts_outcome w.campaign w.store w.sums) r.world
      ∙ every.counts_are first_world calls r.going)

  room_for : RoomFor (N r) m.r m.mean m.room m.tags
  room_for =
      let p : P (N r) ≤ 511 = omega (arith, pow_mono r.few) in
      record {
        r_long = omega (arith, r.room.r_long);
        mean_long = omega (arith, r.room.mean_long);
        room_long = omega (arith, r.room.room_long);
        tags_long = omega (arith, r.room.tags_long);
      }

  rows_said : (p : Phase) (a : ℕ) → a ≡ 0 → answer (now r) (response m.r m.mean m.room m.tags) ≡ a → (asked p).0.rows ≡ P (N r)
  unfolding applied
  rows_said p a z e =
      ap (λ n. answered n (λ _. 0) (day_length c.order)) (e ∙ z) ∙ ap day_length (order_is r) ∙ ap (λ b. cond b (P (N r)) 0) (le-leb (N r) 9 r.few)

  module _ (h : ℕ → ℕ → ℕ → ℤ)
      (convolved : (d : ℕ) → Day d → made first_world calls d ≡ standing → (p : ℕ) → p < (heard first_world calls d).periods → (j : ℕ) → j < P (N r)
      → at (heard first_world calls d).samples (p * P (N r) + j) ≡ prediction (P (N r)) (wave (N r) (taps r)) (h d p) j) where
    -- the sum of the responses of the periods of the days standing
    abbrev pub responses : ℕ → ℤ
    responses = every.responses first_world calls r.going h convolved

    recovered : (d : ℕ) → Day d → made first_world calls d ≡ standing
        → let o = response_outcome c m.store m.sums m.r m.mean m.room m.tags in
        (o.0 ≡ 0) × ((k : ℕ) → k < P (N r) → at o.1 k ≡ pos (suc (P (N r))) *ℤ responses k)
    recovered d y e =
        subst
        (λ (w : World). let o = response_outcome w.campaign w.store w.sums m.r m.mean m.room m.tags in
        (o.0 ≡ 0) × ((k : ℕ) → k < P (N r) → at o.1 k ≡ pos (suc (P (N r))) *ℤ responses k))
        (sym r.world)
        (every.recovered first_world calls r.going h convolved d y e m.r m.mean m.room m.tags room_for)

-- an ask stands after n turns
module _ (n : ℕ) (input : List ℕ) (k : ℕ) (stands : stands_at (here n input) (reached n input).left true ≡ found.Whole item.Ask k) where
  -- the run that its calls are
  outside : (p : Phase) → Fits (day_length (here n input).book.campaign.order) p item.Ask
      → Follows (reached n input).calls (here n input).book.campaign (here n input).memory p
      → Running (reached n input).calls (here n input).book.campaign (here n input).memory
  outside p asks (between r) = r

  pub run_here : Running (reached n input).calls (here n input).book.campaign (here n input).memory
  run_here = outside (here n input).book.phase (fits n input item.Ask k stands) (follows n input)

  abbrev pub asked_here : Applied × Memory
  asked_here = applied (here n input).book item.Ask (here n input).memory

  -- it prints the counts that the history says
  pub prints_counts : said n input
      ≡ response_line (answer (world_of (here n input)) (response (here n input).memory.r (here n input).memory.mean (here n input).memory.room
      (here n input).memory.tags)) (history_tally run_here)
      ++ rows_bytes asked_here.0.rows asked_here.1.r asked_here.1.mean
  prints_counts = text_is n input item.Ask k stands ∙ ap (λ l. line_bytes l ++ rows_bytes asked_here.0.rows asked_here.1.r asked_here.1.mean)
      (counts_said run_here (here n input).book.phase)

  -- and where some day stands and each period of the recordings then standing is the convolution of a whole-number response of its own, (P+1) times
  -- the sum of these
  module _ (h : ℕ → ℕ → ℕ → ℤ)
      (convolved : (d : ℕ) → Day d → made first_world (reached n input).calls d ≡ standing → (p : ℕ) → p < (heard first_world (reached n input).calls d).periods
      → (j : ℕ) → j < P (N run_here)
      → at (heard first_world (reached n input).calls d).samples (p * P (N run_here) + j)
      ≡ prediction (P (N run_here)) (wave (N run_here) (taps run_here)) (h d p) j) where
    pub prints_recovered : (d : ℕ) → Day d → made first_world (reached n input).calls d ≡ standing
        → (said n input ≡ response_line 0 (history_tally run_here) ++ rows_bytes (P (N run_here)) asked_here.1.r asked_here.1.mean)
        × ((j : ℕ) → j < P (N run_here) → at asked_here.1.r j ≡ pos (suc (P (N run_here))) *ℤ responses run_here h convolved j)
    unfolding applied
    prints_recovered d y e =
        let q = recovered run_here h convolved d y e in (
          prints_counts
              ∙ ap (λ a. response_line a (history_tally run_here) ++ rows_bytes asked_here.0.rows asked_here.1.r asked_here.1.mean) q.0
              ∙ ap (λ a. response_line 0 (history_tally run_here) ++ rows_bytes a asked_here.1.r asked_here.1.mean)
              (rows_said run_here (here n input).book.phase 0 refl q.0),
          q.1,
        )
