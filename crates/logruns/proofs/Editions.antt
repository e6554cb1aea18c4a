-- Document 02, request 9: the edition of the program's campaign is the one that was accepted last, 1 where a log has none. For every input, and after any
-- number of turns. Assumes nothing.
use mathlib.Core.Path.{◌≡◌, refl, sym, ap, ◌∙◌}
use mathlib.Core.Bool.{Bool, true, false, cond}
use mathlib.Core.List.{List}
use Prim.Native.Nat.{ℕ, zero, suc}
use borrow.Author.Tests.{ne_eqb}
use lib.Dec.{eqb}
use lib.IntN.{ℤ}
use lib.ListN.{take}
use Rattle.sums.proofs.First.{outcome_cases}
use Rattle.register.specs.Calls.{answer_of}
use Rattle.rounding.specs.Rounding.{away_from_zero}
use Rattle.nights.specs.declared.Night.{Night}
use Rattle.judging.specs.Judging.{judge_outcome}
use Rattle.records.specs.declared.Campaign.{Campaign}
use Rattle.campaign.specs.Calls.{start_outcome, file_outcome, withdraw_outcome, verdict_number}
use Rattle.trend.specs.Calls.{response_outcome}
use Rattle.campaign.proofs.Handed.{file_handed, withdraw_handed, start_edition}
use Rattle.history.proofs.History.{if_alike}
use Rattle.logitems.specs.declared.Phase.{Phase}
use Rattle.logitems.specs.declared.Phase.TheVariants as phase
use Rattle.logitems.specs.declared.Item.{Item}
use Rattle.logitems.specs.declared.Item.TheVariants as item
use Rattle.logitems.specs.declared.Found.{Found}
use Rattle.logitems.specs.declared.Found.TheVariants as found
use Rattle.logeffects.specs.Book.{Memory, log_start_checks, over, started_by, began_outcome, log_enter_checks, entered_outcome, closed_outcome, applied}
use Rattle.logeffects.specs.declared.Book.{Book}
use Rattle.logeffects.specs.declared.Applied.{Applied}
use Rattle.logprogram.specs.Program.{Place, turn_on, stands_at}
use Rattle.logprogram.proofs.Turns.{turns}
use Rattle.logruns.specs.Calls.{line_number, asks_edition, edition_at, Reached, onward, reached}

-- ---- one item

-- what an item makes of a campaign of edition e that asks for E
abbrev Accepts : ℕ → ℕ → Applied × List ℤ × List ℤ → Type 0
Accepts e E o = o.0.book.campaign.edition ≡ cond (eqb (line_number o.0.line) 0) E e

module _ (c : Campaign) (store sums : List ℤ) where
  start_accepts : (N taps C : ℕ) → Accepts c.edition away_from_zero (began_outcome c N taps C store sums)
  unfolding began_outcome
  start_accepts N taps C =
      outcome_cases (log_start_checks N taps C) tt (λ n. (started_by (record { answer = answer_of N taps n; campaign = c }), store, sums))
      (over started_by (start_outcome c N taps C away_from_zero store sums)) (Accepts c.edition away_from_zero)
      (λ n h _. sym (ap (λ b. cond b away_from_zero c.edition) (ne_eqb n 0 h))) (λ _. start_edition c N taps C away_from_zero store sums)

  entry-accepts : (d n : ℕ) (night : Night) (y : List ℤ) → Accepts c.edition c.edition (entered_outcome c d night n store sums y)
  unfolding entered_outcome
  entry-accepts d n night y =
      let v = (judge_outcome c.order c.taps night (take n y)).verdict in
      let k = verdict_number (file_outcome c store sums d night (take n y) v).0.entry.verdict in
      outcome_cases {A = Applied × List ℤ × List ℤ} (log_enter_checks d night) tt _ _ (Accepts c.edition c.edition) (λ k _ _. sym (if_alike (eqb k 0) c.edition))
      (λ _. (file_handed c store sums d night (take n y) v).edition ∙ sym (if_alike (eqb k 0) c.edition))

  close_accepts : (p : Phase) (y : List ℤ) → Accepts c.edition c.edition (closed_outcome p c store sums y)
  close_accepts phase.Unbegun y = refl
  close_accepts (phase.Between begun) y = refl
  close_accepts (phase.Open d night n) y = entry-accepts d n night y
  close_accepts phase.Stopped y = refl

item_edition : (b : Book) (i : Item) (m : Memory) → let o = applied b i m in
    o.0.book.campaign.edition ≡ cond (eqb (line_number o.0.line) 0) (asks_edition b.campaign.edition i) b.campaign.edition
unfolding applied
item_edition b (item.Start N taps C) m = start_accepts b.campaign m.store m.sums N taps C
item_edition b (item.Open d) m = refl
item_edition b (item.Sample v) m = refl
item_edition b item.Enter m = close_accepts b.campaign m.store m.sums b.phase m.recording
item_edition b (item.Withdraw d) m =
    let k = (withdraw_outcome b.campaign m.store m.sums d).0.answer in
    (withdraw_handed b.campaign m.store m.sums d).edition ∙ sym (if_alike (eqb k 0) b.campaign.edition)
item_edition b item.Ask m =
    let k = (response_outcome b.campaign m.store m.sums m.r m.mean m.room m.tags).0 in
    sym (if_alike (eqb k 0) b.campaign.edition)
item_edition b (item.Capture d k) m = refl
item_edition b (item.Edition E) m = let c = b.campaign in start_edition c c.order c.taps c.capacity E m.store m.sums

-- ---- all items

found_edition : (p : Place) (f : Found) → (turn_on p f).place.book.campaign.edition ≡ edition_at p p.book.campaign.edition f
found_edition p (found.Whole i n) = item_edition p.book i p.memory
found_edition p found.Short = refl
found_edition p found.Bad = refl
found_edition p found.End = refl

going_edition : (s : Reached) (b : Bool) → s.place.book.campaign.edition ≡ s.edition
    → (cond b (onward s) s).place.book.campaign.edition ≡ (cond b (onward s) s).edition
going_edition s false h = h
going_edition s true h =
    rw (turns s.place s.left true)
    (found_edition s.place (stands_at s.place s.left true) ∙ ap (λ e. edition_at s.place e (stands_at s.place s.left true)) h)

pub program_edition : (n : ℕ) (input : List ℕ) → (reached n input).place.book.campaign.edition ≡ (reached n input).edition
unfolding reached
program_edition zero input = refl
program_edition (suc n) input = going_edition (reached n input) (reached n input).place.going (program_edition n input)
