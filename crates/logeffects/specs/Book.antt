-- Document 01, "The log program", and document 02, requests 1, 5 and 9: what each item does to the state between items and to the memory lent, and the line
-- that it makes, by the campaign's calls. Assumes nothing.
use Rattle.std.specs.Prelude.{List, [], ◌∷◌, ◌++◌, Bool, cond, ◌&&◌, ◌||◌, ℕ, ltb, leb, ℤ, take, set, Result, Ok, Err}
use Rattle.sums.specs.Refusals.{answered, outcome}
use Rattle.register.specs.Register.{P}
use Rattle.register.specs.Calls.{taps_checks, answer_of}
use Rattle.nights.specs.Nights.{periods_of, periods_out}
use Rattle.nights.specs.declared.Night.{Night}
use Rattle.nights.specs.declared.Night.TheVariants as night
use Rattle.rounding.specs.Rounding.{away_from_zero}
use Rattle.records.specs.Record.{fresh}
use Rattle.records.specs.declared.Campaign.{Campaign}
use Rattle.judging.specs.Judging.{judge_outcome}
use Rattle.campaign.specs.Calls.{slots_out, day_out, start_outcome, entered, file_outcome, withdraw_outcome}
use Rattle.campaign.specs.Calls.{Started}
use Rattle.campaign.specs.declared.Verdict.TheVariants as verdict
use Rattle.campaign.specs.declared.Entered.{Entered}
use Rattle.campaign.specs.Calls.{Withdrawn}
use Rattle.trend.specs.Calls.{counts_outcome, response_outcome}
use Rattle.trend.specs.declared.Tally.{Tally}
use Rattle.logitems.specs.Phases.{first_phase, after_other, after_start, after_edition, after_open, after_sample, after_enter}
use Rattle.logitems.specs.declared.Phase.{Phase}
use Rattle.logitems.specs.declared.Phase.TheVariants as phase
use Rattle.logitems.specs.declared.Item.{Item}
use Rattle.logitems.specs.declared.Item.TheVariants as item
use Rattle.report.specs.declared.Line.{Line}
use Rattle.report.specs.declared.Line.TheVariants as line
use Rattle.logeffects.specs.declared.Book.{Book}
use Rattle.logeffects.specs.declared.Applied.{Applied}

-- a call's result made into what is said of it, the store and the sums as the call left them
abbrev pub over : {A : Type 0} → (A → Applied) → A × List ℤ × List ℤ → Applied × List ℤ × List ℤ
over f o = (f o.0, o.1, o.2)

-- the phase, the campaign and the line, with no lines after it
abbrev pub said : Phase → Campaign → Line → Applied
said p c l = record { book = record { phase = p; campaign = c }; line = l; rows = 0 }

abbrev pub unbegun_book : Book
unbegun_book = record { phase = first_phase; campaign = fresh 0 0 0 0 }

-- ---- start, in edition 1: 1, 2, 3, 4, 9, and 17 in the place of 6

-- 17: the program only: order above 9 or slots above 8; and at an entry m from 5 to 16
abbrev pub too_large : ℕ → ℕ → Bool
too_large N C = ltb 9 N || ltb 8 C

abbrev pub log_start_checks : ℕ → ℕ → ℕ → List (ℕ × Bool)
log_start_checks N taps C = taps_checks N taps ++ (9, slots_out C) ∷ (17, too_large N C) ∷ []

-- a refused start prints its line and stops
abbrev pub started_by : Started → Applied
started_by s = said (after_start s.answer.number) s.campaign (line.Started s.answer)

unfoldable pub began_outcome : Campaign → ℕ → ℕ → ℕ → List ℤ → List ℤ → Applied × List ℤ × List ℤ
began_outcome c N taps C store sums =
    outcome (log_start_checks N taps C) (λ n. (started_by (record { answer = answer_of N taps n; campaign = c }), store, sums))
    (over started_by (start_outcome c N taps C away_from_zero store sums))

-- ---- an edition: the campaign starts afresh in it; a refused one prints its line and stops

abbrev pub edition_by : Started → Applied
edition_by s = said (after_edition s.answer.number) s.campaign (line.Edition s.answer.number)

abbrev pub edition_outcome : Campaign → ℕ → List ℤ → List ℤ → Applied × List ℤ × List ℤ
edition_outcome c E store sums = over edition_by (start_outcome c c.order c.taps c.capacity E store sums)

-- ---- a day is opened, has its samples, and is entered

-- P samples, for the orders that the program takes
abbrev pub day_length : ℕ → ℕ
day_length N = cond (leb N 9) (P N) 0

-- where m is 0 or above 4 the program counts the samples and keeps none
abbrev pub unheld : ℕ → Bool
unheld m = ltb m 1 || ltb 4 m

-- a sample of a night of m periods goes to the next place of the recording
abbrev pub kept_sample : ℕ → ℕ → ℤ → List ℤ → List ℤ
kept_sample m n v y = cond (unheld m) y (set y n v)

abbrev pub took_sample : Phase → ℤ → List ℤ → Phase × List ℤ
took_sample phase.Unbegun v y = (phase.Unbegun, y)
took_sample (phase.Between begun) v y = (phase.Between begun, y)
took_sample (phase.Open d night n) v y = (after_sample d night n, kept_sample (periods_of night) n v y)
took_sample phase.Stopped v y = (phase.Stopped, y)

-- those that come before the campaign's own, where it keeps none: 10, 18, 17
abbrev pub log_enter_checks : ℕ → Night → List (ℕ × Bool)
log_enter_checks d night = (10, unheld (periods_of night) && day_out d) ∷ (18, periods_out night) ∷ (17, ltb 4 (periods_of night)) ∷ []

-- the campaign's pair: the night is judged, and then filed with that verdict
abbrev pub judged_then_filed : Campaign → ℕ → Night → List ℤ → List ℤ → List ℤ → Entered × List ℤ × List ℤ
judged_then_filed c d night store sums y = file_outcome c store sums d night y (judge_outcome c.order c.taps night y).verdict

-- enter closes it
abbrev pub entered_by : Entered → Applied
entered_by e = said after_enter e.campaign (line.Entered e.entry)

unfoldable pub entered_outcome : Campaign → ℕ → Night → ℕ → List ℤ → List ℤ → List ℤ → Applied × List ℤ × List ℤ
entered_outcome c d night n store sums y =
    outcome (log_enter_checks d night) (λ k. (entered_by (entered c d (verdict.Refused k)), store, sums))
    (over entered_by (judged_then_filed c d night store sums (take n y)))

abbrev pub closed_outcome : Phase → Campaign → List ℤ → List ℤ → List ℤ → Applied × List ℤ × List ℤ
closed_outcome phase.Unbegun c store sums y = (said phase.Unbegun c line.Silent, store, sums)
closed_outcome (phase.Between begun) c store sums y = (said (phase.Between begun) c line.Silent, store, sums)
closed_outcome (phase.Open d night n) c store sums y = entered_outcome c d night n store sums y
closed_outcome phase.Stopped c store sums y = (said phase.Stopped c line.Silent, store, sums)

-- ---- a day is withdrawn

abbrev pub withdrawn_by : ℕ → Withdrawn → Applied
withdrawn_by d w = said after_other w.campaign (line.Withdrawn d w.answer)

abbrev pub withdrew_outcome : Campaign → ℕ → List ℤ → List ℤ → Applied × List ℤ × List ℤ
withdrew_outcome c d store sums = over (withdrawn_by d) (withdraw_outcome c store sums d)

-- ---- the response is asked for, with the counts; P lines follow where it is not refused

abbrev pub tallied : Result Tally ℕ → Tally
tallied (Ok t) = t
tallied (Err n) = record { unseen = 0; standing = 0; overloaded = 0; dead = 0; withdrawn = 0 }

abbrev pub asked_by : Campaign → Result Tally ℕ → ℕ → Applied
asked_by c n answer =
    record {
      book = record { phase = after_other; campaign = c };
      line = line.Answered answer (tallied n);
      rows = answered answer (λ _. 0) (day_length c.order);
    }

abbrev pub asks : Campaign → Result Tally ℕ → ℕ × List ℤ × List ℤ × List ℤ × List ℕ → Applied × List ℤ × List ℤ × List ℤ × List ℕ
asks c n o = (asked_by c n o.0, o.1, o.2, o.3, o.4)

abbrev pub asked_outcome : Campaign → List ℤ → List ℤ → List ℤ → List ℤ → List ℤ → List ℕ → Applied × List ℤ × List ℤ × List ℤ × List ℕ
asked_outcome c store sums r mean room tags = asks c (counts_outcome c store sums) (response_outcome c store sums r mean room tags)

-- ---- any item

-- what is lent: the store and the sums, the open day's recording, the response and the mean, the working room and the tags
pub record Memory : Type 0 where
  pub store : List ℤ
  pub sums : List ℤ
  pub recording : List ℤ
  pub r : List ℤ
  pub mean : List ℤ
  pub room : List ℤ
  pub tags : List ℕ

abbrev pub memory : List ℤ → List ℤ → List ℤ → List ℤ → List ℤ → List ℤ → List ℕ → Memory
memory store sums recording r mean room tags =
    record { store = store; sums = sums; recording = recording; r = r; mean = mean; room = room; tags = tags }

-- where the call leaves the store and the sums changed
abbrev pub filing : Memory → Applied × List ℤ × List ℤ → Applied × Memory
filing m o = (o.0, memory o.1 o.2 m.recording m.r m.mean m.room m.tags)

abbrev pub sampling : Memory → Campaign → Phase × List ℤ → Applied × Memory
sampling m c o = (said o.0 c line.Silent, memory m.store m.sums o.1 m.r m.mean m.room m.tags)

abbrev pub asking : Memory → Applied × List ℤ × List ℤ × List ℤ × List ℕ → Applied × Memory
asking m o = (o.0, memory m.store m.sums m.recording o.1 o.2 o.3 o.4)

unfoldable pub applied : Book → Item → Memory → Applied × Memory
applied b (item.Start N taps C) m = filing m (began_outcome b.campaign N taps C m.store m.sums)
applied b (item.Open d) m = (said (after_open d night.Period) b.campaign line.Silent, m)
applied b (item.Sample v) m = sampling m b.campaign (took_sample b.phase v m.recording)
applied b item.Enter m = filing m (closed_outcome b.phase b.campaign m.store m.sums m.recording)
applied b (item.Withdraw d) m = filing m (withdrew_outcome b.campaign d m.store m.sums)
applied b item.Ask m = asking m (asked_outcome b.campaign m.store m.sums m.r m.mean m.room m.tags)
applied b (item.Capture d k) m = (said (after_open d (night.Capture k)) b.campaign line.Silent, m)
applied b (item.Edition e) m = filing m (edition_outcome b.campaign e m.store m.sums)
