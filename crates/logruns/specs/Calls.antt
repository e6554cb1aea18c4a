-- Document 01, "The log program", and document 02, requests 1, 5 and 9: the first turns of the program on a whole input, what they print, and the campaign's calls that they
-- make. Assumes nothing.
use Rattle.std.specs.Prelude.{List, [], ◌∷◌, ◌++◌, true, cond, ℕ, zero, suc, eqb, ℤ, drop}
use Rattle.sums.specs.Refusals.{first, answered}
use Rattle.rounding.specs.Rounding.{away_from_zero}
use Rattle.nights.specs.declared.Night.{Night}
use Rattle.judging.specs.Judging.{judging}
use Rattle.records.specs.declared.Campaign.{Campaign}
use Rattle.campaign.specs.Calls.{handed, verdict_number}
use Rattle.history.specs.Run.{World, Call, start, judge, file, withdraw, counts, response}
use Rattle.logitems.specs.declared.Phase.{Phase}
use Rattle.logitems.specs.declared.Phase.TheVariants as phase
use Rattle.logitems.specs.declared.Item.{Item}
use Rattle.logitems.specs.declared.Item.TheVariants as item
use Rattle.logitems.specs.declared.Found.{Found}
use Rattle.logitems.specs.declared.Found.TheVariants as found
use Rattle.report.specs.declared.Line.{Line}
use Rattle.report.specs.declared.Line.TheVariants as line
use Rattle.logeffects.specs.Book.{log_start_checks, log_enter_checks, applied}
use Rattle.logprogram.specs.Program.{Place, first_place, stands_at, turn}

-- the record and the memory that the campaign's calls are given
abbrev pub world_of : Place → World
world_of p = record { campaign = p.book.campaign; store = p.memory.store; sums = p.memory.sums }

-- at the beginning
abbrev pub first_world : World
first_world = world_of first_place

-- ---- the samples that came since the day was opened, in their order

abbrev pub samples_of : List ℤ → Item → List ℤ
samples_of y (item.Start N taps C) = y
samples_of y (item.Open d) = []
samples_of y (item.Sample v) = y ++ v ∷ []
samples_of y item.Enter = y
samples_of y (item.Withdraw d) = y
samples_of y item.Ask = y
samples_of y (item.Capture d m) = []
samples_of y (item.Edition e) = y

abbrev pub samples_at : List ℤ → Found → List ℤ
samples_at y (found.Whole i n) = samples_of y i
samples_at y found.Short = y
samples_at y found.Bad = y
samples_at y found.End = y

-- ---- the calls that an item makes, the latest first

-- a night is judged, and then filed with that verdict
abbrev pub pair : Campaign → ℕ → Night → List ℤ → List Call
pair c d night y = file d night y (handed (judging c.order c.taps night y)) ∷ judge c.order c.taps night y ∷ []

-- so is the open day with the samples that came, where the program's own checks pass
abbrev pub entry : Campaign → Phase → List ℤ → List Call
entry c phase.Unbegun y = []
entry c (phase.Between begun) y = []
entry c (phase.Open d night n) y = answered (first (log_enter_checks d night)) (λ _. []) (pair c d night y)
entry c phase.Stopped y = []

-- a start is called, in edition 1, where the program's own checks pass; an edition starts the campaign afresh
abbrev pub calls_of : Place → List ℤ → Item → List Call
calls_of p y (item.Start N taps C) = answered (first (log_start_checks N taps C)) (λ _. []) (start N taps C away_from_zero ∷ [])
calls_of p y (item.Open d) = []
calls_of p y (item.Sample v) = []
calls_of p y item.Enter = entry p.book.campaign p.book.phase y
calls_of p y (item.Withdraw d) = withdraw d ∷ []
calls_of p y item.Ask = counts ∷ response p.memory.r p.memory.mean p.memory.room p.memory.tags ∷ []
calls_of p y (item.Capture d m) = []
calls_of p y (item.Edition e) = let c = p.book.campaign in start c.order c.taps c.capacity e ∷ []

abbrev pub calls_at : Place → List ℤ → Found → List Call
calls_at p y (found.Whole i n) = calls_of p y i
calls_at p y found.Short = []
calls_at p y found.Bad = []
calls_at p y found.End = []

-- the number of the answer that a line says
abbrev pub line_number : Line → ℕ
line_number line.Silent = 0
line_number (line.Started a) = a.number
line_number (line.Edition answer) = answer
line_number (line.Entered e) = verdict_number e.verdict
line_number (line.Withdrawn d answer) = answer
line_number (line.Answered answer t) = answer

-- ---- the edition that was accepted last

-- what an item asks for: a start edition 1, and any other but an edition the one before
abbrev pub asks_edition : ℕ → Item → ℕ
asks_edition e (item.Start N taps C) = away_from_zero
asks_edition e (item.Open d) = e
asks_edition e (item.Sample v) = e
asks_edition e item.Enter = e
asks_edition e (item.Withdraw d) = e
asks_edition e item.Ask = e
asks_edition e (item.Capture d m) = e
asks_edition e (item.Edition E) = E

-- where its line says that it is accepted
abbrev pub edition_of : Place → ℕ → Item → ℕ
edition_of p e i = cond (eqb (line_number (applied p.book i p.memory).0.line) 0) (asks_edition e i) e

abbrev pub edition_at : Place → ℕ → Found → ℕ
edition_at p e (found.Whole i n) = edition_of p e i
edition_at p e found.Short = e
edition_at p e found.Bad = e
edition_at p e found.End = e

-- ---- the first n turns

-- where the program stands after them, the bytes that are left of the input, the samples of the day, the edition accepted last, 0 before any, what they
-- printed, and the calls that they made
pub record Reached : Type 0 where
  pub place : Place
  pub left : List ℕ
  pub samples : List ℤ
  pub edition : ℕ
  pub text : List ℕ
  pub calls : List Call

abbrev pub onward : Reached → Reached
onward s =
    let t = turn s.place s.left true in
    record {
      place = t.place;
      left = drop t.used s.left;
      samples = samples_at s.samples (stands_at s.place s.left true);
      edition = edition_at s.place s.edition (stands_at s.place s.left true);
      text = s.text ++ t.text;
      calls = calls_at s.place s.samples (stands_at s.place s.left true) ++ s.calls;
    }

unfoldable pub reached : ℕ → List ℕ → Reached
reached zero input = record { place = first_place; left = input; samples = []; edition = 0; text = []; calls = [] }
reached (suc n) input = cond (reached n input).place.going (onward (reached n input)) (reached n input)
