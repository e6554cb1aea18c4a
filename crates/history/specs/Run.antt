-- Document 01, "A record holds together when", and document 02, requests 1, 5 and 9: a run of calls, each given the record that the one before handed back and the same lent
-- memory, untouched between. A start is a call like the others: refused, it leaves the campaign that was under way; accepted, it begins a new
-- history in the same lent memory. Assumes nothing.
use Rattle.std.specs.Prelude.{◌≡◌, List, [], ◌∷◌, ◌++◌, Bool, true, false, cond, ◌&&◌, ◌||◌, ℕ, ◌+◌, ◌*◌, eqb, ℤ}
use Rattle.sums.specs.Sum.{sum}
use Rattle.sums.specs.Lists.{at}
use Rattle.finding.specs.Finding.{finding}
use Rattle.nights.specs.Nights.{periods_of}
use Rattle.nights.specs.declared.Night.{Night}
use Rattle.records.specs.Record.{unseen, withdrawn, fresh}
use Rattle.judging.specs.Judging.{judging, judged_number}
use Rattle.campaign.specs.Calls.{start_outcome, settled_of, file_outcome, own, shown_to, withdraw_outcome, state_of, verdict_number}
use Rattle.campaign.specs.Calls.{Shown}
use Rattle.trend.specs.Calls.{counts_outcome, response_outcome, summary_outcome, summary_number}
use Rattle.refusals.specs.Causes.{result_number}
use Rattle.records.specs.declared.Campaign.{Campaign}

-- the record and the lent memory that a run is about
pub record World : Type 0 where
  pub campaign : Campaign
  pub store : List ℤ
  pub sums : List ℤ

-- a call with all its arguments but those; a filing is handed a verdict, or goes by judging's own
pub data Call : Type 0 where
  start : ℕ → ℕ → ℕ → ℕ → Call
  judge : ℕ → ℕ → Night → List ℤ → Call
  file : ℕ → Night → List ℤ → Shown → Call
  withdraw : ℕ → Call
  counts : Call
  response : List ℤ → List ℤ → List ℤ → List ℕ → Call
  summary : List ℤ → List ℕ → Call

-- an entry is the filing that goes by judging's own verdict
abbrev pub enter : ℕ → Night → List ℤ → Call
enter d night y = file d night y own

-- the world after a call: only a start, a filing and a withdrawal hand a record back
abbrev pub after : World → Call → World
after w (start N taps C E) =
    let o = start_outcome w.campaign N taps C E w.store w.sums in
    record { campaign = o.0.campaign; store = o.1; sums = o.2 }
after w (judge N taps night y) = w
after w (file d night y s) =
    let o = file_outcome w.campaign w.store w.sums d night y (shown_to w.campaign night y s) in
    record { campaign = o.0.campaign; store = o.1; sums = o.2 }
after w (withdraw d) =
    let o = withdraw_outcome w.campaign w.store w.sums d in
    record { campaign = o.0.campaign; store = o.1; sums = o.2 }
after w counts = w
after w (response r mean room tags) = w
after w (summary room tags) = w

-- the number that a call answers: 0 is accepted
abbrev pub answer : World → Call → ℕ
answer w (start N taps C E) = (start_outcome w.campaign N taps C E w.store w.sums).0.answer.number
answer w (judge N taps night y) = judged_number (judging N taps night y)
answer w (file d night y s) = verdict_number (file_outcome w.campaign w.store w.sums d night y (shown_to w.campaign night y s)).0.entry.verdict
answer w (withdraw d) = (withdraw_outcome w.campaign w.store w.sums d).0.answer
answer w counts = result_number (counts_outcome w.campaign w.store w.sums)
answer w (response r mean room tags) = (response_outcome w.campaign w.store w.sums r mean room tags).0
answer w (summary room tags) = summary_number (summary_outcome w.campaign w.store w.sums room tags).0

abbrev pub accepted : World → Call → Bool
accepted w c = eqb (answer w c) 0

-- a run of calls, the latest first
unfoldable pub run : World → List Call → World
run w [] = w
run w (c ∷ earlier) = after (run w earlier) c

-- ---- whose history it is

-- whether a call is a start
abbrev pub starts : Call → Bool
starts (start N taps C E) = true
starts (judge N taps night y) = false
starts (file d night y s) = false
starts (withdraw d) = false
starts counts = false
starts (response r mean room tags) = false
starts (summary room tags) = false

-- whether a start was accepted among the calls
unfoldable pub under_way : World → List Call → Bool
under_way w [] = false
under_way w (c ∷ earlier) = (starts c && accepted (run w earlier) c) || under_way w earlier

-- the record as the last accepted start made it: its order, taps, slot count and edition are those of the campaign
abbrev pub begins : Call → Campaign → Campaign
begins (start N taps C E) before = fresh N taps C E
begins (judge N taps night y) before = before
begins (file d night y s) before = before
begins (withdraw d) before = before
begins counts before = before
begins (response r mean room tags) before = before
begins (summary room tags) before = before

unfoldable pub begun : World → List Call → Campaign
begun w [] = w.campaign
begun w (c ∷ earlier) = cond (accepted (run w earlier) c) (begins c (begun w earlier)) (begun w earlier)

-- ---- what the history says

-- whether a call names day d: a start names every day, and a judgement none
abbrev pub names : Call → ℕ → Bool
names (start N taps C E) d = true
names (judge N taps night y) d = false
names (file e night y s) d = eqb e d
names (withdraw e) d = eqb e d
names counts d = false
names (response r mean room tags) d = false
names (summary room tags) d = false

-- what an accepted call makes of the day that it names, in the world before it
abbrev pub makes : World → Call → ℕ
makes w (start N taps C E) = unseen
makes w (judge N taps night y) = unseen
makes w (file d night y s) = state_of (finding (settled_of w.campaign night y))
makes w (withdraw d) = withdrawn
makes w counts = unseen
makes w (response r mean room tags) = unseen
makes w (summary room tags) = unseen

-- what the last accepted call that names day d made of it, or unseen
unfoldable pub made : World → List Call → ℕ → ℕ
made w [] d = unseen
made w (c ∷ earlier) d = cond (names c d && accepted (run w earlier) c) (makes (run w earlier) c) (made w earlier d)

-- a night's recording: how many periods count, and its samples after the run-in
pub record Heard : Type 0 where
  pub periods : ℕ
  pub samples : List ℤ

-- at place j the sum of its periods, of P samples each
abbrev pub term_at : ℕ → Heard → ℕ → ℤ
term_at P h j = sum h.periods (λ i. at h.samples (i * P + j))

abbrev pub nothing : Heard
nothing = record { periods = 0; samples = [] }

-- the recording of a call, of which a start leaves none; and the last recording accepted for day d
abbrev pub recording : World → Call → Heard → Heard
recording w (start N taps C E) before = nothing
recording w (judge N taps night y) before = before
recording w (file d night y s) before = record { periods = periods_of night; samples = settled_of w.campaign night y }
recording w (withdraw d) before = before
recording w counts before = before
recording w (response r mean room tags) before = before
recording w (summary room tags) before = before

unfoldable pub heard : World → List Call → ℕ → Heard
heard w [] d = nothing
heard w (c ∷ earlier) d =
    cond (names c d && accepted (run w earlier) c) (recording (run w earlier) c (heard w earlier d)) (heard w earlier d)

-- ---- an entry withdrawn later

-- after the calls `before`, the calls `between` name other days than d, and none of them is refused with 12
unfoldable pub Elsewhere : World → ℕ → List Call → List Call → Type 0
Elsewhere w d before [] = Unit
Elsewhere w d before (c ∷ between) = (names c d ≡ false) × (answer (run w (between ++ before)) c ≡ 12 → ⊥) × Elsewhere w d before between
