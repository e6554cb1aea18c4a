-- A caller of the C door: it lends the same tables and memory at each call, and the order, taps, capacity and edition of its last accepted
-- start. Assumes nothing.
use Rattle.std.specs.Prelude.{List, [], ◌∷◌, ℕ, ℤ}
use Rattle.sums.specs.Refusals.{answered}
use Rattle.nights.specs.declared.Night.{Night}
use Rattle.campaign.specs.Calls.{Shown}
use Rattle.trend.specs.declared.Tally.{Tally}
use Rattle.trend.specs.declared.Levels.{Levels}
use Rattle.history.specs.Run.{World, Call}
use Rattle.history.specs.Run as call
use Rattle.meter.specs.Doors.{record_of, start_door, judge_door, file_door, withdraw_door, counts_door, response_door, summary_door}

-- what the caller holds
pub record Lent : Type 0 where
  pub order : ℕ
  pub taps : ℕ
  pub capacity : ℕ
  pub edition : ℕ
  pub days : List ℕ
  pub slots : List ℕ
  pub periods : List ℕ
  pub store : List ℤ
  pub sums : List ℤ

-- a call of the door, with what the caller lends for its answers; `meter_judge` and `meter_file` are of a night of one period, `meter_judge_capture` and
-- `meter_file_capture` of a capture; `meter_enter` and `meter_capture` are filings by judging's own verdict
pub data DoorCall : Type 0 where
  start : ℕ → ℕ → ℕ → ℕ → DoorCall
  judge : ℕ → ℕ → Night → List ℤ → ℕ → ℕ → DoorCall
  file : ℕ → Night → List ℤ → Shown → ℕ → ℕ → DoorCall
  withdraw : ℕ → DoorCall
  counts : Tally → DoorCall
  response : List ℤ → List ℤ → List ℤ → List ℕ → DoorCall
  summary : List ℤ → List ℕ → ℕ → Levels → DoorCall

-- what it holds after a start, and after a filing or a withdrawal
abbrev pub begins : Lent → ℕ → ℕ → ℕ → ℕ → ℕ × List ℕ × List ℕ × List ℕ × List ℤ × List ℤ → Lent
begins l N taps C E (n, days, slots, periods, store, sums) =
    record {
      order = answered n (λ _. l.order) N;
      taps = answered n (λ _. l.taps) taps;
      capacity = answered n (λ _. l.capacity) C;
      edition = answered n (λ _. l.edition) E;
      days = days;
      slots = slots;
      periods = periods;
      store = store;
      sums = sums;
    }

abbrev pub holds : Lent → List ℕ → List ℕ → List ℕ → List ℤ → List ℤ → Lent
holds l days slots periods store sums =
    record { order = l.order; taps = l.taps; capacity = l.capacity; edition = l.edition; days = days; slots = slots; periods = periods; store = store; sums = sums }

abbrev pub door_after : Lent → DoorCall → Lent
door_after l (start N taps C E) = begins l N taps C E (start_door N taps C E l.days l.slots l.periods l.store l.sums)
door_after l (judge N taps night y state value) = l
door_after l (file d night y s state value) =
    let o = file_door l.order l.taps l.capacity l.edition l.days l.slots l.periods l.store l.sums d night y s state value in
    holds l o.1 o.2 o.3 o.4 o.5
door_after l (withdraw d) =
    let o = withdraw_door l.order l.taps l.capacity l.edition l.days l.slots l.periods l.store l.sums d in
    holds l o.1 o.2 o.3 o.4 o.5
door_after l (counts was) = l
door_after l (response r mean room tags) = l
door_after l (summary room tags stood was) = l

-- the number that the door answers
abbrev pub door_answer : Lent → DoorCall → ℕ
door_answer l (start N taps C E) = (start_door N taps C E l.days l.slots l.periods l.store l.sums).0
door_answer l (judge N taps night y state value) = (judge_door N taps night y state value).0
door_answer l (file d night y s state value) = (file_door l.order l.taps l.capacity l.edition l.days l.slots l.periods l.store l.sums d night y s state value).0
door_answer l (withdraw d) = (withdraw_door l.order l.taps l.capacity l.edition l.days l.slots l.periods l.store l.sums d).0
door_answer l (counts was) = (counts_door l.order l.taps l.capacity l.edition l.days l.slots l.periods l.store l.sums was).0
door_answer l (response r mean room tags) = (response_door l.order l.taps l.capacity l.edition l.days l.slots l.periods l.store l.sums r mean room tags).0
door_answer l (summary room tags stood was) =
    (summary_door l.order l.taps l.capacity l.edition l.days l.slots l.periods l.store l.sums room tags stood was).0

-- a sequence of calls, the latest first
unfoldable pub door_run : Lent → List DoorCall → Lent
door_run l [] = l
door_run l (c ∷ earlier) = door_after (door_run l earlier) c

-- the world that the caller lends, and the library's call behind the door
abbrev pub world_of : Lent → World
world_of l = record { campaign = record_of l.order l.taps l.capacity l.edition l.days l.slots l.periods; store = l.store; sums = l.sums }

abbrev pub behind_door : DoorCall → Call
behind_door (start N taps C E) = call.start N taps C E
behind_door (judge N taps night y state value) = call.judge N taps night y
behind_door (file d night y s state value) = call.file d night y s
behind_door (withdraw d) = call.withdraw d
behind_door (counts was) = call.counts
behind_door (response r mean room tags) = call.response r mean room tags
behind_door (summary room tags stood was) = call.summary room tags

unfoldable pub behind_doors : List DoorCall → List Call
behind_doors [] = []
behind_doors (c ∷ cs) = behind_door c ∷ behind_doors cs
