-- Document 01, "Numbers to hold it to" and the log example, the samples of its day 1 times 4 as request 2 of document 02 has it, and captures, as
-- request 1 has them, computed from the outcome functions: order 3, taps 3; and the sequence that document 001 prints beside that register's. Assumes nothing.
use mathlib.Core.Path.{◌≡◌, refl}
use mathlib.Core.List.{List, [], ◌∷◌, ◌++◌}
use mathlib.Core.Bool.{Bool, true, false}
use Prim.Native.Nat.{ℕ}
use lib.Count.{ones}
use lib.IntN.{ℤ, pos, negsuc}
use lib.ListN.{replicate}
use Rattle.sums.specs.Sum.{sum, total, sign}
use Rattle.sums.specs.Lists.{seek, some, every, many, table, put, put_at}
use Rattle.sums.specs.Turned.{turned}
use Rattle.register.specs.Register.{dot, step, window, bit, wave, period}
use Rattle.register.specs.Calls.{taps_answer}
use Rattle.response.specs.Response as formula
use Rattle.legendre.specs.Legendre as legendre
use Rattle.rounding.specs.Rounding.{away_from_zero, to_even, nearest, nearest_in, rounded}
use Rattle.finding.specs.Finding.{finding}
use Rattle.nights.specs.Nights.{term}
use Rattle.nights.specs.declared.Night.TheVariants.{Period, Capture}
use Rattle.records.specs.Record.{standing, overloaded, dead, state, together, fresh, filed}
use Rattle.judging.specs.Judging.{judge_outcome}
use Rattle.campaign.specs.Calls.{file_outcome, enter_outcome, withdraw_outcome}
use Rattle.trend.specs.Calls.{response_outcome}
use Rattle.history.specs.Run.{World, enter, withdraw, after, answer, run}
use Rattle.campaign.specs.declared.Verdict.{Verdict}
use Rattle.campaign.specs.declared.Verdict.TheVariants.{Kept, Overloaded, Dead, Refused}

-- a start of C slots in edition E, and in edition 1: two slots, and one
abbrev of_edition : ℕ → ℕ → World
of_edition C E = record { campaign = fresh 3 3 C E; store = replicate 14 (pos 0); sums = replicate 7 (pos 0) }

abbrev of : ℕ → World
of C = of_edition C away_from_zero

abbrev verdict : World → ℕ → List ℤ → Verdict
verdict w d y = (enter_outcome w.campaign w.store w.sums d Period y).0.entry.verdict

abbrev captured : World → ℕ → ℕ → List ℤ → Verdict
captured w d m y = (enter_outcome w.campaign w.store w.sums d (Capture m) y).0.entry.verdict

-- the state that the entry leaves its day in
abbrev leaves : World → ℕ → List ℤ → ℕ
leaves w d y = state (enter_outcome w.campaign w.store w.sums d Period y).0.campaign d

-- seven samples, the first of them z
abbrev with : ℤ → List ℤ
with z = z ∷ replicate 6 (pos 0)

-- ---- means

-- 4/8, -4/8, -10/8, 12/8 and -12/8
abbrev means_in : ℕ → List ℤ
means_in e = rounded e (pos 4) 8 ∷ rounded e (negsuc 3) 8 ∷ rounded e (negsuc 9) 8 ∷ rounded e (pos 12) 8 ∷ rounded e (negsuc 11) 8 ∷ []

pub means : (means_in away_from_zero ≡ pos 1 ∷ negsuc 0 ∷ negsuc 0 ∷ pos 2 ∷ negsuc 1 ∷ [])
    × (means_in to_even ≡ pos 0 ∷ pos 0 ∷ negsuc 0 ∷ pos 2 ∷ negsuc 1 ∷ [])
unfolding nearest nearest_in
means = (refl, refl)

-- ---- samples and days

pub record Entries : Type 0 where
  pub may_stand_lem : verdict (of 2) 1 (with (pos 8388606)) ≡ Kept 0
  pub overloads : verdict (of 2) 1 (with (pos 8388607)) ≡ Overloaded 0
  pub overloads_low : verdict (of 2) 1 (pos 0 ∷ negsuc 8388607 ∷ replicate 5 (pos 0)) ≡ Overloaded 1
  -- no night is dropped without a word: its day says what became of it
  pub kept_marked : leaves (of 2) 1 (with (pos 8)) ≡ standing
  pub overload_marked : leaves (of 2) 1 (with (pos 8388607)) ≡ overloaded
  pub dead-marked : leaves (of 2) 1 (with (pos 7)) ≡ dead
  pub out_of_range : verdict (of 2) 1 (with (pos 8388608)) ≡ Refused 7
  pub day_0 : verdict (of 2) 0 (with (pos 8)) ≡ Refused 10
  pub day_367 : verdict (of 2) 367 (with (pos 8)) ≡ Refused 10
  pub day_366 : verdict (of 2) 366 (with (pos 8)) ≡ Kept 0
  pub six_samples : verdict (of 2) 1 (replicate 6 (pos 0)) ≡ Refused 5
  pub again : verdict (after (of 2) (enter 1 Period (with (pos 8)))) 1 (with (pos 8)) ≡ Refused 11
  -- a dead day needs no slot when all are used, nor does an overloaded one
  pub no_slot : verdict (after (of 1) (enter 1 Period (with (pos 8)))) 2 (with (pos 8)) ≡ Refused 12
  pub dead_all_used : verdict (after (of 1) (enter 1 Period (with (pos 8)))) 2 (with (pos 7)) ≡ Dead
  pub loud_all_used : verdict (after (of 1) (enter 1 Period (with (pos 8)))) 2 (with (pos 8388607)) ≡ Overloaded 0

pub entries : Entries
unfolding file_outcome judge_outcome term finding together taps_answer period seek some every many total sum table put put_at window step dot ones
entries =
    record {
      may_stand_lem = refl;
      overloads = refl;
      overloads_low = refl;
      kept_marked = refl;
      overload_marked = refl;
      dead-marked = refl;
      out_of_range = refl;
      day_0 = refl;
      day_367 = refl;
      day_366 = refl;
      six_samples = refl;
      again = refl;
      no_slot = refl;
      dead_all_used = refl;
      loud_all_used = refl;
    }

-- ---- a sample that stands

-- whether a record with day 1 in its only slot, of m periods, the day's first sample z and the sums agreeing, holds together
abbrev holds_with : ℕ → ℤ → Bool
holds_with m z = together (filed (fresh 3 3 1 away_from_zero) 1 standing 0 1 m) (with z) (with z)

pub record InASlot : Type 0 where
  pub under_the_upper_rail : holds_with 1 (pos 8388606) ≡ true
  pub at_the_upper_rail : holds_with 1 (pos 8388607) ≡ false
  pub over_the_lower_rail : holds_with 1 (negsuc 8388606) ≡ true
  pub at_the_lower_rail : holds_with 1 (negsuc 8388607) ≡ false
  -- sixteen times as much in a slot of 16 periods
  pub the_most : (holds_with 16 (pos 134217696) ≡ true) × (holds_with 16 (pos 134217697) ≡ false)
  pub the_least : (holds_with 16 (negsuc 134217711) ≡ true) × (holds_with 16 (negsuc 134217712) ≡ false)
  -- a used slot has 1 to 16 periods, and a free one none
  pub no_periods : holds_with 0 (pos 0) ≡ false
  pub too_many : holds_with 17 (pos 0) ≡ false
  pub free_with_periods : together (filed (fresh 3 3 1 away_from_zero) 1 standing 1 0 1) (with (pos 0)) (with (pos 0)) ≡ false

pub in_a_slot : InASlot
unfolding together taps_answer period seek every many total sum window step dot ones
in_a_slot =
    record {
      under_the_upper_rail = refl;
      at_the_upper_rail = refl;
      over_the_lower_rail = refl;
      at_the_lower_rail = refl;
      the_most = (refl, refl);
      the_least = (refl, refl);
      no_periods = refl;
      too_many = refl;
      free_with_periods = refl;
    }

-- ---- an edition

abbrev holds_in : ℕ → Bool
holds_in e = together (fresh 3 3 1 e) (replicate 7 (pos 0)) (replicate 7 (pos 0))

pub editions : (holds_in 0 ≡ false) × (holds_in 1 ≡ true) × (holds_in 2 ≡ true) × (holds_in 3 ≡ false)
unfolding together taps_answer period seek every many total sum window step dot ones
editions = (refl, refl, refl, refl)

-- ---- the log example

abbrev day_1 : List ℤ
day_1 = negsuc 3 ∷ negsuc 11 ∷ negsuc 3 ∷ pos 12 ∷ pos 12 ∷ negsuc 11 ∷ pos 4 ∷ []

abbrev day_2 : List ℤ
day_2 = replicate 7 (pos 5)

abbrev asked : World → ℕ × List ℤ × List ℤ × List ℤ × List ℕ
asked w = response_outcome w.campaign w.store w.sums (replicate 7 (pos 9)) (replicate 7 (pos 9)) (replicate 8 (pos 9)) (replicate 7 9)

pub record LogExample : Type 0 where
  pub kept : verdict (of 2) 1 day_1 ≡ Kept 0
  pub dead : verdict (run (of 2) (enter 1 Period day_1 ∷ [])) 2 day_2 ≡ Dead
  pub response : asked (run (of 2) (enter 2 Period day_2 ∷ enter 1 Period day_1 ∷ []))
      ≡ (
        0,
        pos 64 ∷ pos 0 ∷ negsuc 31 ∷ pos 0 ∷ pos 0 ∷ pos 0 ∷ pos 0 ∷ [],
        pos 8 ∷ pos 0 ∷ negsuc 3 ∷ pos 0 ∷ pos 0 ∷ pos 0 ∷ pos 0 ∷ [],
        replicate 8 (pos 0),
        replicate 7 0,
      )
  pub withdrawal : answer (run (of 2) (enter 2 Period day_2 ∷ enter 1 Period day_1 ∷ [])) (withdraw 1) ≡ 0
  pub nothing : asked (run (of 2) (withdraw 1 ∷ enter 2 Period day_2 ∷ enter 1 Period day_1 ∷ []))
      ≡ (14, replicate 7 (pos 9), replicate 7 (pos 9), replicate 8 (pos 9), replicate 7 9)

pub log_example : LogExample
unfolding run file_outcome judge_outcome term finding withdraw_outcome response_outcome together taps_answer period seek some every many total sum sign table put put_at nearest nearest_in formula.response formula.correlation wave bit window step dot ones
log_example = record { kept = refl; dead = refl; response = refl; withdrawal = refl; nothing = refl }

-- ---- means at halves, in both editions

abbrev halves : List ℤ
halves = negsuc 5 ∷ pos 9 ∷ pos 0 ∷ pos 5 ∷ negsuc 0 ∷ negsuc 0 ∷ negsuc 7 ∷ []

-- the answer, r and the mean of a campaign in edition E with that night
abbrev at_halves : ℕ → ℕ × List ℤ × List ℤ
at_halves E = let o = asked (run (of_edition 1 E) (enter 1 Period halves ∷ [])) in (o.0, o.1, o.2)

abbrev halves_r : List ℤ
halves_r = negsuc 3 ∷ negsuc 11 ∷ pos 4 ∷ negsuc 23 ∷ pos 20 ∷ pos 20 ∷ pos 12 ∷ []

pub halves_means : (at_halves away_from_zero ≡ (0, halves_r, negsuc 0 ∷ negsuc 1 ∷ pos 1 ∷ negsuc 2 ∷ pos 3 ∷ pos 3 ∷ pos 2 ∷ []))
    × (at_halves to_even ≡ (0, halves_r, pos 0 ∷ negsuc 1 ∷ pos 0 ∷ negsuc 2 ∷ pos 2 ∷ pos 2 ∷ pos 2 ∷ []))
unfolding run file_outcome judge_outcome term finding withdraw_outcome response_outcome together taps_answer period seek some every many total sum sign table put put_at nearest nearest_in formula.response formula.correlation wave bit window step dot ones
halves_means = (refl, refl)

-- ---- captures

-- a run-in at the rail
abbrev run_in : List ℤ
run_in = replicate 7 (pos 8388607)

abbrev night : List ℤ
night =
    run_in ++ negsuc 3 ∷ negsuc 11 ∷ negsuc 3 ∷ pos 12 ∷ pos 12 ∷ negsuc 11 ∷ pos 4
    ∷ negsuc 2 ∷ negsuc 12 ∷ negsuc 1 ∷ pos 12 ∷ pos 10 ∷ negsuc 10 ∷ pos 3 ∷ []

pub record Captures : Type 0 where
  -- the rails of the run-in are no overload, and its samples are not in the sums
  pub kept : captured (of 2) 1 2 night ≡ Kept 0
  pub response : asked (run (of 2) (enter 1 (Capture 2) night ∷ []))
      ≡ (
        0,
        pos 122 ∷ pos 0 ∷ negsuc 65 ∷ pos 4 ∷ pos 0 ∷ negsuc 1 ∷ pos 6 ∷ [],
        pos 8 ∷ pos 0 ∷ negsuc 3 ∷ pos 0 ∷ pos 0 ∷ pos 0 ∷ pos 0 ∷ [],
        replicate 8 (pos 0),
        replicate 7 0,
      )
  -- one period and a capture in one mean: 186 over 3 periods of 8, and not over 2 days
  pub both : (asked (run (of 2) (enter 2 Period day_1 ∷ enter 1 (Capture 2) night ∷ []))).2
      ≡ pos 8 ∷ pos 0 ∷ negsuc 3 ∷ pos 0 ∷ pos 0 ∷ pos 0 ∷ pos 0 ∷ []
  -- the place of an overload counts from the first sample after the run-in
  pub first_place_lem : captured (of 2) 1 1 (run_in ++ with (pos 8388607)) ≡ Overloaded 0
  pub last_place : captured (of 2) 1 2 (replicate 20 (pos 0) ++ negsuc 8388607 ∷ []) ≡ Overloaded 13
  -- the spread is that of all periods together, and not of the run-in
  pub dead : captured (of 2) 1 2 (run_in ++ with (pos 7) ++ with (pos 6)) ≡ Dead
  pub not_dead : captured (of 2) 1 2 (run_in ++ with (pos 7) ++ with (negsuc 0)) ≡ Kept 0
  pub no_periods : captured (of 2) 1 0 run_in ≡ Refused 18
  pub seventeen : captured (of 2) 1 17 night ≡ Refused 18
  pub one_short : captured (of 2) 1 2 (run_in ++ run_in) ≡ Refused 5
  -- 7 speaks of the run-in too
  pub out_of_range : captured (of 2) 1 1 (with (pos 8388608) ++ with (pos 8)) ≡ Refused 7
  -- withdrawn, its slot has no periods
  pub withdrawal : (run (of 2) (withdraw 1 ∷ enter 1 (Capture 2) night ∷ [])).campaign.periods ≡ replicate 64 0

pub captures : Captures
unfolding run file_outcome judge_outcome term finding withdraw_outcome response_outcome together taps_answer period seek some every many total sum sign table put put_at nearest nearest_in formula.response formula.correlation wave bit window step dot ones
captures =
    record {
      kept = refl;
      response = refl;
      both = refl;
      first_place_lem = refl;
      last_place = refl;
      dead = refl;
      not_dead = refl;
      no_periods = refl;
      seventeen = refl;
      one_short = refl;
      out_of_range = refl;
      withdrawal = refl;
    }

-- ---- document 001: "For p = 7 … the Legendre sequence is identical with an ML sequence": from its place 5 on it is that of order 3, taps 3

pub seven_is_a_register : (table 7 (turned 7 5 (legendre.bit 7)) ≡ table 7 (bit 3 3)) × (table 7 (bit 3 3) ≡ 1 ∷ 1 ∷ 1 ∷ 0 ∷ 0 ∷ 1 ∷ 0 ∷ [])
unfolding legendre.bit some table bit window step dot ones
seven_is_a_register = (refl, refl)
