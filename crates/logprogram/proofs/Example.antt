-- Document 01, the example of "The log program", the samples of its day 1 times 4 as request 2 of document 02 has it: its bytes, and the lines that the
-- program prints for them, by computation; a night of two periods; nights that it does not keep; and logs whose start is refused with 4, whose one line tells the period. Assumes
-- nothing.
use mathlib.Core.Path.{◌≡◌, refl}
use mathlib.Core.List.{List, [], ◌∷◌, ◌++◌}
use Prim.Native.Nat.{ℕ}
use lib.Count.{ones}
use Rattle.sums.specs.Sum.{sum, total, sign}
use Rattle.sums.specs.Text.{ascii}
use Rattle.sums.specs.Lists.{seek, some, every, many, table, put, put_at}
use Rattle.register.specs.Register.{dot, step, window, bit, wave, period}
use Rattle.register.specs.Calls.{taps_answer}
use Rattle.response.specs.Response as formula
use Rattle.rounding.specs.Rounding.{nearest, nearest_in}
use Rattle.finding.specs.Finding.{finding}
use Rattle.nights.specs.Nights.{term}
use Rattle.records.specs.Record.{together}
use Rattle.judging.specs.Judging.{judge_outcome}
use Rattle.campaign.specs.Calls.{start_outcome, file_outcome, withdraw_outcome}
use Rattle.trend.specs.Calls.{counts_outcome, response_outcome}
use Rattle.logitems.specs.Log.{decoded}
use Rattle.report.specs.Lines.{digits}
use Rattle.logeffects.specs.Book.{began_outcome, entered_outcome, applied}
use Rattle.logprogram.specs.Program.{rows_bytes, turn, output, log_output}

-- order 3, taps 3, 2 slots; day 1 with -4,-12,-4,12,12,-12,4; day 2 with seven 5s; ask; withdraw 1; ask
abbrev pub example : List ℕ
example =
    (1 ∷ 3 ∷ 3 ∷ 0 ∷ 2 ∷ [])
    ++ (2 ∷ 1 ∷ 0 ∷ [])
    ++ (3 ∷ 252 ∷ 255 ∷ 255 ∷ 3 ∷ 244 ∷ 255 ∷ 255 ∷ 3 ∷ 252 ∷ 255 ∷ 255 ∷ 3 ∷ 12 ∷ 0 ∷ 0 ∷ 3 ∷ 12 ∷ 0 ∷ 0 ∷ 3 ∷ 244 ∷ 255 ∷ 255 ∷ 3 ∷ 4 ∷ 0 ∷ 0 ∷ [])
    ++ (4 ∷ [])
    ++ (2 ∷ 2 ∷ 0 ∷ [])
    ++ (3 ∷ 5 ∷ 0 ∷ 0 ∷ 3 ∷ 5 ∷ 0 ∷ 0 ∷ 3 ∷ 5 ∷ 0 ∷ 0 ∷ 3 ∷ 5 ∷ 0 ∷ 0 ∷ 3 ∷ 5 ∷ 0 ∷ 0 ∷ 3 ∷ 5 ∷ 0 ∷ 0 ∷ 3 ∷ 5 ∷ 0 ∷ 0 ∷ [])
    ++ (4 ∷ [])
    ++ (6 ∷ [])
    ++ (5 ∷ 1 ∷ 0 ∷ [])
    ++ (6 ∷ [])

abbrev pub example_lines : List ℕ
example_lines =
    ascii "start 0\n"
    ++ ascii "enter 1 0 kept\n"
    ++ ascii "enter 2 0 dead\n"
    ++ ascii "response 0 1 0 1 0\n"
    ++ ascii "0 64 8\n1 0 0\n2 -32 -4\n3 0 0\n4 0 0\n5 0 0\n6 0 0\n"
    ++ ascii "withdraw 1 0\n"
    ++ ascii "response 14 0 0 1 1\n"

pub example_prints : log_output example ≡ example_lines
unfolding log_output output turn decoded applied began_outcome start_outcome entered_outcome file_outcome judge_outcome term finding withdraw_outcome counts_outcome response_outcome rows_bytes digits together taps_answer period seek some every many total sum sign table put put_at nearest nearest_in formula.response formula.correlation wave bit window step dot ones
example_prints = refl

-- request 1 of document 02: order 3, taps 3, 2 slots; day 1 with two periods behind a run-in, whose seven 8388607s are no overload; ask
abbrev pub capture : List ℕ
capture =
    (1 ∷ 3 ∷ 3 ∷ 0 ∷ 2 ∷ [])
    ++ (7 ∷ 1 ∷ 0 ∷ 2 ∷ [])
    ++ (3 ∷ 255 ∷ 255 ∷ 127 ∷ 3 ∷ 255 ∷ 255 ∷ 127 ∷ 3 ∷ 255 ∷ 255 ∷ 127 ∷ 3 ∷ 255 ∷ 255 ∷ 127 ∷ 3 ∷ 255 ∷ 255 ∷ 127 ∷ 3 ∷ 255 ∷ 255 ∷ 127 ∷ 3 ∷ 255 ∷ 255 ∷ 127 ∷ [])
    ++ (3 ∷ 252 ∷ 255 ∷ 255 ∷ 3 ∷ 244 ∷ 255 ∷ 255 ∷ 3 ∷ 252 ∷ 255 ∷ 255 ∷ 3 ∷ 12 ∷ 0 ∷ 0 ∷ 3 ∷ 12 ∷ 0 ∷ 0 ∷ 3 ∷ 244 ∷ 255 ∷ 255 ∷ 3 ∷ 4 ∷ 0 ∷ 0 ∷ [])
    ++ (3 ∷ 253 ∷ 255 ∷ 255 ∷ 3 ∷ 243 ∷ 255 ∷ 255 ∷ 3 ∷ 254 ∷ 255 ∷ 255 ∷ 3 ∷ 12 ∷ 0 ∷ 0 ∷ 3 ∷ 10 ∷ 0 ∷ 0 ∷ 3 ∷ 245 ∷ 255 ∷ 255 ∷ 3 ∷ 3 ∷ 0 ∷ 0 ∷ [])
    ++ (4 ∷ [])
    ++ (6 ∷ [])

abbrev pub capture_lines : List ℕ
capture_lines =
    ascii "start 0\n" ++ ascii "enter 1 0 kept\n" ++ ascii "response 0 1 0 0 0\n" ++ ascii "0 122 8\n1 0 0\n2 -66 -4\n3 4 0\n4 0 0\n5 -2 0\n6 6 0\n"

pub capture_prints : log_output capture ≡ capture_lines
unfolding log_output output turn decoded applied began_outcome start_outcome entered_outcome file_outcome judge_outcome term finding counts_outcome response_outcome rows_bytes digits together taps_answer period seek some every many total sum sign table put put_at nearest nearest_in formula.response formula.correlation wave bit window step dot ones
capture_prints = refl

-- request 9 of document 02: order 3, taps 3, 1 slot; what chooses an edition, or nothing; day 1 with -6, 9, 0, 5, -1, -1, -8; ask
abbrev pub halves_log : List ℕ → List ℕ
halves_log chosen =
    (1 ∷ 3 ∷ 3 ∷ 0 ∷ 1 ∷ [])
    ++ chosen
    ++ (2 ∷ 1 ∷ 0 ∷ [])
    ++ (3 ∷ 250 ∷ 255 ∷ 255 ∷ 3 ∷ 9 ∷ 0 ∷ 0 ∷ 3 ∷ 0 ∷ 0 ∷ 0 ∷ 3 ∷ 5 ∷ 0 ∷ 0 ∷ 3 ∷ 255 ∷ 255 ∷ 255 ∷ 3 ∷ 255 ∷ 255 ∷ 255 ∷ 3 ∷ 248 ∷ 255 ∷ 255 ∷ [])
    ++ (4 ∷ [])
    ++ (6 ∷ [])

abbrev pub away_lines : List ℕ
away_lines = ascii "enter 1 0 kept\n" ++ ascii "response 0 1 0 0 0\n" ++ ascii "0 -4 -1\n1 -12 -2\n2 4 1\n3 -24 -3\n4 20 3\n5 20 3\n6 12 2\n"

abbrev pub even_lines : List ℕ
even_lines = ascii "enter 1 0 kept\n" ++ ascii "response 0 1 0 0 0\n" ++ ascii "0 -4 0\n1 -12 -2\n2 4 0\n3 -24 -3\n4 20 2\n5 20 2\n6 12 2\n"

pub record Editions : Type 0 where
  pub none : log_output (halves_log []) ≡ ascii "start 0\n" ++ away_lines
  pub one : log_output (halves_log (8 ∷ 1 ∷ [])) ≡ ascii "start 0\n" ++ ascii "edition 0\n" ++ away_lines
  pub two : log_output (halves_log (8 ∷ 2 ∷ [])) ≡ ascii "start 0\n" ++ ascii "edition 0\n" ++ even_lines
  pub three : log_output (halves_log (8 ∷ 3 ∷ [])) ≡ ascii "start 0\n" ++ ascii "edition 24\n"
  -- twice, after an ask, and as the first item; and the input may end after it
  pub twice : log_output (halves_log (8 ∷ 2 ∷ 8 ∷ 1 ∷ [])) ≡ ascii "start 0\n" ++ ascii "edition 0\n" ++ ascii "bad 7\n"
  pub late : log_output (halves_log (6 ∷ 8 ∷ 2 ∷ [])) ≡ ascii "start 0\n" ++ ascii "response 14 0 0 0 0\n" ++ ascii "bad 6\n"
  pub early : log_output (8 ∷ 2 ∷ 1 ∷ 3 ∷ 3 ∷ 0 ∷ 1 ∷ []) ≡ ascii "bad 0\n"
  pub alone : log_output (1 ∷ 3 ∷ 3 ∷ 0 ∷ 1 ∷ 8 ∷ 2 ∷ []) ≡ ascii "start 0\n" ++ ascii "edition 0\n"
  pub cut : log_output (1 ∷ 3 ∷ 3 ∷ 0 ∷ 1 ∷ 8 ∷ []) ≡ ascii "start 0\n" ++ ascii "bad 5\n"

pub editions_print : Editions
unfolding log_output output turn decoded applied began_outcome start_outcome entered_outcome file_outcome judge_outcome term finding counts_outcome response_outcome rows_bytes digits together taps_answer period seek some every many total sum sign table put put_at nearest nearest_in formula.response formula.correlation wave bit window step dot ones
editions_print =
    record { none = refl; one = refl; two = refl; three = refl; twice = refl; late = refl; early = refl; alone = refl; cut = refl }

-- order 2, taps 3, 1 slot; a day of m periods behind a run-in, with one sample, which is not kept
abbrev pub unkept_log : ℕ → ℕ → List ℕ
unkept_log d m = (1 ∷ 2 ∷ 3 ∷ 0 ∷ 1 ∷ []) ++ (7 ∷ d ∷ 0 ∷ m ∷ []) ++ (3 ∷ 5 ∷ 0 ∷ 0 ∷ []) ++ (4 ∷ [])

pub record Unkept : Type 0 where
  pub no_period : log_output (unkept_log 1 0) ≡ ascii "start 0\n" ++ ascii "enter 1 18 -\n"
  pub five : log_output (unkept_log 1 5) ≡ ascii "start 0\n" ++ ascii "enter 1 17 -\n"
  pub seventeen : log_output (unkept_log 1 17) ≡ ascii "start 0\n" ++ ascii "enter 1 18 -\n"
  pub no_day : log_output (unkept_log 0 17) ≡ ascii "start 0\n" ++ ascii "enter 0 10 -\n"

pub unkept_prints : Unkept
unfolding log_output output turn decoded applied began_outcome start_outcome entered_outcome rows_bytes digits taps_answer period seek table put window step dot ones
unkept_prints = record { no_period = refl; five = refl; seventeen = refl; no_day = refl }

-- order 4, the taps, 1 slot; ask, which is not reached
abbrev pub short_log : ℕ → List ℕ
short_log taps = (1 ∷ 4 ∷ taps ∷ 0 ∷ 1 ∷ []) ++ (6 ∷ [])

pub record Short : Type 0 where
  pub taps_15 : log_output (short_log 15) ≡ ascii "start 4 5\n"
  pub taps_5 : log_output (short_log 5) ≡ ascii "start 4 6\n"

pub short_prints : Short
unfolding log_output output turn decoded applied began_outcome rows_bytes digits period seek window step dot ones
short_prints = record { taps_15 = refl; taps_5 = refl }
