-- Document 01, "Lines", and document 02, requests 6 and 9: a line of each kind, letter by letter as the papers spell it, so that a word misspelt in the specs and in the code alike
-- is refused here. Assumes nothing.
use mathlib.Core.Path.{◌≡◌, refl}
use mathlib.Core.List.{[]}
use Prim.Native.Nat.{ℕ}
use lib.IntN.{negsuc}
use Rattle.sums.specs.Text.{ascii}
use Rattle.refusals.specs.declared.Answer.{Answer}
use Rattle.campaign.specs.declared.Verdict.TheVariants as verdict
use Rattle.trend.specs.declared.Tally.{Tally}
use Rattle.report.specs.declared.Line.TheVariants as line
use Rattle.report.specs.Lines.{digits, line_bytes, row_bytes, bad_bytes}

abbrev answer : ℕ → ℕ → Answer
answer n p = record { number = n; period = p }

abbrev tally : ℕ → ℕ → ℕ → ℕ → ℕ → Tally
tally u s o d w = record { unseen = u; standing = s; overloaded = o; dead = d; withdrawn = w }

pub record Spelt : Type 0 where
  pub silent : line_bytes line.Silent ≡ []
  pub started : line_bytes (line.Started (answer 0 7)) ≡ ascii "start 0\n"
  pub start_refused : line_bytes (line.Started (answer 9 0)) ≡ ascii "start 9\n"
  pub short : line_bytes (line.Started (answer 4 5)) ≡ ascii "start 4 5\n"
  pub edition : line_bytes (line.Edition 0) ≡ ascii "edition 0\n"
  pub edition_refused : line_bytes (line.Edition 24) ≡ ascii "edition 24\n"
  pub kept : line_bytes (line.Entered (record { day = 1; verdict = verdict.Kept 0 })) ≡ ascii "enter 1 0 kept\n"
  pub overloaded : line_bytes (line.Entered (record { day = 2; verdict = verdict.Overloaded 3 })) ≡ ascii "enter 2 0 overload\n"
  pub dead : line_bytes (line.Entered (record { day = 2; verdict = verdict.Dead })) ≡ ascii "enter 2 0 dead\n"
  pub refused : line_bytes (line.Entered (record { day = 367; verdict = verdict.Refused 10 })) ≡ ascii "enter 367 10 -\n"
  pub withdrawn : line_bytes (line.Withdrawn 1 0) ≡ ascii "withdraw 1 0\n"
  pub nothing : line_bytes (line.Answered 14 (tally 364 0 0 1 1)) ≡ ascii "response 14 0 0 1 1\n"
  pub answered : line_bytes (line.Answered 0 (tally 356 4 3 2 1)) ≡ ascii "response 0 4 3 2 1\n"
  pub row : row_bytes 2 (negsuc 7) (negsuc 0) ≡ ascii "2 -8 -1\n"
  pub bad : bad_bytes 6 ≡ ascii "bad 6\n"

pub lines_spelt : Spelt
unfolding digits
lines_spelt =
    record {
      silent = refl;
      started = refl;
      start_refused = refl;
      short = refl;
      edition = refl;
      edition_refused = refl;
      kept = refl;
      overloaded = refl;
      dead = refl;
      refused = refl;
      withdrawn = refl;
      nothing = refl;
      answered = refl;
      row = refl;
      bad = refl;
    }
