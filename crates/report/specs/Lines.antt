-- Document 01, "The log program", "Lines", and document 02, request 9: what is printed, byte by byte in ASCII. Assumes nothing.
use Rattle.std.specs.Prelude.{◌≡◌, List, [], ◌∷◌, ◌++◌, cond, ℕ, zero, suc, ◌+◌, ◌/◌, ◌%◌, eqb, ltb, ◌≤◌, ℤ, pos, nat_abs, length, take}
use Prim.Native.Char.{code}
use Rattle.std.specs.Int.Signed.{lt_z}
use Rattle.sums.specs.Text.{ascii}
use Rattle.refusals.specs.declared.Answer.{Answer}
use Rattle.campaign.specs.Calls.{verdict_number}
use Rattle.campaign.specs.declared.Entry.{Entry}
use Rattle.campaign.specs.declared.Verdict.{Verdict}
use Rattle.campaign.specs.declared.Verdict.TheVariants as verdict
use Rattle.trend.specs.declared.Tally.{Tally}
use Rattle.report.specs.declared.Line.{Line}
use Rattle.report.specs.declared.Line.TheVariants as line
use Rattle.report.specs.declared.Text.{Text}

-- ---- numbers

-- in decimal, with no zeros in front, in at most k digits
unfoldable pub digits : ℕ → ℕ → List ℕ
digits zero n = []
digits (suc k) n = cond (ltb n 10) ((code "0" + n) ∷ []) (digits k (n / 10) ++ (code "0" + n % 10) ∷ [])

-- a number of 64 bits has at most 20
abbrev pub decimal : ℕ → List ℕ
decimal n = digits 20 n

-- a negative one after a minus sign
abbrev pub decimal_z : ℤ → List ℕ
decimal_z z = cond (lt_z z (pos 0)) (ascii "-" ++ decimal (nat_abs z)) (decimal (nat_abs z))

-- after a space
abbrev pub spaced : ℕ → List ℕ
spaced n = ascii " " ++ decimal n

-- ---- the lines

abbrev pub line_end : List ℕ
line_end = ascii "\n"

-- the answer's number, and after 4 the period
abbrev pub answer_text : Answer → List ℕ
answer_text a = cond (eqb a.number 4) (spaced a.number ++ spaced a.period) (spaced a.number)

-- `start answer`, and after 4 the period
abbrev pub start_line : Answer → List ℕ
start_line a = ascii "start" ++ answer_text a ++ line_end

-- a word and a number
abbrev pub one_line : List ℕ → ℕ → List ℕ
one_line word n = word ++ spaced n ++ line_end

-- `edition answer`
abbrev pub edition_line : ℕ → List ℕ
edition_line answer = one_line (ascii "edition") answer

-- kept, overload, dead, or - when refused
abbrev pub verdict_word : Verdict → List ℕ
verdict_word (verdict.Kept s) = ascii " kept"
verdict_word (verdict.Overloaded p) = ascii " overload"
verdict_word verdict.Dead = ascii " dead"
verdict_word (verdict.Refused n) = ascii " -"

-- `enter day answer verdict`
abbrev pub enter_line : Entry → List ℕ
enter_line e = ascii "enter" ++ spaced e.day ++ spaced (verdict_number e.verdict) ++ verdict_word e.verdict ++ line_end

-- `withdraw day answer`
abbrev pub withdraw_line : ℕ → ℕ → List ℕ
withdraw_line d answer = ascii "withdraw" ++ spaced d ++ spaced answer ++ line_end

-- `response answer standing overloaded dead withdrawn`
abbrev pub response_line : ℕ → Tally → List ℕ
response_line answer t =
    ascii "response" ++ spaced answer ++ spaced t.standing ++ spaced t.overloaded ++ spaced t.dead ++ spaced t.withdrawn ++ line_end

-- the line that an item makes
abbrev pub line_bytes : Line → List ℕ
line_bytes line.Silent = []
line_bytes (line.Started a) = start_line a
line_bytes (line.Edition answer) = edition_line answer
line_bytes (line.Entered e) = enter_line e
line_bytes (line.Withdrawn d answer) = withdraw_line d answer
line_bytes (line.Answered answer t) = response_line answer t

-- `k r mean`
abbrev pub row_bytes : ℕ → ℤ → ℤ → List ℕ
row_bytes k r mean = decimal k ++ ascii " " ++ decimal_z r ++ ascii " " ++ decimal_z mean ++ line_end

-- `bad` and the byte offset
abbrev pub bad_bytes : ℕ → List ℕ
bad_bytes offset = one_line (ascii "bad") offset

-- ---- written to a buffer from a place on, up to the place that is answered

pub record Wrote (text : List ℕ) (at : ℕ) (before : List ℕ) (next : ℕ) (after : List ℕ) : Type 0 where
  pub is : take next after ≡ take at before ++ text
  pub size : next ≡ at + length text

-- put behind what is in a text
abbrev pub Added : List ℕ → Text → Text → Type 0
Added text before after = Wrote text before.length before.bytes after.length after.bytes

-- all that is in a text
abbrev pub Spells : List ℕ → Text → Type 0
Spells bytes t = (take t.length t.bytes ≡ bytes) × (t.length ≤ 128)
