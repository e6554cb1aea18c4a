-- Document 01, "Refusal numbers": each cause and its number, and an answer in the paper's numbers. Assumes nothing.
use Rattle.std.specs.Prelude.{ℕ, Result, Ok, Err}
use Rattle.sums.specs.Refusals.{Meaning, accepts, refuses}
use Rattle.refusals.specs.declared.Answer.{Answer}
use Rattle.refusals.specs.declared.Refusal.{Refusal}
use Rattle.refusals.specs.declared.Refusal.TheVariants as refusal

-- ---- a cause's number

abbrev pub number : Refusal → ℕ
number refusal.Order = 1
number refusal.Taps = 2
number refusal.TapZero = 3
number (refusal.NotMaximal p) = 4
number refusal.Length = 5
number refusal.Room = 6
number refusal.Sample = 7
number refusal.Predicted = 8
number refusal.Slots = 9
number refusal.Day = 10
number refusal.Standing = 11
number refusal.Full = 12
number refusal.NotStanding = 13
number refusal.NothingStands = 14
number refusal.Apart = 15
number refusal.Window = 16
number refusal.Program = 17
number refusal.Periods = 18
number refusal.Verdict = 23
number refusal.Edition = 24
number refusal.NotOffered = 25

-- ---- an answer in numbers: 0 is accepted

abbrev pub answer : {A : Type 0} → Result A Refusal → ℕ
answer (Ok v) = 0
answer (Err e) = number e

-- the same with what is handed back where it is accepted
abbrev pub numbered : {A : Type 0} → Result A Refusal → Result A ℕ
numbered (Ok v) = Ok v
numbered (Err e) = Err (number e)

-- an answer in numbers, as a caller in C has it: 0 and the value, or the number, and the value that was there stays
abbrev pub means : {A : Type 0} → Result A ℕ → Meaning A
means (Ok v) = accepts v
means (Err n) = refuses n

abbrev pub result_number : {A : Type 0} → Result A ℕ → ℕ
result_number r = (means r).0

-- ---- an answer of a call that asks for maximal taps: its number, and the steps after which the register first returns to all ones, where it is accepted
-- and where 4 refuses it, else 0

-- the steps that a refusal tells
abbrev pub steps : Refusal → ℕ
steps (refusal.NotMaximal p) = p
steps refusal.Order = 0
steps refusal.Taps = 0
steps refusal.TapZero = 0
steps refusal.Length = 0
steps refusal.Room = 0
steps refusal.Sample = 0
steps refusal.Predicted = 0
steps refusal.Slots = 0
steps refusal.Day = 0
steps refusal.Standing = 0
steps refusal.Full = 0
steps refusal.NotStanding = 0
steps refusal.NothingStands = 0
steps refusal.Apart = 0
steps refusal.Window = 0
steps refusal.Program = 0
steps refusal.Periods = 0
steps refusal.Verdict = 0
steps refusal.Edition = 0
steps refusal.NotOffered = 0

abbrev pub answer_period : Result ℕ Refusal → ℕ
answer_period (Ok p) = p
answer_period (Err e) = steps e

abbrev pub said : Result ℕ Refusal → Answer
said r = record { number = answer r; period = answer_period r }
