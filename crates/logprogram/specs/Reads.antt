-- The log program as it runs: the input comes in reads, each behind the bytes that were read and not yet taken. Assumes nothing.
use Rattle.std.specs.Prelude.{◌≡◌, Bool, true, false, List, [], ◌∷◌, ◌++◌, ℕ, suc, ◌^◌, drop}
use Rattle.logprogram.specs.Program.{Place, Turn, first_place, stopped, turn}

-- what the reads give: one that gives nothing is the end of the input
unfoldable pub given : List (List ℕ) → List ℕ
given [] = []
given ([] ∷ reads) = []
given ((b ∷ bytes) ∷ reads) = (b ∷ bytes) ++ given reads

abbrev pub none : List ℕ → Bool
none [] = true
none (b ∷ bytes) = false

-- ---- between two turns

-- the program's place, the bytes at hand, read and not yet taken, and whether the input has ended
pub record Midway : Type 0 where
  pub place : Place
  pub hand : List ℕ
  pub ended : Bool

abbrev pub outset : Midway
outset = record { place = first_place; hand = []; ended = false }

-- the turn on the bytes at hand
abbrev pub next : Midway → Turn
next m = turn m.place m.hand m.ended

-- after it, its bytes are taken
abbrev pub passed : Midway → Midway
passed m = record { place = (next m).place; hand = drop (next m).used m.hand; ended = m.ended }

-- where they were too few, one read goes behind them
abbrev pub fed : Midway → List ℕ → Midway
fed m bytes = record { place = m.place; hand = m.hand ++ bytes; ended = none bytes }

-- the program stops there
abbrev pub halted : Midway → Midway
halted m = record { place = stopped m.place; hand = m.hand; ended = m.ended }

-- ---- from the beginning

-- n turns: the text that they hand to be written, what the reads gave, and where the program then is; a turn comes only where it goes on
pub data Ran : ℕ → List ℕ → List (List ℕ) → Midway → Type 0 where
  begun : Ran 0 [] [] outset
  taken : {n : ℕ} {text : List ℕ} {reads : List (List ℕ)} {m : Midway} → Ran n text reads m → m.place.going ≡ true → (next m).short ≡ false
      → Ran (suc n) (text ++ (next m).text) reads (passed m)
  more : {n : ℕ} {text : List ℕ} {reads : List (List ℕ)} {m : Midway} → Ran n text reads m → m.place.going ≡ true → (next m).short ≡ true
      → (bytes : List ℕ) → Ran (suc n) text (reads ++ bytes ∷ []) (fed m bytes)

-- a proved loop has to end, and nothing says that the input does: at a billion turns a second these are 36 years
abbrev pub most_turns : ℕ
most_turns = 2 ^ 60
