-- The log program's state in its buffer, and what a turn does to it, reads and writes that fail included. Assumes nothing.
use Rattle.std.specs.Prelude.{◌≡◌, Bool, true, false, ◌⊎◌, List, ◌++◌, ℕ, ◌+◌, ◌-◌, ◌≤◌, eqb, length, take, drop, Option, Some, None}
use Rattle.logeffects.specs.Book.{Memory}
use Rattle.logprogram.specs.Program.{place_of, stopped_mark}
use Rattle.logprogram.specs.Reads.{Midway, next, passed, fed, halted, Ran, most_turns}
use Rattle.logprogram.specs.declared.Turned.{Turned}
use Rattle.meterlog.specs.declared.Progress.{Progress}
use Rattle.meterlog.specs.declared.Failed.{Failed}
use Rattle.meterlog.specs.declared.Failed.TheVariants.{Writing, Reading}

-- ---- the state in the buffer

-- the bytes at hand, read and not yet taken
abbrev pub hand : Progress → List ℕ → List ℕ
hand p bytes = take (p.to - p.from) (drop p.from bytes)

abbrev pub midway : Progress → List ℕ → Memory → Midway
midway p bytes m = record { place = place_of p.mark m; hand = hand p bytes; ended = p.ended }

-- they lie in the buffer
pub record Inside (p : Progress) (bytes : List ℕ) : Type 0 where
  pub forth : p.from ≤ p.to
  pub inside : p.to ≤ length bytes

-- ---- after a write and after a read, by what these answered

abbrev pub stopping : Progress → Failed → Progress
stopping p f = record { mark = stopped_mark p.mark; from = p.from; to = p.to; ended = p.ended; failed = Some f }

-- what failed stops the program
abbrev pub provided : Bool → Progress → Failed → Progress
provided true p f = p
provided false p f = stopping p f

-- the turn's bytes are taken, provided that its text was written
abbrev pub after_write : Progress → Turned → Bool → Progress
after_write p t wrote =
    provided wrote (record { mark = t.mark; from = p.from + t.used; to = p.to; ended = p.ended; failed = None }) Writing

-- the bytes at hand are at the front, and n more lie behind them, where none are the end of the input, provided that it could be read
abbrev pub after_read : Progress → Bool → ℕ → Progress
after_read p got n =
    provided got (record { mark = p.mark; from = 0; to = p.to - p.from + n; ended = eqb n 0; failed = None }) Reading

-- one read
pub record Refilled (p : Progress) (before : List ℕ) (x : Progress) (after : List ℕ) : Type 0 where
  pub got : Bool
  pub came : List ℕ
  pub behind : hand x after ≡ hand p before ++ came
  pub is : x ≡ after_read p got (length came)

-- ---- one turn, from m to x

pub data Stepped (m x : Midway) : Option Failed → Type 0 where
  -- its text is written
  taken : (next m).short ≡ false → x ≡ passed m → Stepped m x None
  -- too few bytes are at hand, and one read goes behind them
  more : (next m).short ≡ true → (bytes : List ℕ) → x ≡ fed m bytes → Stepped m x None
  -- one of the two failed, and the program stops
  unwritten : (next m).short ≡ false → x ≡ halted (passed m) → Stepped m x (Some Writing)
  unread : (next m).short ≡ true → (bytes : List ℕ) → x ≡ halted (fed m bytes) → Stepped m x (Some Reading)

-- ---- the whole run, to x

pub data Ended (x : Midway) : Option Failed → Type 0 where
  -- nothing failed: turns from the beginning lead there, and the program stopped by itself or took the most turns that it may
  whole : {n : ℕ} {text : List ℕ} {reads : List (List ℕ)} → Ran n text reads x → (x.place.going ≡ false) ⊎ (n ≡ most_turns) → Ended x None
  -- they lead to a turn that could not be written, or for which nothing could be read
  broken : {n : ℕ} {text : List ℕ} {reads : List (List ℕ)} {m : Midway} {f : Option Failed} → Ran n text reads m → m.place.going ≡ true → Stepped m x f
      → (f ≡ None → ⊥) → Ended x f
