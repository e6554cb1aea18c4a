-- Document 01, "The log program", and document 02, request 1, as one function: from all bytes of the input to all bytes that are printed. What stands at a place of the
-- log is crate `logitems`'s `decoded`, what an item does is `logeffects`'s `applied`, and a line's bytes are `report`'s: here is only how they
-- follow each other. Assumes nothing.
use Rattle.std.specs.Prelude.{List, [], ◌++◌, Bool, true, false, ℕ, zero, suc, ◌+◌, ℤ, pos, length, take, drop, replicate, Option, Some, None}
use Rattle.sums.specs.Lists.{at}
use Rattle.logitems.specs.Phases.{goes_on}
use Rattle.logitems.specs.Log.{decoded}
use Rattle.logitems.specs.declared.Found.{Found}
use Rattle.logitems.specs.declared.Found.TheVariants as found
use Rattle.report.specs.Lines.{line_bytes, row_bytes, bad_bytes}
use Rattle.logeffects.specs.Book.{Memory, memory, unbegun_book, day_length, applied}
use Rattle.logeffects.specs.declared.Book.{Book}
use Rattle.logeffects.specs.declared.Applied.{Applied}
use Rattle.logprogram.specs.declared.Bookmark.{Bookmark}
use Rattle.logprogram.specs.declared.Turned.{Turned}

-- ---- where the program stands

-- the state between items, the memory lent, the offset of the next kind byte, and whether the program goes on
pub record Place : Type 0 where
  pub book : Book
  pub memory : Memory
  pub offset : ℕ
  pub going : Bool

-- at the beginning: no item yet, and zeros for the largest order, the most slots and the longest night, of five periods, that the program takes
abbrev pub zeros : ℕ → List ℤ
zeros n = replicate n (pos 0)

abbrev pub first_memory : Memory
first_memory = memory (zeros 4088) (zeros 511) (zeros 2555) (zeros 511) (zeros 511) (zeros 512) (replicate 511 0)

abbrev pub first_place : Place
first_place = record { book = unbegun_book; memory = first_memory; offset = 0; going = true }

-- ---- what an item prints: its line, and those of a response

-- the first n lines `k r mean`
unfoldable pub rows_bytes : ℕ → List ℤ → List ℤ → List ℕ
rows_bytes zero r mean = []
rows_bytes (suc n) r mean = rows_bytes n r mean ++ row_bytes n (at r n) (at mean n)

abbrev pub printed : Applied × Memory → List ℕ
printed o = line_bytes o.0.line ++ rows_bytes o.0.rows o.1.r o.1.mean

-- ---- one turn

-- what it prints, where the program stands after it, how many bytes it took, and whether too few were at hand to tell
pub record Turn : Type 0 where
  pub text : List ℕ
  pub place : Place
  pub used : ℕ
  pub short : Bool

-- an item of n bytes, applied
abbrev pub took : ℕ → ℕ → Applied × Memory → Turn
took offset n o =
    record {
      text = printed o;
      place = record { book = o.0.book; memory = o.1; offset = offset + n; going = goes_on o.0.book.phase };
      used = n;
      short = false;
    }

abbrev pub stopped : Place → Place
stopped p = record { book = p.book; memory = p.memory; offset = p.offset; going = false }

abbrev pub turn_on : Place → Found → Turn
turn_on p (found.Whole item n) = took p.offset n (applied p.book item p.memory)
turn_on p found.Short = record { text = []; place = p; used = 0; short = true }
turn_on p found.Bad = record { text = bad_bytes p.offset; place = stopped p; used = 0; short = false }
turn_on p found.End = record { text = []; place = stopped p; used = 0; short = false }

-- what stands at a place, whose bytes are those from it on that are at hand, of which no more will come where the input has ended
abbrev pub stands_at : Place → List ℕ → Bool → Found
stands_at p bytes ended = decoded p.book.phase (day_length p.book.campaign.order) bytes ended

unfoldable pub turn : Place → List ℕ → Bool → Turn
turn p bytes ended = turn_on p (stands_at p bytes ended)

-- the same by what the code holds: the memory lent beside a bookmark, and the text in a buffer
abbrev pub place_of : Bookmark → Memory → Place
place_of b m = record { book = b.book; memory = m; offset = b.offset; going = b.going }

-- the same place, and the program stops there
abbrev pub stopped_mark : Bookmark → Bookmark
stopped_mark b = record { book = b.book; offset = b.offset; going = false }

-- none where too few bytes were at hand to tell
abbrev pub turn_of : Bookmark → Option Turned → Memory → List ℕ → Turn
turn_of b None m out = record { text = []; place = place_of b m; used = 0; short = true }
turn_of b (Some t) m out = record { text = take t.length out; place = place_of t.mark m; used = t.used; short = false }

-- ---- all of them

-- what is printed from a place on, in at most n turns
unfoldable pub output : ℕ → Place → List ℕ → List ℕ
output zero p bytes = []
output (suc n) p bytes = elim p.going [
  | true ↦ let t = turn p bytes true in t.text ++ output n t.place (drop t.used bytes)
  | false ↦ []
]

-- what the program prints: an item takes a byte at least, so there are no more turns than bytes, and one for the end
unfoldable pub log_output : List ℕ → List ℕ
log_output input = output (suc (length input)) first_place input
