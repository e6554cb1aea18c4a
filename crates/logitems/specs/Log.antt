-- Document 01, "The log program", and document 02, requests 1 and 9: the log's items, and what stands at a place of it. Assumes nothing.
use Rattle.std.specs.Prelude.{List, Bool, cond, ℕ, ◌+◌, ◌*◌, eqb, ltb, leb, ℤ, pos, ◌-ℤ◌, length, get_or}
use Rattle.logitems.specs.Kinds.{kind_start, kind_open, kind_sample, kind_enter, kind_withdraw, kind_ask, kind_capture, kind_edition, body_length}
use Rattle.logitems.specs.Phases.{may_stand, may_end}
use Rattle.logitems.specs.declared.Phase.{Phase}
use Rattle.logitems.specs.declared.Item.{Item}
use Rattle.logitems.specs.declared.Item.TheVariants as item
use Rattle.logitems.specs.declared.Found.{Found}
use Rattle.logitems.specs.declared.Found.TheVariants as found

-- ---- numbers little-endian, the kind at place 0

abbrev pub byte_at : List ℕ → ℕ → ℕ
byte_at bytes i = get_or bytes i 0

abbrev pub pair_at : List ℕ → ℕ → ℕ
pair_at bytes i = byte_at bytes i + 256 * byte_at bytes (i + 1)

abbrev pub three_at : List ℕ → ℕ → ℕ
three_at bytes i = pair_at bytes i + 65536 * byte_at bytes (i + 2)

-- three bytes, signed: the upper half of their numbers stands for the negative ones
abbrev pub three_bytes : ℕ
three_bytes = 16777216

abbrev pub first_negative : ℕ
first_negative = 8388608

abbrev pub signed : ℕ → ℤ
signed n = cond (ltb n first_negative) (pos n) (pos n -ℤ pos three_bytes)

abbrev pub sample_at : List ℕ → ℤ
sample_at bytes = signed (three_at bytes 1)

abbrev pub item_at : ℕ → List ℕ → Item
item_at kind bytes =
    cond (eqb kind kind_start) (item.Start (byte_at bytes 1) (pair_at bytes 2) (byte_at bytes 4))
    (cond (eqb kind kind_open) (item.Open (pair_at bytes 1))
    (cond (eqb kind kind_sample) (item.Sample (sample_at bytes))
    (cond (eqb kind kind_enter) item.Enter
    (cond (eqb kind kind_withdraw) (item.Withdraw (pair_at bytes 1))
    (cond (eqb kind kind_capture) (item.Capture (pair_at bytes 1) (byte_at bytes 3))
    (cond (eqb kind kind_edition) (item.Edition (byte_at bytes 1))
    item.Ask))))))

-- the kind of an item
abbrev pub kind_of : Item → ℕ
kind_of (item.Start N taps C) = kind_start
kind_of (item.Open d) = kind_open
kind_of (item.Sample v) = kind_sample
kind_of item.Enter = kind_enter
kind_of (item.Withdraw d) = kind_withdraw
kind_of item.Ask = kind_ask
kind_of (item.Capture d m) = kind_capture
kind_of (item.Edition e) = kind_edition

-- ---- what stands at a place: the bytes from there on that are at hand, and whether the input has no more

-- no byte is left
abbrev pub ending : Phase → Bool → Found
ending p ended = cond ended (cond (may_end p) found.End found.Bad) found.Short

-- a cut body
abbrev pub cut : Bool → Found
cut ended = cond ended found.Bad found.Short

unfoldable pub decoded : Phase → ℕ → List ℕ → Bool → Found
decoded p P bytes ended =
    cond (eqb (length bytes) 0) (ending p ended)
    (cond (may_stand p P (byte_at bytes 0))
    (cond (leb (length bytes) (body_length (byte_at bytes 0))) (cut ended)
    (found.Whole (item_at (byte_at bytes 0) bytes) (body_length (byte_at bytes 0) + 1)))
    found.Bad)
