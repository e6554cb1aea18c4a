-- The lines of a response, written one behind another; and a turn, put together of an item's outcome and its text. Assumes nothing.
use mathlib.Core.Path.{◌≡◌}
use mathlib.Core.Bool.{Bool, false}
use mathlib.Core.List.{List}
use Prim.Native.Nat.{ℕ, ◌+◌}
use native.Mathlib.Numerals.{add-one}
use lib.IntN.{ℤ}
use Rattle.sums.specs.Lists as lists
use Rattle.report.specs.Lines.{row_bytes, Wrote}
use Rattle.report.proofs.Writing.{wrote_none, wrote_more}
use Rattle.logeffects.specs.Book.{Memory}
use Rattle.logeffects.specs.declared.Applied.{Applied}
use Rattle.logitems.specs.Phases.{goes_on}
use Rattle.logprogram.specs.Program.{Turn, rows_bytes, printed, took}

pub rows_none : (r mean : List ℤ) (at : ℕ) (l : List ℕ) → Wrote (rows_bytes 0 r mean) at l at l
unfolding rows_bytes
rows_none r mean at l = wrote_none at l

pub rows_more : (k : ℕ) (r mean : List ℤ) {at next last : ℕ} {l s t : List ℕ} → Wrote (rows_bytes k r mean) at l next s
    → Wrote (row_bytes k (lists.at r k) (lists.at mean k)) next s last t → Wrote (rows_bytes (k + 1) r mean) at l last t
unfolding rows_bytes
rows_more k r mean v w = rw (add-one k) (wrote_more v w)

pub took-made : {x : Applied} {m : Memory} {o : Applied × Memory} (offset size : ℕ) → (x, m) ≡ o → (text : List ℕ) → text ≡ printed (x, m)
    → (g : Bool) → g ≡ goes_on x.book.phase
    → ◌≡◌ {A = Turn} (record { text = text; place = record { book = x.book; memory = m; offset = offset + size; going = g }; used = size; short = false })
    (took offset size o)
took-made offset size e text t g h = rw (← e, t, h)
