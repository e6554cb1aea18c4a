-- The word that is said of a run is true: it tells what stood at the place of the last turn. Assumes nothing.
use mathlib.Core.Path.{◌≡◌, refl, sym, subst, ◌∙◌}
use mathlib.Core.Bool.{Bool, true, false}
use mathlib.Core.List.{List}
use Prim.Native.Nat.{ℕ, ◌-◌}
use native.Mathlib.Omega.{arith}
use lib.Dec.{T}
use lib.ListN.{length, drop, length-drop}
use lib.Seq.{length-take-le}
use Rattle.logitems.specs.Phases.{goes_on}
use Rattle.logitems.specs.declared.Item.{Item}
use Rattle.logitems.specs.declared.Found.{Found}
use Rattle.logitems.specs.declared.Found.TheVariants as found
use Rattle.logitems.proofs.Finding.{whole, short, bad, end}
use Rattle.logeffects.specs.Book.{Memory}
use Rattle.logprogram.specs.Program.{Place, turn_on, stands_at, turn}
use Rattle.logprogram.specs.Reads.{Midway, passed, Ran, begun, taken, more}
use Rattle.logprogram.proofs.Turns.{StandsAt, found_at}
use Rattle.meterlog.specs.Buffer.{hand, midway, Inside, Ended}
use Rattle.meterlog.specs.Buffer as run
use Rattle.meterlog.specs.Telling.{word_at, word_for}
use Rattle.meterlog.specs.declared.Progress.{Progress}
use Rattle.std.proofs.Common.{None}
use Rattle.meterlog.specs.declared.Word.{Word}
use Rattle.meterlog.specs.declared.Word.TheVariants as word

-- what stood there, and the word for it
pub data Tells : Found → Word → Type 0 where
  refused : {i : Item} {n : ℕ} → Tells (found.Whole i n) word.RefusedStart
  bad_log : Tells found.Bad word.BadLog
  log_end : Tells found.End word.Silence

-- the last turn of a run, to x
pub data Last (x : Midway) (w : Word) : Type 0 where
  last : {n : ℕ} {text : List ℕ} {reads : List (List ℕ)} {m : Midway} → Ran n text reads m → x ≡ passed m
      → Tells (stands_at m.place m.hand m.ended) w → Last x w

-- ---- while the program goes on no start was refused

found_going : (p : Place) (f : Found) → (turn_on p f).short ≡ false → (turn_on p f).place.going ≡ true → goes_on (turn_on p f).place.book.phase ≡ true
found_going p (found.Whole i n) s h = h
found_going p found.Short s h = absurd (subst T s tt)
found_going p found.Bad s h = absurd (subst T (sym h) tt)
found_going p found.End s h = absurd (subst T (sym h) tt)

none_refused : {n : ℕ} {text : List ℕ} {reads : List (List ℕ)} {x : Midway} → Ran n text reads x → x.place.going ≡ true
    → goes_on x.place.book.phase ≡ true
unfolding turn
none_refused begun h = refl
none_refused (taken {m = m} r g s) h = found_going m.place (stands_at m.place m.hand m.ended) s h
none_refused (more r g s bytes) h = none_refused r g

-- ---- where it stopped by itself

found_tells : (p : Place) (bytes : List ℕ) (ended : Bool) (f : Found) → StandsAt p bytes ended f → goes_on p.book.phase ≡ true
    → (turn_on p f).short ≡ false → (turn_on p f).place.going ≡ false
    → Tells f (word_at (turn_on p f).place.book.phase (length (drop (turn_on p f).used bytes)))
found_tells p bytes ended f (whole _ _ _ _) g s h = rw h refused
found_tells p bytes ended f (short _) g s h = absurd (subst T s tt)
found_tells p bytes ended f (bad e) g s h = rw (g, e) bad_log
found_tells p bytes ended f (end e) g s h = rw (g, e) log_end

last_turn : {n : ℕ} {text : List ℕ} {reads : List (List ℕ)} {x : Midway} → Ran n text reads x → x.place.going ≡ false
    → Last x (word_at x.place.book.phase (length x.hand))
unfolding turn
last_turn begun h = absurd (subst T h tt)
last_turn (taken {m = m} r g s) h =
    last r refl
    (found_tells m.place m.hand m.ended (stands_at m.place m.hand m.ended) (found_at m.place m.hand m.ended) (none_refused r g) s h)
last_turn (more r g s bytes) h = absurd (subst T (sym g ∙ h) tt)

ended_last : {x : Midway} → Ended x None → x.place.going ≡ false → Last x (word_at x.place.book.phase (length x.hand))
ended_last (run.whole r _) h = last_turn r h
ended_last (run.broken _ _ _ some) h = absurd (some refl)

pub word_true : (p : Progress) (bytes : List ℕ) (m : Memory) → Inside p bytes → Ended (midway p bytes m) p.failed → p.failed ≡ None
    → p.mark.going ≡ false → Last (midway p bytes m) (word_for p)
word_true p bytes m i e f g =
    let left = p.to - p.from in
    let l : length (hand p bytes) ≡ left = length-take-le left (drop p.from bytes) (simp length-drop (omega (arith, i.forth, i.inside))) in
    let w : word_for p ≡ word_at p.mark.book.phase left = rw (g, f) in
    subst (Last (midway p bytes m)) (sym w) (rw l at (ended_last (rw f at e) g))
