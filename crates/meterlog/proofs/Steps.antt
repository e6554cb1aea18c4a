-- A turn in the buffer is a turn on the bytes at hand, and one turn after another leads to the end. Assumes nothing.
use mathlib.Core.Path.{◌≡◌, refl, sym, ap, subst, ◌∙◌}
use mathlib.Core.Bool.{Bool, true, false}
use mathlib.Core.Logic.{inl, inr}
use mathlib.Core.List.{List, [], ◌++◌}
use Prim.Native.Nat.{ℕ, suc, ◌+◌, ◌-◌, ◌≤◌}
use native.Mathlib.Omega.{arith}
use lib.Dec.{T, eqb}
use lib.ListN.{length, drop}
use Rattle.logeffects.specs.Book.{Memory}
use Rattle.logprogram.specs.Program.{Turn, first_memory, first_place, place_of, turn_of}
use Rattle.logprogram.specs.Reads.{Midway, next, passed, fed, halted, Ran, begun, most_turns}
use Rattle.logprogram.specs.Reads as runs
use Rattle.logprogram.specs.declared.Bookmark.{Bookmark}
use Rattle.logprogram.specs.declared.Turned.{Turned}
use Rattle.logprogram.proofs.Turns.{turn_bounded}
use Rattle.meterlog.specs.Buffer.{hand, midway, provided, after_write, Refilled, Stepped, taken, more, unwritten, unread, Ended, whole, broken}
use Rattle.meterlog.specs.declared.Progress.{Progress}
use Rattle.meterlog.specs.declared.Failed.{Failed}
use Rattle.meterlog.specs.declared.Failed.TheVariants.{Reading}
use Rattle.std.proofs.Common.{Option, Some, None}
use Rattle.meterlog.proofs.Behind.{none_is}

-- ---- one turn

module _ (p : Progress) (before : List ℕ) where
  -- its text was handed to be written: the code's turn is the turn on the bytes at hand
  pub written_step : {m₀ m : Memory} (t : Turned) (out after : List ℕ) (wrote : Bool) → turn_of p.mark (Some t) m out ≡ next (midway p before m₀)
      → hand (after_write p t true) after ≡ drop t.used (hand p before)
      → Stepped (midway p before m₀) (midway (after_write p t wrote) after m) (after_write p t wrote).failed
  written_step {m₀} {m} t out after wrote e h = go wrote
    where
      late : (next (midway p before m₀)).short ≡ false
      late = ap (λ (x : Turn). x.short) (sym e)

      here : List ℕ → Midway
      here l = record { place = place_of t.mark m; hand = l; ended = p.ended }

      there : midway (after_write p t true) after m ≡ passed (midway p before m₀)
      there =
          ap (λ l. here l) h
          ∙ ap (λ (x : Turn). record { place = x.place; hand = drop x.used (hand p before); ended = p.ended }) e

      go : (wrote : Bool) → Stepped (midway p before m₀) (midway (after_write p t wrote) after m) (after_write p t wrote).failed
      go true = taken late there
      go false = unwritten late (ap halted there)

  -- too few bytes were at hand, and one read went behind them
  pub read_step : {x : Progress} {after : List ℕ} (m : Memory) → (next (midway p before m)).short ≡ true → Refilled p before x after
      → Stepped (midway p before m) (midway x after m) x.failed
  read_step {x} {after} m s r =
      subst (λ (y : Progress). hand y after ≡ hand p before ++ r.came → Stepped (midway p before m) (midway y after m) y.failed) (sym r.is)
      (go r.got) r.behind
    where
      y : Progress
      y = record { mark = p.mark; from = 0; to = p.to - p.from + length r.came; ended = eqb (length r.came) 0; failed = None }

      there : hand y after ≡ hand p before ++ r.came → midway y after m ≡ fed (midway p before m) r.came
      there h = rw (h, none_is r.came)

      go : (ok : Bool) → let z = provided ok y Reading in hand z after ≡ hand p before ++ r.came → Stepped (midway p before m) (midway z after m) z.failed
      go true h = more s r.came (there h)
      go false h = unread s r.came (ap halted (there h))

pub offset_after : {m x : Midway} {f : Option Failed} → Stepped m x f → x.place.offset ≤ m.place.offset + 5
offset_after {m} (taken s e) = omega (arith, ap (λ (x : Midway). x.place.offset) e, (turn_bounded m.place m.hand m.ended).1)
offset_after {m} (more s bytes e) = omega (arith, ap (λ (x : Midway). x.place.offset) e)
offset_after {m} (unwritten s e) = omega (arith, ap (λ (x : Midway). x.place.offset) e, (turn_bounded m.place m.hand m.ended).1)
offset_after {m} (unread s bytes e) = omega (arith, ap (λ (x : Midway). x.place.offset) e)

-- ---- one after another

-- the program is where n turns from the beginning lead
pub data Held (n : ℕ) (x : Midway) : Option Failed → Type 0 where
  ran : {text : List ℕ} {reads : List (List ℕ)} → Ran n text reads x → Held n x None

pub held_first : (m : Memory) (b : Bookmark) → m ≡ first_memory → place_of b first_memory ≡ first_place
    → Held 0 (record { place = place_of b m; hand = []; ended = false }) None
held_first m b e f = rw (e, f) (ran begun)

-- one turn more, where it goes on
pub held_step : {n : ℕ} {m x : Midway} {f g : Option Failed} → Held n m f → m.place.going ≡ true → Stepped m x g → x.place.going ≡ true → Held (suc n) x g
held_step (ran r) b (taken s e) o = rw e (ran (runs.taken r b s))
held_step (ran r) b (more s bytes e) o = rw e (ran (runs.more r b s bytes))
held_step (ran r) b (unwritten s e) o = absurd (subst T (sym o ∙ ap (λ (x : Midway). x.place.going) e) tt)
held_step (ran r) b (unread s bytes e) o = absurd (subst T (sym o ∙ ap (λ (x : Midway). x.place.going) e) tt)

-- the last one, where it stops
pub held_stopped : {n : ℕ} {m x : Midway} {f g : Option Failed} → Held n m f → m.place.going ≡ true → Stepped m x g → x.place.going ≡ false → Ended x g
held_stopped (ran r) b (taken s e) o = rw e (whole (runs.taken r b s) (inl (ap (λ (x : Midway). x.place.going) (sym e) ∙ o)))
held_stopped (ran r) b (more s bytes e) o = rw e (whole (runs.more r b s bytes) (inl (ap (λ (x : Midway). x.place.going) (sym e) ∙ o)))
held_stopped (ran r) b (unwritten s e) o = broken r b (unwritten s e) (λ q. cc)
held_stopped (ran r) b (unread s bytes e) o = broken r b (unread s bytes e) (λ q. cc)

pub held_last : {x : Midway} {f : Option Failed} → Held most_turns x f → Ended x f
held_last (ran r) = whole r (inr refl)
