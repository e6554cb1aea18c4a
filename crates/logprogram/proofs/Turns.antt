-- What the turns print, one after another: their number is no matter, where there are enough. Assumes nothing.
use mathlib.Core.Path.{◌≡◌, refl, sym, ap, subst, ◌∙◌}
use mathlib.Core.Bool.{Bool, true, false}
use mathlib.Core.List.{List, [], ◌++◌}
use Prim.Native.Nat.{ℕ, zero, suc, ◌+◌, ◌≤◌, ◌<◌}
use native.Mathlib.Omega.{arith}
use lib.Dec.{T}
use lib.ListN.{length, drop, length-drop}
use Rattle.logitems.specs.declared.Phase.{Phase}
use Rattle.logitems.specs.declared.Found.{Found}
use Rattle.logitems.specs.declared.Found.TheVariants as found
use Rattle.logitems.proofs.Finding.{Stands, whole, short, bad, end, stands}
use Rattle.report.specs.Lines.{bad_bytes}
use Rattle.logeffects.specs.Book.{day_length}
use Rattle.logprogram.specs.Program.{Place, Turn, stopped, turn_on, stands_at, turn, output}

-- ---- a turn

-- what may stand at a place
abbrev pub StandsAt : Place → List ℕ → Bool → Found → Type 0
StandsAt p bytes ended f = Stands p.book.phase (day_length p.book.campaign.order) (length bytes) ended f

pub found_at : (p : Place) (bytes : List ℕ) (ended : Bool) → StandsAt p bytes ended (stands_at p bytes ended)
found_at p bytes ended = stands p.book.phase (day_length p.book.campaign.order) bytes ended

pub turns : (p : Place) (bytes : List ℕ) (ended : Bool) → turn p bytes ended ≡ turn_on p (stands_at p bytes ended)
unfolding turn
turns p bytes ended = refl

pub turn_by : (p : Place) (bytes : List ℕ) (ended : Bool) (f : Found) → f ≡ stands_at p bytes ended → turn p bytes ended ≡ turn_on p f
turn_by p bytes ended f e = turns p bytes ended ∙ ap (turn_on p) (sym e)

-- where too few bytes are at hand nothing is done
abbrev pub idle : Place → Turn
idle p = record { text = []; place = p; used = 0; short = true }

found_short : (p : Place) (f : Found) → (turn_on p f).short ≡ true → turn_on p f ≡ idle p
found_short p (found.Whole i n) e = absurd (subst T (sym e) tt)
found_short p found.Short e = refl
found_short p found.Bad e = absurd (subst T (sym e) tt)
found_short p found.End e = absurd (subst T (sym e) tt)

pub short_idle : (p : Place) (bytes : List ℕ) (ended : Bool) → (turn p bytes ended).short ≡ true → turn p bytes ended ≡ idle p
short_idle p bytes ended = rw (turns p bytes ended) (found_short p (stands_at p bytes ended))

-- and those are fewer than five
found_few : (p : Place) (m : ℕ) {q : Phase} {P : ℕ} (ended : Bool) (f : Found) → Stands q P m ended f → (turn_on p f).short ≡ true → m ≤ 4
found_few p m ended f (whole _ _ _ _) e = absurd (subst T (sym e) tt)
found_few p m ended f (short few) e = few
found_few p m ended f (bad _) e = absurd (subst T (sym e) tt)
found_few p m ended f (end _) e = absurd (subst T (sym e) tt)

pub short_few : (p : Place) (bytes : List ℕ) (ended : Bool) → (turn p bytes ended).short ≡ true → length bytes ≤ 4
short_few p bytes ended = rw (turns p bytes ended) (found_few p (length bytes) ended (stands_at p bytes ended) (found_at p bytes ended))

-- it takes at most the bytes at hand, and five
found_bounded : (p : Place) (m : ℕ) {q : Phase} {P : ℕ} (ended : Bool) (f : Found) → Stands q P m ended f
    → ((turn_on p f).used ≤ m) × ((turn_on p f).place.offset ≤ p.offset + 5)
found_bounded p m ended f (whole _ some fits few) = (fits, omega arith)
found_bounded p m ended f (short _) = (omega arith, omega arith)
found_bounded p m ended f (bad _) = (omega arith, omega arith)
found_bounded p m ended f (end _) = (omega arith, omega arith)

pub turn_bounded : (p : Place) (bytes : List ℕ) (ended : Bool) → ((turn p bytes ended).used ≤ length bytes) × ((turn p bytes ended).place.offset ≤ p.offset + 5)
turn_bounded p bytes ended = rw (turns p bytes ended) (found_bounded p (length bytes) ended (stands_at p bytes ended) (found_at p bytes ended))

-- ---- the turns

pub output_off : (n : ℕ) (p : Place) (bytes : List ℕ) → p.going ≡ false → output n p bytes ≡ []
unfolding output
output_off zero p bytes e = refl
output_off (suc n) p bytes e = rw e

pub output_on : (n : ℕ) (p : Place) (bytes : List ℕ) → p.going ≡ true
    → output (suc n) p bytes ≡ (turn p bytes true).text ++ output n (turn p bytes true).place (drop (turn p bytes true).used bytes)
unfolding output
output_on n p bytes e = rw e

-- after a turn
abbrev pub then : ℕ → List ℕ → Turn → List ℕ
then n bytes t = t.text ++ output n t.place (drop t.used bytes)

-- any two numbers above that of the bytes
abbrev Again : ℕ → ℕ → List ℕ → Type 0
Again m n bytes = (x : Place) (k : ℕ) → 0 < k → k ≤ length bytes → output m x (drop k bytes) ≡ output n x (drop k bytes)

pub output_any : (m n : ℕ) (p : Place) (bytes : List ℕ) → length bytes < m → length bytes < n → output m p bytes ≡ output n p bytes
output_any zero n p bytes h l = absurd (omega arith)
output_any (suc m) zero p bytes h l = absurd (omega arith)
output_any (suc m) (suc n) p bytes h l =
    go p.going refl (λ x k some fits. output_any m n x (drop k bytes) (simp length-drop (omega arith)) (simp length-drop (omega arith)))
  where
    by : (f : Found) → StandsAt p bytes true f → Again m n bytes → then m bytes (turn_on p f) ≡ then n bytes (turn_on p f)
    by f (whole {i = i} {n = k} _ some fits _) again =
        ap (λ l. (turn_on p (found.Whole i k)).text ++ l) (again (turn_on p (found.Whole i k)).place k some fits)
    by f (bad _) again = ap (λ l. bad_bytes p.offset ++ l) (output_off m (stopped p) bytes refl ∙ sym (output_off n (stopped p) bytes refl))
    by f (end _) again = output_off m (stopped p) bytes refl ∙ sym (output_off n (stopped p) bytes refl)

    go : (b : Bool) → p.going ≡ b → Again m n bytes → output (suc m) p bytes ≡ output (suc n) p bytes
    go false e again = output_off (suc m) p bytes e ∙ sym (output_off (suc n) p bytes e)
    go true e again =
        output_on m p bytes e ∙ ap (then m bytes) (turns p bytes true) ∙ by _ (found_at p bytes true) again
        ∙ sym (output_on n p bytes e ∙ ap (then n bytes) (turns p bytes true))
