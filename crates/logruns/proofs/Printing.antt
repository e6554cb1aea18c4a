-- What the program prints is what its turns print, one after another; and the offset is that of the bytes that are left. Assumes nothing.
use mathlib.Core.Path.{◌≡◌, refl, sym, ap, ◌∙◌}
use mathlib.Core.Bool.{Bool, true, false, cond}
use mathlib.Core.List.{List, ◌++◌, append_assoc}
use Prim.Native.Nat.{ℕ, zero, suc, ◌+◌}
use native.Mathlib.Omega.{arith}
use lib.ListN.{length, drop, length-drop}
use Rattle.logitems.specs.declared.Phase.{Phase}
use Rattle.logitems.specs.declared.Found.{Found}
use Rattle.logitems.proofs.Finding.{Stands, whole, short, bad, end}
use Rattle.logprogram.specs.Program.{Place, first_place, turn_on, stands_at, output, log_output}
use Rattle.logprogram.proofs.Turns.{StandsAt, found_at, turns, output_off, output_on, output_any}
use Rattle.logruns.specs.Calls.{Reached, onward, reached}

-- what a place that was reached printed, and what is printed from it on
abbrev all : ℕ → Reached → List ℕ
all m s = s.text ++ output m s.place s.left

one-turn : (m : ℕ) (s : Reached) (b : Bool) → s.place.going ≡ b → all m (cond b (onward s) s) ≡ all (suc m) s
one-turn m s true e =
    append_assoc s.text _ _ ∙ ap (λ l. s.text ++ l) (sym (output_on m s.place s.left e))
one-turn m s false e = ap (λ l. s.text ++ l) (output_off m s.place s.left e ∙ sym (output_off (suc m) s.place s.left e))

turns_print : (n m : ℕ) (input : List ℕ) → all m (reached n input) ≡ output (n + m) first_place input
unfolding reached
turns_print zero m input = ap (λ k. output k first_place input) (omega arith)
turns_print (suc n) m input =
    let e : n + suc m ≡ suc n + m = omega arith in
    one-turn m (reached n input) (reached n input).place.going refl ∙ turns_print n (suc m) input ∙ ap (λ k. output k first_place input) e

-- after any number of turns: what was printed, then what is printed from there on
pub prints : (n : ℕ) (input : List ℕ) → log_output input ≡ (reached n input).text ++ output (suc (length input)) (reached n input).place (reached n input).left
unfolding log_output
prints n input =
    output_any (suc (length input)) (n + suc (length input)) first_place input (omega arith) (omega arith) ∙ sym (turns_print n (suc (length input)) input)

-- ---- the offset

found_offset : (p : Place) (bytes : List ℕ) (ended : Bool) (f : Found) → StandsAt p bytes ended f
    → (turn_on p f).place.offset + length (drop (turn_on p f).used bytes) ≡ p.offset + length bytes
found_offset p bytes ended f s = go ended f s
  where
    go : {q : Phase} {P : ℕ} (ended : Bool) (f : Found) → Stands q P (length bytes) ended f
        → (turn_on p f).place.offset + length (drop (turn_on p f).used bytes) ≡ p.offset + length bytes
    go ended f (whole {n = k} _ _ fits _) = simp length-drop (omega arith)
    go ended f (short _) = refl
    go ended f (bad _) = refl
    go ended f (end _) = refl

onward_offset : (s : Reached) (b : Bool) → (cond b (onward s) s).place.offset + length (cond b (onward s) s).left ≡ s.place.offset + length s.left
onward_offset s false = refl
onward_offset s true =
    rw (turns s.place s.left true) (found_offset s.place s.left true (stands_at s.place s.left true) (found_at s.place s.left true))

-- where no byte is left, the offset, which `bad` prints, is the input's length
pub offset_is : (n : ℕ) (input : List ℕ) → (reached n input).place.offset + length (reached n input).left ≡ length input
unfolding reached
offset_is zero input = omega arith
offset_is (suc n) input = onward_offset (reached n input) (reached n input).place.going ∙ offset_is n input
