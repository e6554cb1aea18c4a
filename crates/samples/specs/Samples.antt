-- Document 01, "What it covers", "The campaign", "Refusal numbers" and "Room", and document 02, requests 1 and 7: the sample range and its rails, a recording's
-- length, buffers that are short or cleared, and the checks 6 and 7 in their order. Assumes nothing.
use Rattle.std.specs.Prelude.{List, ◌∷◌, ◌++◌, Bool, not, ◌&&◌, ◌||◌, ℕ, ◌+◌, ◌*◌, eqb, ltb, ℤ, pos, negsuc, neg_ℤ, length}
use Rattle.std.specs.Int.Signed.{lt_z, le_z}
use Rattle.sums.specs.Equal.{eq_z}
use Rattle.sums.specs.Lists.{at, table, put, some}

-- ---- the sample range, from rail to rail

-- the rails, -8,388,608 and 8,388,607
abbrev pub lowest : ℤ
lowest = negsuc 8388607

abbrev pub highest : ℤ
highest = pos 8388607

abbrev pub sample_out : ℤ → Bool
sample_out z = lt_z z lowest || lt_z highest z

-- 7: of those handed in; 8: of those predicted
abbrev pub some_out : ℕ → (ℕ → ℤ) → Bool
some_out n y = some n (λ j. sample_out (y j))

abbrev pub rail : ℤ → Bool
rail z = eq_z z lowest || eq_z z highest

-- strictly between the rails
abbrev pub inside : ℤ → Bool
inside z = lt_z lowest z && lt_z z highest

-- what m samples strictly between the rails may add up to, -8,388,607·m to 8,388,606·m
abbrev pub least_of : ℕ → ℤ
least_of m = neg_ℤ (pos (8388607 * m))

abbrev pub most_of : ℕ → ℤ
most_of m = pos (8388606 * m)

abbrev pub within : ℕ → ℤ → Bool
within m z = le_z (least_of m) z && le_z z (most_of m)

-- ---- lengths

-- 5: recording or response not exactly P long
abbrev pub length_off : ℕ → List ℤ → Bool
length_off P y = not (eqb (length y) P)

-- 6: by the lengths lent, the working room, P+1 wide numbers and P tags
abbrev pub work_short : ℕ → ℕ → ℕ → Bool
work_short P room tags = ltb room (P + 1) || ltb tags P

-- and with an output of P
abbrev pub room_short : ℕ → ℕ → ℕ → ℕ → Bool
room_short P out room tags = ltb out P || work_short P room tags

-- an output of P and a prediction's room of P+1 wide numbers
abbrev pub lent_short : ℕ → ℕ → ℕ → Bool
lent_short P out room = ltb out P || ltb room (P + 1)

-- ---- the checks of a measuring call, in their order

-- those of what it is handed, then 6, by whether what is lent is too short, 7, and what it checks after them
abbrev pub sample_checks : List (ℕ × Bool) → List ℤ → Bool → List (ℕ × Bool) → List (ℕ × Bool)
sample_checks given y short more = given ++ (6, short) ∷ (7, some_out (length y) (at y)) ∷ more

-- ---- zeros in the place of the first n

abbrev pub cleared_wide : ℕ → List ℤ → List ℤ
cleared_wide n l = put (table n (λ _. pos 0)) l

abbrev pub cleared_tags : ℕ → List ℕ → List ℕ
cleared_tags n l = put (table n (λ _. 0)) l
