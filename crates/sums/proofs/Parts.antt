-- A part of a list that is lent and written over: the list then has what was written in the part's place. Assumes nothing.
use mathlib.Core.Path.{◌≡◌, refl, sym, ap, ◌∙◌}
use mathlib.Core.List.{List, [], ◌∷◌, ◌++◌}
use Prim.Native.Nat.{ℕ, ◌+◌, ◌-◌, ◌≤◌, ◌<◌}
use native.Mathlib.Omega.{arith}
use borrow.Rule.Slice.PartMut.{mid_of, put_mid}
use lib.IntN.{ℤ, pos, ◌+ℤ◌, +ℤ_idr}
use lib.ListN.{length, take, drop, length-drop, get_or-eq_default}
use lib.Seq.{ext_get_or, length-take-le, get_or-take, get_or-drop}
use Rattle.sums.specs.Lists.{at, table, put, put_at}
use Rattle.sums.proofs.Tables.{length-table, at_table, put-table, by_places}

-- a list is the table of its places
pub table_at : (l : List ℤ) → table (length l) (at l) ≡ l
table_at l =
    ext_get_or (pos 0) (table (length l) (at l)) l (length-table (length l) (at l)) (λ i h. at_table (length l) (at l) i (pos 0) (omega (arith, length-table (length l) (at l))))

-- the whole of a list written over
pub put_whole : {A : Type 0} (vs l : List A) → length l ≡ length vs → put vs l ≡ vs
unfolding put
put_whole [] [] e = refl
put_whole [] (x ∷ l) e = absurd (omega arith)
put_whole (v ∷ vs) [] e = absurd (omega arith)
put_whole (v ∷ vs) (x ∷ l) e = ap (λ t. v ∷ t) (put_whole vs l (omega arith))

-- the first places of a list are what was put there
pub take_put : {A : Type 0} (n : ℕ) (f : ℕ → A) (l : List A) → take n (put (table n f) l) ≡ table n f
take_put n f l = ap (take n) (put-table n f l) ∙ ap (λ k. take k (table n f ++ drop n l)) (sym (length-table n f)) ∙ front (table n f) (drop n l)
  where
    front : {A : Type 0} (vs rest : List A) → take (length vs) (vs ++ rest) ≡ vs
    front [] rest = refl
    front (v ∷ vs) rest = ap (λ t. v ∷ t) (front vs rest)

module _ {A : Type 0} (k n : ℕ) (l : List A) (fits : k + n ≤ length l) where
  count : k + n - k ≡ n
  count = omega arith

  pub part_length : length (mid_of k (k + n - k) l) ≡ n
  part_length = rw count (length-take-le n (drop k l) (omega (arith, length-drop k l)))

  -- as many numbers as the part has in its place
  pub part_written : (vs last : List A) → length vs ≡ n → last ≡ vs → put_mid k (k + n - k) l last ≡ put_at k vs l
  unfolding put_at put
  part_written vs last e w = rw (w, count) (ap (λ m. take k l ++ (vs ++ drop m (drop k l))) (sym e))

  -- the same, put over what the part had
  pub part_put : (vs last : List A) → length vs ≡ n → last ≡ put vs (mid_of k (k + n - k) l) → put_mid k (k + n - k) l last ≡ put_at k vs l
  part_put vs last e w = part_written vs last e (w ∙ put_whole vs (mid_of k (k + n - k) l) (part_length ∙ sym e))

pub part_at : (k n : ℕ) (l : List ℤ) (j : ℕ) → j < n → at (mid_of k (k + n - k) l) j ≡ at l (k + j)
part_at k n l j h = get_or-take (k + n - k) (drop k l) j (pos 0) (omega arith) ∙ get_or-drop k l j (pos 0)

-- a list that is at each place the sum of two, the second not longer
pub by_sums : (row l s : List ℤ) → length row ≤ length l → length s ≡ length l → ((j : ℕ) → at s j ≡ at l j +ℤ at row j)
    → s ≡ put (table (length row) (λ j. at l j +ℤ at row j)) l
by_sums row l s h e w =
    by_places (pos 0) (length row) (λ j. at l j +ℤ at row j) l s h e (λ i _. w i)
    (λ i o. w i ∙ ap (λ z. at l i +ℤ z) (get_or-eq_default row (pos 0) o) ∙ +ℤ_idr (at l i))
