-- What a chain over a list, or over its first places, finds is what a test asks at each of these places. Assumes nothing.
use mathlib.Core.Path.{◌≡◌, refl, sym, ap, ◌∙◌}
use mathlib.Core.Bool.{Bool, true, false, cond, not, ◌||◌}
use mathlib.Core.List.{List, ◌∷◌}
use Prim.Native.Nat.{ℕ, ◌+◌, ◌-◌, ◌≤◌}
use borrow.Author.Tests.{ltb-false, lt-ltb, le-ltb}
use native.Mathlib.Decide.{dec_lt}
use native.Mathlib.Omega.{arith}
use lib.Dec.{ltb}
use lib.ListN.{length, get_or, take, drop, length-drop}
use lib.IntN.{ℤ, pos}
use lib.Pointwise.{pointwise}
use lib.Seq.{ext_get_or, length-take-le, get_or-take, get_or-drop}
use Rattle.std.specs.List.{sum_by, count_by, list_all, position_or_len, position, zip}
use Rattle.std.specs.Prelude.{Some, None}
use Rattle.std.specs.Option.{unwrap_or}
use Rattle.std.proofs.lemmas.List.Recursion.{is_sum_by, and_at, and_from_places}
use Rattle.std.proofs.lemmas.List.Sums.{prefix_len-le-length, fails_before_first, passes_at_first}
use Rattle.std.proofs.lemmas.Slice.Zip.{length-zip, get_or-zip}
use Rattle.std.proofs.lemmas.Slice.Eq.{slice_eq-Decides}
use Rattle.std.proofs.lemmas.Bool.Decides.{Decides-int_eq}
use Rattle.std.proofs.Common.{int_eq}
use Rattle.sums.specs.Equal.{eq_z}
use Rattle.sums.proofs.Equal.{eq_z_is, eq_z-same}
use Rattle.sums.specs.Sum.{total}
use Rattle.sums.specs.Lists.{at, every, many, seek}
use Rattle.sums.proofs.Everywhere.{every-at, every_all, every_ext, or_left, or_right, or_rest}
use Rattle.sums.proofs.Sum.{total_front, total_ext}
use Rattle.sums.proofs.Seek.{seek-first, first_unique}
use Rattle.records.proofs.Whole.{both_ways}

module _ {A : Type 0} (z : A) where
  -- ---- a whole list, of n numbers

  pub total_list : (f : A → ℕ) (xs : List A) (n : ℕ) → length xs ≡ n → total n (λ i. f (get_or xs i z)) ≡ sum_by f xs
  unfolding total
  total_list f xs n l =
      ap (λ m. total m (λ i. f (get_or xs i z))) (sym l)
      ∙ is_sum_by (λ ys. total (length ys) (λ i. f (get_or ys i z))) f refl (λ y ys. total_front (length ys) (λ i. f (get_or (y ∷ ys) i z))) xs

  module _ (p : A → Bool) (xs : List A) (n : ℕ) (l : length xs ≡ n) where
    pub many_list : many n (λ i. p (get_or xs i z)) ≡ count_by p xs
    unfolding many
    many_list = total_list (λ x. cond (p x) 1 0) xs n l

    pub every_list : every n (λ i. p (get_or xs i z)) ≡ list_all p xs
    every_list =
        both_ways _ _
        (λ t. and_from_places (list_all p) p refl (λ x ys. refl) xs z (λ i h. every-at n (λ j. p (get_or xs j z)) t i (omega arith)))
        (λ t. every_all n (λ j. p (get_or xs j z)) (λ i h. and_at (list_all p) p refl (λ x ys. refl) xs i z (omega arith) t))

    pub seek_list : seek (λ i. p (get_or xs i z)) n 0 ≡ position_or_len p xs
    seek_list =
        first_unique (λ i. p (get_or xs i z)) (seek-first (λ i. p (get_or xs i z)) n 0)
        (record {
          from = omega arith;
          to = omega (arith, prefix_len-le-length (λ x. not (p x)) xs);
          before = λ i a b. fails_before_first p xs i z b;
          here = λ a. passes_at_first p xs z (omega arith);
        })

  -- ---- the first n of a list

  module _ (xs : List A) (n : ℕ) (l : n ≤ length xs) where
    pub total_first : (f : A → ℕ) → total n (λ i. f (get_or xs i z)) ≡ sum_by f (take n xs)
    total_first f = total_ext n (λ i h. ap f (sym (get_or-take n xs i z h))) ∙ total_list f (take n xs) n (length-take-le n xs l)

    pub many_first : (p : A → Bool) → many n (λ i. p (get_or xs i z)) ≡ count_by p (take n xs)
    unfolding many
    many_first p = total_first (λ x. cond (p x) 1 0)

    pub every_first : (p : A → Bool) → every n (λ i. p (get_or xs i z)) ≡ list_all p (take n xs)
    every_first p = every_ext n (λ i h. ap p (sym (get_or-take n xs i z h))) ∙ every_list p (take n xs) n (length-take-le n xs l)

    pub seek_first : (p : A → Bool) → seek (λ i. p (get_or xs i z)) n 0 ≡ position_or_len p (take n xs)
    seek_first p =
        first_unique (λ i. p (get_or xs i z)) (seek-first (λ i. p (get_or xs i z)) n 0)
        (let long = length-take-le n xs l in
        record {
          from = omega arith;
          to = omega (arith, long, prefix_len-le-length (λ x. not (p x)) (take n xs));
          before = λ i a b. ap p (sym (get_or-take n xs i z (omega (arith, long, prefix_len-le-length (λ x. not (p x)) (take n xs))))) ∙ fails_before_first p (take n xs) i z b;
          here = λ a. ap p (sym (get_or-take n xs (position_or_len p (take n xs)) z (omega arith))) ∙ passes_at_first p (take n xs) z (omega (arith, long));
        })

  -- ---- what is left of a list of n numbers past its first k

  pub every_rest : (p : A → Bool) (xs : List A) (k n : ℕ) → length xs ≡ n → every n (λ i. ltb i k || p (get_or xs i z)) ≡ list_all p (drop k xs)
  every_rest p xs k n l =
      let test = λ (i : ℕ). ltb i k || p (get_or xs i z) in
      both_ways _ _
      (λ t. and_from_places (list_all p) p refl (λ x ys. refl) (drop k xs) z (λ i h.
      ap p (get_or-drop k xs i z) ∙ or_rest (ltb (k + i) k) (p (get_or xs (k + i) z)) (every-at n test t (k + i) (omega (arith, length-drop k xs))) (le-ltb (k + i) k (omega arith))))
      (λ t. every_all n test (λ i h. elim (dec_lt i k) [
        | yes m ↦ or_left (ltb i k) (p (get_or xs i z)) (lt-ltb i k m)
        | no m ↦ or_right (ltb i k) (p (get_or xs i z))
            (let e : k + (i - k) ≡ i = omega arith in
            ap (λ j. p (get_or xs j z)) (sym e) ∙ ap p (sym (get_or-drop k xs (i - k) z)) ∙ and_at (list_all p) p refl (λ x ys. refl) (drop k xs) (i - k) z (omega (arith, length-drop k xs)) t)
      ]))

-- two lists of n numbers, side by side
pub every_zip : {A B : Type 0} (z : A × B) (p : A × B → Bool) (xs : List A) (ys : List B) (n : ℕ) → length xs ≡ n → length ys ≡ n
    → every n (λ i. p (get_or xs i z.0, get_or ys i z.1)) ≡ list_all p (zip xs ys)
every_zip z p xs ys n l m =
    every_ext n (λ i h. ap p (sym (get_or-zip xs ys i z (omega arith) (omega arith)))) ∙ every_list z p (zip xs ys) n (omega (arith, length-zip xs ys))

-- `==` of two lists of numbers
pub every_same : (xs ys : List ℤ) → length xs ≡ length ys → pointwise int_eq xs ys ≡ every (length xs) (λ j. eq_z (at xs j) (at ys j))
every_same xs ys l =
    let same = slice_eq-Decides Decides-int_eq xs ys (pointwise int_eq xs ys) refl in
    both_ways _ _
    (λ t. every_all (length xs) (λ j. eq_z (at xs j) (at ys j)) (λ j h. eq_z-same (ap (λ v. at v j) (same.0 t))))
    (λ t. same.1 (ext_get_or (pos 0) xs ys l (λ j h. eq_z_is (at xs j) (at ys j) (every-at (length xs) (λ i. eq_z (at xs i) (at ys i)) t j h))))

-- the place that `position` finds, and n, the length, where it finds none
pub place_or : {A : Type 0} (p : A → Bool) (xs : List A) (n : ℕ) → length xs ≡ n → unwrap_or (position p xs) n ≡ position_or_len p xs
place_or p xs n l = go (ltb (position_or_len p xs) (length xs)) refl
  where
    go : (b : Bool) → ltb (position_or_len p xs) (length xs) ≡ b → unwrap_or (cond b (Some (position_or_len p xs)) None) n ≡ position_or_len p xs
    go true t = refl
    go false t = omega (arith, ltb-false (position_or_len p xs) (length xs) t, prefix_len-le-length (λ x. not (p x)) xs)
