-- A table of a function's values, put in the place of a list's first: how long it is, what stands at each place, and how a loop
-- writes it from the front. Assumes nothing.
use mathlib.Core.Path.{◌≡◌, refl, sym, ap, ap₂, ◌∙◌}
use mathlib.Core.List.{List, [], ◌∷◌, ◌++◌, append-nil}
use Prim.Native.Nat.{ℕ, zero, suc, ◌+◌, ◌-◌, ◌≤◌, ◌<◌}
use native.Mathlib.Nat.{not-suc-le-zero, le_of_suc-le-suc, zero-add, suc-add}
use native.Mathlib.Numerals.{add-one}
use native.Mathlib.Decide.{dec_lt}
use native.Mathlib.Omega.{arith}
use lib.ListN.{length, get_or, set, drop, replicate, length-append, length-drop, get_or-append}
use lib.Seq.{ext_get_or, drop-length, get_or-drop, get_or-append-add}
use Rattle.sums.specs.Lists.{table, put}

module _ {A : Type 0} where
  pub length-table : (n : ℕ) (f : ℕ → A) → length (table n f) ≡ n
  unfolding table
  length-table zero f = refl
  length-table (suc n) f = ap suc (length-table n (λ i. f (suc i)))

  pub at_table : (n : ℕ) (f : ℕ → A) (i : ℕ) (d : A) → i < n → get_or (table n f) i d ≡ f i
  unfolding table
  at_table zero f i d h = absurd (not-suc-le-zero h)
  at_table (suc n) f zero d h = refl
  at_table (suc n) f (suc i) d h = at_table n (λ j. f (suc j)) i d (le_of_suc-le-suc h)

  pub table_ext : (n : ℕ) {f g : ℕ → A} → ((i : ℕ) → i < n → f i ≡ g i) → table n f ≡ table n g
  unfolding table
  table_ext zero h = refl
  table_ext (suc n) h = ap₂ ◌∷◌ (h 0 (omega arith)) (table_ext n (λ i k. h (suc i) (omega arith)))

  pub table_join : (m n : ℕ) (f : ℕ → A) → table (m + n) f ≡ table m f ++ table n (λ i. f (m + i))
  unfolding table
  table_join zero n f = ap (λ k. table k f) (zero-add n) ∙ table_ext n (λ i _. ap f (sym (zero-add i)))
  table_join (suc m) n f =
      ap (λ k. table k f) (suc-add m n)
      ∙ ap (λ t. f 0 ∷ t) (table_join m n (λ i. f (suc i)))
      ∙ ap (λ t. table (suc m) f ++ t) (table_ext n (λ i _. ap f (sym (suc-add m i))))

  pub length-put : (vs l : List A) → length vs ≤ length l → length (put vs l) ≡ length l
  unfolding put
  length-put vs l h = simp (length-append, length-drop) (omega arith)

  -- ---- written from the front

  -- s is d with f 0, …, f (n - 1) in the place of its first n
  pub record Written (n : ℕ) (f : ℕ → A) (d s : List A) : Type 0 where
    pub is : s ≡ put (table n f) d

  pub put-table : (n : ℕ) (f : ℕ → A) (d : List A) → put (table n f) d ≡ table n f ++ drop n d
  unfolding put
  put-table n f d = ap (λ k. table n f ++ drop k d) (length-table n f)

  next : (n : ℕ) (f : ℕ → A) (d : List A) → n < length d → set (table n f ++ drop n d) n (f n) ≡ table (suc n) f ++ drop (suc n) d
  unfolding table
  next n f [] h = absurd (not-suc-le-zero h)
  next zero f (x ∷ d) h = refl
  next (suc n) f (x ∷ d) h = ap (λ t. f 0 ∷ t) (next n (λ i. f (suc i)) d (le_of_suc-le-suc h))

  pub written_none : {f : ℕ → A} {d : List A} → Written 0 f d d
  unfolding put table
  written_none = record { is = refl }

  pub written_more : {n : ℕ} {f : ℕ → A} {d s : List A} {x : A} → Written n f d s → n < length d → x ≡ f n → Written (n + 1) f d (set s n x)
  written_more {n} {f} {d} w h e =
      record { is = rw (w.is, e, add-one, put-table n f d) (next n f d h ∙ sym (put-table (suc n) f d)) }

  pub written_length : {n : ℕ} {f : ℕ → A} {d s : List A} → Written n f d s → n ≤ length d → length s ≡ length d
  written_length {n} {f} {d} w h = rw w.is (length-put (table n f) d (omega (arith, length-table n f)))

  -- every place is written
  pub written_all : {n : ℕ} {f : ℕ → A} {d s : List A} → Written n f d s → n ≡ length d → s ≡ table (length d) f
  written_all {n} {f} {d} w e =
      rw e at w.is ∙ put-table (length d) f d ∙ ap (λ t. table (length d) f ++ t) (drop-length d) ∙ append-nil (table (length d) f)

  -- ---- by places

  pub at-replicate : (n i : ℕ) (x : A) → get_or (replicate n x) i x ≡ x
  at-replicate zero i x = refl
  at-replicate (suc n) zero x = refl
  at-replicate (suc n) (suc i) x = at-replicate n i x

  pub at-put : (n : ℕ) (f : ℕ → A) (d : List A) (i : ℕ) (z : A) → i < n → get_or (put (table n f) d) i z ≡ f i
  at-put n f d i z h =
      rw (put-table n f d) (get_or-append (table n f) (drop n d) z i (omega (arith, length-table n f)) ∙ at_table n f i z h)

  pub at_tail : (n : ℕ) (f : ℕ → A) (d : List A) (i : ℕ) (z : A) → n ≤ i → get_or (put (table n f) d) i z ≡ get_or d i z
  at_tail n f d i z h =
      let l = length-table n f in
      let e : length (table n f) + (i - n) ≡ i = omega arith in
      let e' : n + (i - n) ≡ i = omega arith in
      rw (put-table n f d)
      (ap (λ k. get_or (table n f ++ drop n d) k z) (sym e)
      ∙ get_or-append-add (table n f) (drop n d) (i - n) z
      ∙ get_or-drop n d (i - n) z ∙ ap (λ k. get_or d k z) e')

  -- the place that comes next is as it was
  pub written_ahead : {n : ℕ} {f : ℕ → A} {d s : List A} → Written n f d s → (z : A) → get_or s n z ≡ get_or d n z
  written_ahead {n} {f} {d} w z = ap (λ v. get_or v n z) w.is ∙ at_tail n f d n z (omega arith)

  -- a list that has f's values at its first n places, and from there on what d has
  pub by_places : (z : A) (n : ℕ) (f : ℕ → A) (d s : List A) → n ≤ length d → length s ≡ length d → ((i : ℕ) → i < n → get_or s i z ≡ f i)
      → ((i : ℕ) → n ≤ i → get_or s i z ≡ get_or d i z) → s ≡ put (table n f) d
  by_places z n f d s h len here tail =
      ext_get_or z s (put (table n f) d) (len ∙ sym (length-put (table n f) d (omega (arith, length-table n f)))) (λ i _. elim (dec_lt i n) [
        | yes k ↦ here i k ∙ sym (at-put n f d i z k)
        | no k ↦ let o : n ≤ i = omega arith in tail i o ∙ sym (at_tail n f d i z o)
      ])
