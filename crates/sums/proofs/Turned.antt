-- What starts d places late has the numbers that it had, in another order; and what each place of it holds. Assumes nothing.
use mathlib.Core.Path.{◌≡◌, refl, sym, ap, ap₂, subst, ◌∙◌}
use mathlib.Core.List.{List, [], ◌∷◌}
use Prim.Native.Nat.{ℕ, zero, suc, ◌+◌, ◌-◌, ◌*◌, ◌/◌, ◌%◌, ◌<◌}
use native.Mathlib.Nat.{zero-add, add_assoc, add-mul, mul-zero, zero-mul, suc-mul, mul-le-mul_right, mod-lt, mod-eq_of_lt, mod-add-mod, mul-add-mod_self_right, add-mod_right, div-add-mod', div-eq_of_lt, mul-add-div_right, div-lt_iff_lt-mul}
use native.Mathlib.Decide.{dec_lt}
use native.Mathlib.Omega.{arith}
use lib.IntN.{ℤ, pos}
use lib.ListN.{length}
use lib.Seq.{ext_get_or}
use Rattle.sums.specs.Lists.{at, table}
use Rattle.sums.specs.Turned.{turned, onward, late}
use Rattle.sums.proofs.Perm.{Permutes}
use Rattle.sums.proofs.Reordered.{Reordered}
use Rattle.sums.proofs.Tables.{length-table, at_table, table_ext}

-- ---- a period turned

module _ (P d : ℕ) where
  -- so much further on, and it has gone round
  rest : ℕ
  rest = P - d % P

  turned_back : (a : ℕ) → a < P → ((a + d) % P + rest) % P ≡ a
  unfolding rest
  turned_back a l =
      mod-add-mod (a + d) P (P - d % P) ∙ ap (λ n. n % P) round ∙ mul-add-mod_self_right (d / P) P (a + P) ∙ add-mod_right a P ∙ mod-eq_of_lt l
    where
      round : a + d + (P - d % P) ≡ d / P * P + (a + P)
      round = omega (arith, mod-lt d {m = P} (omega arith), div-add-mod' d P)

  pub turned_permutes : Permutes P (λ j. (j + d) % P)
  turned_permutes =
      record {
        within = λ j l. mod-lt (j + d) (omega arith);
        apart = λ i j k l e. sym (turned_back i k) ∙ ap (λ n. (n + rest) % P) e ∙ turned_back j l;
      }

  -- the first period
  pub onward-first : (j : ℕ) → j < P → onward P d j ≡ (j + d) % P
  onward-first j l = rw (div-eq_of_lt l, mod-eq_of_lt l, zero-mul P) (omega arith)

-- periods further on
pub onward_later : (P d i j : ℕ) → 0 < P → onward P d (i * P + j) ≡ i * P + onward P d j
onward_later P d i j o =
    ap₂ (λ a b. a * P + (b + d) % P) (mul-add-div_right o i j) (mul-add-mod_self_right i P j)
    ∙ ap (λ n. n + (j % P + d) % P) (add-mul i (j / P) P) ∙ add_assoc (i * P) (j / P * P) ((j % P + d) % P)

-- period i, and the place in it
pub onward-at : (P d i j : ℕ) → j < P → onward P d (i * P + j) ≡ i * P + (j + d) % P
onward-at P d i j l = onward_later P d i j (omega arith) ∙ ap (λ n. i * P + n) (onward-first P d j l)

-- m periods have a place only where a period has
pub has_place : (P m j : ℕ) → j < m * P → 0 < P
has_place P m j l = elim (dec_lt 0 P) [
  | yes h ↦ h
  | no h ↦ let e : P ≡ 0 = omega arith in absurd (omega (arith, l, ap (λ n. m * n) e, mul-zero m))
]

module _ (P d m : ℕ) where
  onward-within : (j : ℕ) → j < m * P → onward P d j < m * P
  onward-within j l =
      let o = has_place P m j l in
      let q : j / P < m = (div-lt_iff_lt-mul o).1 l in
      omega (arith, mul-le-mul_right P q, suc-mul (j / P) P, mod-lt (j % P + d) o)

  onward_back : (j : ℕ) → j < m * P → onward P (rest P d) (onward P d j) ≡ j
  onward_back j l =
      let o = has_place P m j l in
      onward-at P (rest P d) (j / P) ((j % P + d) % P) (mod-lt (j % P + d) o)
      ∙ ap (λ n. j / P * P + n) (turned_back P d (j % P) (mod-lt j o)) ∙ div-add-mod' j P

  -- every period
  pub onward_permutes : Permutes (m * P) (onward P d)
  onward_permutes =
      record {
        within = onward-within;
        apart = λ i j k l e. sym (onward_back i k) ∙ ap (onward P (rest P d)) e ∙ onward_back j l;
      }

-- ---- a recording that starts late

module _ (P d : ℕ) (y : List ℤ) where
  pub late_long : length (late P d y) ≡ length y
  unfolding late
  late_long = length-table (length y) (λ j. at y (onward P d j))

  pub late-at : (j : ℕ) → j < length y → at (late P d y) j ≡ at y (onward P d j)
  unfolding late
  late-at j l = at_table (length y) (λ j. at y (onward P d j)) j (pos 0) l

  -- nothing recorded is nothing late
  pub late-none : length y ≡ 0 → late P d y ≡ y
  late-none e = ext_get_or (pos 0) (late P d y) y late_long (λ j l. absurd (omega (arith, late_long)))

  -- of one period
  pub late_turned : length y ≡ P → (j : ℕ) → j < P → at (late P d y) j ≡ turned P d (at y) j
  late_turned long j l = late-at j (omega arith) ∙ ap (at y) (onward-first P d j l)

  -- of any number of them
  pub late_place : (m : ℕ) → length y ≡ m * P → (i j : ℕ) → i < m → j < P → at (late P d y) (i * P + j) ≡ at y (i * P + (j + d) % P)
  late_place m long i j h l = late-at (i * P + j) (omega (arith, mul-le-mul_right P h, suc-mul i P)) ∙ ap (at y) (onward-at P d i j l)

  pub late_reordered : (m : ℕ) → length y ≡ m * P → Reordered (length y) (at y) (at (late P d y))
  late_reordered m long =
      record {
        from = onward P d;
        permutes = subst (λ n. Permutes n (onward P d)) (sym long) (onward_permutes P d m);
        each = late-at;
      }

-- ---- what is recorded of a signal that repeats every P, from its sample d on

module _ (P d : ℕ) (x : ℕ → ℤ) (again : (n : ℕ) → x (n + P) ≡ x n) where
  by_place : (q r : ℕ) → x (q * P + r) ≡ x r
  by_place zero r = ap x (ap (λ n. n + r) (zero-mul P) ∙ zero-add r)
  by_place (suc q) r = ap x around ∙ again (q * P + r) ∙ by_place q r
    where
      around : suc q * P + r ≡ q * P + r + P
      around = omega (arith, suc-mul q P)

  -- as many whole periods as there are: the recording that begins with sample 0, starting d places late
  pub late_repeating : (m : ℕ) → late P d (table (m * P) x) ≡ table (m * P) (λ j. x (j + d))
  unfolding late
  late_repeating m =
      ap (λ n. table n (λ j. at (table (m * P) x) (onward P d j))) (length-table (m * P) x)
      ∙ table_ext (m * P) (λ j l. at_table (m * P) x (onward P d j) (pos 0) (onward-within P d m j l) ∙ later j)
    where
      later : (j : ℕ) → x (onward P d j) ≡ x (j + d)
      later j =
          by_place (j / P) ((j % P + d) % P) ∙ ap x (mod-add-mod j P d)
          ∙ sym (ap x (sym (div-add-mod' (j + d) P)) ∙ by_place ((j + d) / P) ((j + d) % P))

-- two periods of three, computed
pub two_of_three : late 3 1 (pos 1 ∷ pos 2 ∷ pos 3 ∷ pos 4 ∷ pos 5 ∷ pos 6 ∷ []) ≡ pos 2 ∷ pos 3 ∷ pos 1 ∷ pos 5 ∷ pos 6 ∷ pos 4 ∷ []
unfolding late table
two_of_three = refl
