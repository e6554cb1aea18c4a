-- What a night's samples after the run-in are, and what their sum place by place is. Assumes nothing.
use mathlib.Core.Path.{◌≡◌, sym, ap, subst, ◌∙◌}
use mathlib.Core.Bool.{true}
use mathlib.Core.List.{List}
use Prim.Native.Nat.{ℕ, zero, suc, ◌+◌, ◌*◌, ◌≤◌, ◌<◌}
use native.Mathlib.Nat.{mul-le-mul_right, suc-mul, zero-mul, add-mul}
use native.Mathlib.Omega.{arith}
use lib.IntN.{ℤ, pos, +ℤ_idl}
use lib.ListN.{length, length-drop}
use lib.Seq.{get_or-drop}
use Rattle.sums.specs.Sum.{sum}
use Rattle.sums.specs.Lists.{at, table}
use Rattle.sums.proofs.Tables.{length-table, at_table, table_ext}
use Rattle.sums.proofs.Parts.{table_at}
use Rattle.samples.specs.Samples.{inside, within}
use Rattle.samples.proofs.Rails.{within_none, within_more}
use Rattle.nights.specs.Nights.{lead, periods_of, night_length, settled, term}
use Rattle.nights.specs.declared.Night.{Night}
use Rattle.nights.specs.declared.Night.TheVariants as night

-- ---- after the run-in

pub lead_most : (n : Night) → lead n ≤ 1
lead_most night.Period = omega arith
lead_most (night.Capture m) = omega arith

module _ (P : ℕ) (n : Night) (y : List ℤ) (long : length y ≡ night_length P n) where
  pub settled_long : length (settled P n y) ≡ periods_of n * P
  settled_long = omega (arith, length-drop (lead n * P) y, long, add-mul (lead n) (periods_of n) P)

pub settled_at : (P : ℕ) (n : Night) (y : List ℤ) (i : ℕ) → at (settled P n y) i ≡ at y (lead n * P + i)
settled_at P n y i = get_or-drop (lead n * P) y i (pos 0)

-- ---- the sum of m periods

module _ (P m : ℕ) (z : List ℤ) where
  pub term_long : length (term P m z) ≡ P
  unfolding term
  term_long = length-table P (λ j. sum m (λ i. at z (i * P + j)))

  pub term-at : (j : ℕ) → j < P → at (term P m z) j ≡ sum m (λ i. at z (i * P + j))
  unfolding term
  term-at j l = at_table P (λ j. sum m (λ i. at z (i * P + j))) j (pos 0) l

-- of one period it is that period
pub term-one : (P : ℕ) (y : List ℤ) → length y ≡ P → term P 1 y ≡ y
unfolding term sum
term-one P y e =
    table_ext P (λ j l. +ℤ_idl (at y (0 * P + j)) ∙ let n : 0 * P + j ≡ j = omega (arith, zero-mul P) in ap (at y) n)
    ∙ ap (λ n. table n (at y)) (sym e) ∙ table_at y

-- of samples between the rails it is what m of them may add up to
pub term-within : (P m : ℕ) (z : List ℤ) → ((i : ℕ) → i < m * P → inside (at z i) ≡ true) → (j : ℕ) → j < P → within m (at (term P m z) j) ≡ true
unfolding sum
term-within P m z good j l = subst (λ v. within m v ≡ true) (sym (term-at P m z j l)) (go m (λ i k. good (i * P + j) (omega (arith, mul-le-mul_right P k, suc-mul i P))))
  where
    go : (n : ℕ) → ((i : ℕ) → i < n → inside (at z (i * P + j)) ≡ true) → within n (sum n (λ i. at z (i * P + j))) ≡ true
    go zero h = within_none
    go (suc n) h = within_more n (sum n (λ i. at z (i * P + j))) (at z (n * P + j)) (go n (λ i k. h i (omega arith))) (h n (omega arith))
