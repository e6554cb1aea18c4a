-- `nights::summing::sum_periods` meets its contract: the first period is copied, and after it has come to i the row is the sum of i periods. Assumes nothing.
use mathlib.Core.Path.{◌≡◌, refl, sym, ap, ap₂, ◌∙◌}
use mathlib.Core.List.{List}
use Prim.Native.Nat.{ℕ, ◌+◌, ◌-◌, ◌*◌, ◌^◌, ◌≤◌, ◌<◌}
use native.Mathlib.Nat.{mul-le-mul_right, suc-mul, zero-mul}
use native.Mathlib.Numerals.{add-one}
use native.Mathlib.Omega.{arith}
use lib.IntN.{ℤ, pos, nat_abs, ◌+ℤ◌, +ℤ_idl}
use lib.ListN.{length, take, drop, length-drop}
use lib.Seq.{length-take-le, get_or-take, get_or-drop}
use Rattle.sums.specs.Sum.{sum}
use Rattle.sums.specs.Lists.{at, table, put}
use Rattle.sums.proofs.Sum.{sum-suc, nat_abs-sum}
use Rattle.sums.proofs.Tables.{table_ext, written_all}
use Rattle.nights.specs.Nights.{term}
use Rattle.nights.proofs.Terms.{term_long, term-at}
use Rattle.nights.proofs.summing.sum_periods.Goals as goal
use Rattle.nights.proofs.summing.sum_periods.Goals.{In-loop-i}

module _ (P m : ℕ) (z : List ℤ) (long : length z ≡ m * P) where
  -- period i lies in z
  ends : (i : ℕ) → i < m → i * P + P ≤ length z
  ends i l = omega (arith, mul-le-mul_right P l, suc-mul i P)

  -- the first period alone
  first-in : (row : List ℤ) → length row ≡ P → 1 ≤ m → put (table (length (take P z)) (at (take P z))) row ≡ term P 1 z
  unfolding term sum
  first-in row e h =
      let long : length (take P z) ≡ P = length-take-le P z (omega (arith, ends 0 h)) in
      ap (λ n. put (table n (at (take P z))) row) long
      ∙ written_all (record { is = refl }) (sym e)
      ∙ ap (λ n. table n (at (take P z))) e
      ∙ table_ext P (λ j l. get_or-take P z j (pos 0) l ∙ let n : 0 * P + j ≡ j = omega (arith, zero-mul P) in sym (+ℤ_idl (at z (0 * P + j)) ∙ ap (at z) n))

  small : ((j : ℕ) → j < length z → nat_abs (at z j) ≤ 8388608) → m ≤ 16 → (i j : ℕ) → i ≤ m → j < P → nat_abs (at (term P i z) j) ≤ 2 ^ 28
  small s h i j l k = omega (arith, ap nat_abs (term-at P i z j k), nat_abs-sum i 8388608 (λ n. at z (n * P + j)) (λ n a. s (n * P + j) (omega (arith, ends n (omega arith)))))

  next : (row : List ℤ) (i k : ℕ) → i < m → k ≡ i * P → row ≡ term P i z
      → table (length row) (λ j. at row j +ℤ at (take (k + P - k) (drop k z)) j) ≡ term P (i + 1) z
  unfolding term
  next row i k l h e =
      ap (λ n. table n (λ j. at row j +ℤ at (take (k + P - k) (drop k z)) j)) (ap length e ∙ term_long P i z)
      ∙ table_ext P (λ j a.
      ap₂ ◌+ℤ◌ (ap (λ r. at r j) e ∙ term-at P i z j a)
      (get_or-take (k + P - k) (drop k z) j (pos 0) (omega arith) ∙ get_or-drop k z j (pos 0) ∙ ap (λ n. at z (n + j)) h)
      ∙ sym (sum-suc i (λ n. at z (n * P + j))) ∙ ap (λ n. sum n (λ i. at z (i * P + j))) (sym (add-one i)))

  -- period i is as long as the row
  part_long : (row : List ℤ) (i k : ℕ) → i < m → k ≡ i * P → row ≡ term P i z → length (take (k + P - k) (drop k z)) ≡ length row
  part_long row i k l h e =
      let n : k + P - k ≡ P = omega arith in
      ap (λ n. length (take n (drop k z))) n ∙ length-take-le P (drop k z) (omega (arith, length-drop k z, ends i l)) ∙ sym (ap length e ∙ term_long P i z)

  part_small : ((j : ℕ) → j < length z → nat_abs (at z j) ≤ 8388608) → (i k j : ℕ) → i < m → k ≡ i * P → j < P
      → nat_abs (at (take (k + P - k) (drop k z)) j) ≤ 8388608
  part_small s i k j l h a =
      let e = get_or-take (k + P - k) (drop k z) j (pos 0) (omega arith) ∙ get_or-drop k z j (pos 0) in omega (arith, ap nat_abs e, s (k + j) (omega (arith, ends i l)))

-- period i lies in z
lies : (c : In-loop-i) → c.loop-i.i * length c.args.row.now + length c.args.row.now ≤ length c.args.z.now
lies c =
    ends (length c.args.row.now) c.args.m c.args.z.now c.requires.le_m.3 c.loop-i.i c.loop-i-test.true

pub loop-i-init : goal.loop-i-init
loop-i-init c =
    c.copy_in.ensures ∙ first-in (length c.args.row.now) c.args.m c.args.z.now c.requires.le_m.3 c.args.row.now refl c.requires.le_m.0

pub loop-i-preserved : goal.loop-i-preserved
loop-i-preserved c =
    let P = length c.args.row.now in
    let z = c.args.z.now in
    let i = c.loop-i.i in
    c.add_in.ensures
    ∙ written_all (record { is = refl }) (part_long P c.args.m z c.requires.le_m.3 c.loop-i.row i (i * P) c.loop-i-test.true refl c.loop-i.invariant)
    ∙ next P c.args.m z c.requires.le_m.3 c.loop-i.row i (i * P) c.loop-i-test.true refl c.loop-i.invariant

pub add_in-requires : goal.add_in-requires
add_in-requires c =
    let P = length c.args.row.now in
    let z = c.args.z.now in
    let i = c.loop-i.i in
    let wide = ap length c.loop-i.invariant ∙ term_long P i z in
    let same = part_long P c.args.m z c.requires.le_m.3 c.loop-i.row i (i * P) c.loop-i-test.true refl c.loop-i.invariant in (
      omega (arith, same),
      λ j h. rw c.loop-i.invariant
          (omega (
            arith,
            small P c.args.m z c.requires.le_m.3 c.requires.by_index c.requires.le_m.1 i j (omega arith) (omega (arith, wide, same)),
            part_small P c.args.m z c.requires.le_m.3 c.requires.by_index i (i * P) j c.loop-i-test.true refl (omega (arith, wide, same)),
          )),
    )
