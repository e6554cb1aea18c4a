-- A number in the sample range is small: at most 2^23 in size, so it fits an i32. Assumes nothing.
use mathlib.Core.Path.{◌≡◌, ap, ◌∙◌}
use mathlib.Core.Bool.{false}
use mathlib.Core.List.{List}
use Prim.Native.Nat.{ℕ, ◌^◌, ◌≤◌, ◌<◌}
use native.Mathlib.Omega.{arith}
use borrow.Author.Tests.{le-ltb}
use lib.IntN.{ℤ, pos, negsuc, nat_abs}
use lib.ListN.{length}
use lib.Signed.{lt_z, mag}
use mir.Syntax.{w32}
use mir.Val.{SFits}
use Rattle.sums.specs.Sum.{total}
use Rattle.sums.specs.Lists.{at, table}
use Rattle.sums.proofs.Bound.{in_range, nat_abs-≤}
use Rattle.sums.proofs.First.{or-false}
use Rattle.sums.proofs.Somewhere.{none_of, some_ext}
use Rattle.sums.proofs.Sum.{total-le}
use Rattle.sums.proofs.Tables.{length-table, at_table}
use Rattle.samples.specs.Samples.{sample_out, some_out}

in_mag : (z : ℤ) → sample_out z ≡ false → mag z ≤ 8388607
in_mag z h =
    let two = or-false (lt_z z (negsuc 8388607)) (lt_z (pos 8388607) z) h in
    in_range z 8388607 two.0 two.1

pub sample_fits : (z : ℤ) → sample_out z ≡ false → SFits w32 z
sample_fits z h = record { sfits = omega (arith, in_mag z h) }

pub sample_size : (z : ℤ) → sample_out z ≡ false → nat_abs z ≤ 2 ^ 23
sample_size z h = omega (arith, in_mag z h, nat_abs-≤ z)

-- and a number that is a little smaller is in it
pub size_inside : (z : ℤ) → nat_abs z ≤ 8388607 → sample_out z ≡ false
size_inside (pos n) h = le-ltb 8388607 n h
size_inside (negsuc n) h = rw (le-ltb 8388607 n (omega arith))

-- a list of samples by its places
pub table_out : (n : ℕ) (f : ℕ → ℤ) → some_out (length (table n f)) (at (table n f)) ≡ some_out n f
table_out n f = ap (λ m. some_out m (at (table n f))) (length-table n f) ∙ some_ext n (λ j l. ap sample_out (at_table n f j (pos 0) l))

-- numbers that are not large are not loud
pub quiet_wide : (y : ℕ → ℤ) (n : ℕ) → n ≤ 65535 → ((j : ℕ) → j < n → nat_abs (y j) ≤ 2 ^ 34) → total n (λ j. nat_abs (y j)) < 2 ^ 62
quiet_wide y n h each = omega (arith, total-le n (2 ^ 34) (λ j. nat_abs (y j)) each)

-- nor is a recording of samples
pub quiet : (y : List ℤ) (n : ℕ) → length y ≡ n → n ≤ 65535 → some_out (length y) (at y) ≡ false → total n (λ j. nat_abs (at y j)) < 2 ^ 62
quiet y n e h none =
    quiet_wide (at y) n h (λ j l. omega (arith, sample_size (at y j) (none_of (λ i. sample_out (at y i)) (length y) none j (omega arith))))
