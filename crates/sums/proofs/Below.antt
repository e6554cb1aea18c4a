-- A negative number by its distance below -1. Assumes nothing.
use mathlib.Core.Path.{◌≡◌, refl, sym, ap, ◌∙◌}
use mathlib.Core.Bool.{true}
use borrow.Author.Tests.{ltb-true}
use Prim.Native.Nat.{ℕ, suc, ◌+◌}
use native.Mathlib.Numerals.{add-one}
use native.Mathlib.Omega.{arith}
use lib.IntN.{ℤ, pos, negsuc, nat_abs, ◌-ℤ◌}
use lib.Signed.{lt_z, mag}
use Rattle.sums.proofs.Diff.{diff, negsuc_diff, diffs, ints}

pub negative : (z : ℤ) → lt_z z (pos 0) ≡ true → z ≡ negsuc (mag z)
negative (pos n) e = absurd (omega (arith, ltb-true n 0 e))
negative (negsuc n) e = refl

from : (z : ℤ) (n : ℕ) → z ≡ diff 0 (suc n) → negsuc 0 -ℤ z ≡ pos n
from z n e = rw e (simp diffs (omega ints))

pub from_below : (z : ℤ) → lt_z z (pos 0) ≡ true → negsuc 0 -ℤ z ≡ pos (mag z)
from_below z e = from z (mag z) (negative z e ∙ negsuc_diff (mag z))

pub size_below : (z : ℤ) → lt_z z (pos 0) ≡ true → nat_abs z ≡ mag z + 1
size_below z e = ap nat_abs (negative z e) ∙ sym (add-one (mag z))
