-- Signed numbers by their signs: what the machine asks of a negation and of a cast, and a size with a sign put to it. Assumes nothing.
use mathlib.Core.Path.{◌≡◌, refl}
use mathlib.Core.Bool.{true, false, true≢false}
use borrow.Author.Tests.{ltb-true}
use Prim.Native.Nat.{ℕ, zero, suc, ◌<◌, ◌^◌}
use native.Mathlib.Omega.{arith}
use lib.IntN.{ℤ, pos, negsuc, neg_ℤ, nat_abs, ◌-ℤ◌, +ℤ_idl}
use lib.Signed.{lt_z}
use mir.Syntax.{w64}
use mir.Val.{SFits, to_z}
use mir.ValLaws.{to_z-of_z}
use Rattle.sums.proofs.Bound.{nat_abs-neg}
use Rattle.rounding.specs.Rounding.{nearest_in, rounded}
use Rattle.rounding.specs.Halving.{with_sign}

-- a number of 64 bits below 2 ^ 63, read as a signed one
pub as_signed : (n : ℕ) → n < 2 ^ 63 → to_z w64 n ≡ pos n
as_signed n h = to_z-of_z w64 (pos n) (record { sfits = h })

-- `-z` is 0 - z to the machine, and fits where z is not the least number
pub neg-fits : (z : ℤ) → nat_abs z < 2 ^ 63 → SFits w64 (neg_ℤ z)
neg-fits (pos zero) h = record { sfits = h }
neg-fits (pos (suc n)) h = record { sfits = omega arith }
neg-fits (negsuc n) h = record { sfits = h }

pub minus_is : (z : ℤ) → pos 0 -ℤ z ≡ neg_ℤ z
minus_is z = +ℤ_idl (neg_ℤ z)

-- ---- a size with a sign put to it

pub sign_negative : (z : ℤ) (n : ℕ) → lt_z z (pos 0) ≡ true → neg_ℤ (pos n) ≡ with_sign z n
sign_negative (pos a) n e = absurd (omega (arith, ltb-true a 0 e))
sign_negative (negsuc a) n e = refl

pub sign_positive : (z : ℤ) (n : ℕ) → lt_z z (pos 0) ≡ false → pos n ≡ with_sign z n
sign_positive (pos a) n e = refl
sign_positive (negsuc a) n e = absurd (true≢false e)

pub rounded-signed : (e : ℕ) (z : ℤ) (d : ℕ) → with_sign z (nearest_in e (nat_abs z) d) ≡ rounded e z d
rounded-signed e (pos a) d = refl
rounded-signed e (negsuc a) d = refl

pub rounded_size : (e : ℕ) (z : ℤ) (d : ℕ) → nat_abs (rounded e z d) ≡ nearest_in e (nat_abs z) d
rounded_size e (pos a) d = refl
rounded_size e (negsuc a) d = nat_abs-neg (pos (nearest_in e (suc a) d))
