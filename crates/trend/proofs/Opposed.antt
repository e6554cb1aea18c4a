-- Numbers of which two of the largest in size have opposite signs. Assumes nothing.
use mathlib.Core.Path.{◌≡◌}
use mathlib.Core.Bool.{true}
use Prim.Native.Nat.{ℕ, ◌≤◌, ◌<◌}
use lib.IntN.{ℤ, pos, nat_abs}
use lib.Signed.{lt_z}

-- two of the n places where r is largest in size have opposite signs
pub record Opposed (n : ℕ) (r : ℕ → ℤ) : Type 0 where
  pub one : ℕ
  pub other : ℕ
  pub one-within : one < n
  pub other_within : other < n
  pub one-largest : (i : ℕ) → i < n → nat_abs (r i) ≤ nat_abs (r one)
  pub other_largest : (i : ℕ) → i < n → nat_abs (r i) ≤ nat_abs (r other)
  pub above : lt_z (pos 0) (r one) ≡ true
  pub below : lt_z (r other) (pos 0) ≡ true
