-- The digest as it is worked: each residue and each digest lies below 1,000,003. Assumes nothing.
use mathlib.Core.Path.{◌≡◌, refl, sym, ap, ap₂, ◌∙◌}
use Prim.Native.Nat.{ℕ, zero, suc, ◌+◌, ◌*◌, ◌%◌, ◌<◌}
use native.Mathlib.Nat.{mod-lt}
use native.Mathlib.Numerals.{add-one}
use native.Mathlib.Omega.{arith}
use lib.IntN.{ℤ, pos, negsuc}
use Rattle.std.specs.Int.{int_rem_euclid}
use Rattle.lines.specs.Digest.{residue, digest}

-- the remainder that is not negative
pub residue_is : (z : ℤ) → int_rem_euclid z (pos 1000003) ≡ pos (residue z)
unfolding residue
residue_is (pos n) = refl
residue_is (negsuc n) = refl

pub residue-lt : (z : ℤ) → residue z < 1000003
unfolding residue
residue-lt (pos n) = mod-lt n (omega arith)
residue-lt (negsuc n) = omega arith

pub digest-none : (f : ℕ → ℤ) → digest 0 f ≡ 0
unfolding digest
digest-none f = refl

pub digest-lt : (n : ℕ) (f : ℕ → ℤ) → digest n f < 1000003
unfolding digest
digest-lt zero f = omega arith
digest-lt (suc n) f = mod-lt (digest n f * 131 + residue (f n)) (omega arith)

-- one number more
pub digest_more : (f : ℕ → ℤ) (n : ℕ) {d r : ℕ} {z : ℤ} → r ≡ (d * 131 + residue z) % 1000003 → d ≡ digest n f → z ≡ f n → r ≡ digest (n + 1) f
unfolding digest
digest_more f n e p q = e ∙ ap₂ (λ d z. (d * 131 + residue z) % 1000003) p q ∙ ap (λ k. digest k f) (sym (add-one n))
