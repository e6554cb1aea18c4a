-- Whole numbers compared and tested for equality, as values and by their bits. Assumes nothing.
use mathlib.Core.Path.{◌≡◌, sym, ap, ap₂, subst, ◌∙◌}
use mathlib.Core.Bool.{true, false}
use Prim.Native.Nat.{ℕ, ◌+◌, ◌≤◌}
use native.Mathlib.Decide.{ℕ_discrete}
use borrow.Author.Tests.{le-leb, eq-eqb, ne_eqb}
use native.Mathlib.Omega.{arith}
use lib.Dec.{eqb, leb}
use lib.IntN.{ℤ, pos, ◌-ℤ◌}
use lib.Signed.{le_z}
use mir.Syntax.{Width}
use mir.Val.{SFits, of_z}
use Rattle.sums.specs.Equal.{eq_z}
use Rattle.sums.proofs.Bound.{same_bits}
use Rattle.sums.proofs.Diff.{up, down, parts, diffs, le_z_diff, ints}
use Rattle.sums.proofs.Everywhere.{and-true, both_true, never_true}

pub le_is : (a b : ℤ) → up a + down b ≤ up b + down a → le_z a b ≡ true
le_is a b h = ap₂ le_z (parts a) (parts b) ∙ le_z_diff (up a) (down a) (up b) (down b) ∙ le-leb (up a + down b) (up b + down a) h

pub le_z_refl : (a : ℤ) → le_z a a ≡ true
le_z_refl a = le_is a a (omega arith)

pub le_z_trans : (a b c : ℤ) → le_z a b ≡ true → le_z b c ≡ true → le_z a c ≡ true
le_z_trans a b c p q = le_is a c (omega ints)

pub le_z-turn : (a b : ℤ) → le_z a b ≡ false → le_z b a ≡ true
le_z-turn a b p = le_is b a (omega ints)

-- the order turned by taking from 0
pub minus_le : (a b : ℤ) → le_z (pos 0 -ℤ a) (pos 0 -ℤ b) ≡ le_z b a
minus_le a b = rw (parts a, parts b) (simp diffs (same (down a) (up b) (down b) (up a)))
  where
    same : (x y z w : ℕ) → leb (0 + x + (0 + y)) (0 + z + (0 + w)) ≡ leb (y + x) (w + z)
    same x y z w =
        let e : 0 + x + (0 + y) ≡ y + x = omega arith in
        let f : 0 + z + (0 + w) ≡ w + z = omega arith in
        ap₂ leb e f

pub eq_z-same : {a b : ℤ} → a ≡ b → eq_z a b ≡ true
eq_z-same {a} {b} e = subst (λ x. eq_z a x ≡ true) e (both_true (le_z_refl a) (le_z_refl a))

pub eq_z_is : (a b : ℤ) → eq_z a b ≡ true → a ≡ b
eq_z_is a b h =
    let two = and-true (le_z a b) (le_z b a) h in
    rw (parts a, parts b) (omega (ints, two.0, two.1))

pub eq_z_other : (a b : ℤ) → (a ≡ b → ⊥) → eq_z a b ≡ false
eq_z_other a b n = never_true (eq_z a b) (λ e. n (eq_z_is a b e))

-- numbers are tested by their bits
pub bits_test : (w : Width) (a b : ℤ) → SFits w a → SFits w b → eqb (of_z w a) (of_z w b) ≡ eq_z a b
bits_test w a b f g = elim (ℕ_discrete (of_z w a) (of_z w b)) [
  | yes e ↦ eq-eqb _ _ e ∙ sym (eq_z-same (same_bits w a b f g e))
  | no n ↦ ne_eqb _ _ n ∙ sym (eq_z_other a b (λ e. n (ap (of_z w) e)))
]
