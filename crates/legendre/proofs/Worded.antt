-- The bits as document 001 words the sequence: n is a square modulo p where the square of some number, whatever its size, leaves n over. Assumes nothing.
use mathlib.Core.Path.{◌≡◌, refl, sym, ap, ◌∙◌}
use mathlib.Core.Bool.{cond}
use Prim.Native.Nat.{ℕ, ◌+◌, ◌*◌, ◌/◌, ◌%◌, ◌<◌}
use native.Mathlib.Nat.{add-mul, mul-add, mul_assoc, mul_comm, mod-lt, mod-add-div', add-mul-mod_self_right}
use native.Mathlib.Omega.{arith}
use borrow.Author.Tests.{eq-eqb, ne_eqb}
use lib.Dec.{eqb}
use Rattle.sums.proofs.Somewhere.{some_at, some-none}
use Rattle.legendre.specs.Legendre.{square, bit}

-- a number's square leaves over what the square of its own remainder does
square_below : (p i : ℕ) → i % p * (i % p) % p ≡ i * i % p
square_below p i = sym (ap (λ (n : ℕ). n % p) (apart (i % p) (i / p) i (mod-add-div' i p)) ∙ add-mul-mod_self_right (i % p * (i % p)) (i % p * (i / p) + i / p * i) p)
  where
    apart : (r q n : ℕ) → r + q * p ≡ n → n * n ≡ r * r + (r * q + q * n) * p
    apart r q n e =
        omega (
          arith,
          ap (λ (m : ℕ). m * n) e,
          add-mul r (q * p) n,
          ap (λ (m : ℕ). r * m) e,
          mul-add r r (q * p),
          mul_assoc r q p,
          mul_assoc q p n,
          ap (λ (m : ℕ). q * m) (mul_comm p n),
          mul_assoc q n p,
          add-mul (r * q) (q * n) p,
        )

module _ (p : ℕ) where
  pub bit-first : bit p 0 ≡ 1
  unfolding bit
  bit-first = refl

  module _ (n : ℕ) (later : 0 < n) where
    by_square : bit p n ≡ cond (square p n) 0 1
    unfolding bit
    by_square = ap (λ b. cond b 1 (cond (square p n) 0 1)) (ne_eqb n 0 (λ e. omega arith))

    pub bit-square : 0 < p → (i : ℕ) → i * i % p ≡ n → bit p n ≡ 0
    bit-square some i e =
        by_square ∙ ap (λ b. cond b 0 1) (some_at (λ j. eqb (j * j % p) n) p (i % p) (mod-lt i some) (eq-eqb (i % p * (i % p) % p) n (square_below p i ∙ e)))

    pub bit_other : ((i : ℕ) → i * i % p ≡ n → ⊥) → bit p n ≡ 1
    bit_other none = by_square ∙ ap (λ b. cond b 0 1) (some-none (λ j. eqb (j * j % p) n) p (λ j _. ne_eqb (j * j % p) n (none j)))
