-- The sums and the differences that the machine forms fit an `i64` where the sizes of what goes into them come to less than 2 ^ 63.
-- A signed local holds bits, so each number is read back from its bits. Assumes nothing.
use mathlib.Core.Path.{◌≡◌, ◌∙◌}
use Prim.Native.Nat.{◌+◌, ◌^◌, ◌≤◌, ◌<◌}
use native.Mathlib.Omega.{arith}
use lib.IntN.{ℤ, nat_abs}
use mir.Syntax.{w64}
use mir.Val.{SFits, to_z, of_z}
use mir.Facts.{to_z-of_z}
use Rattle.sums.proofs.Bound.{small_fits}

abbrev pub back : ℤ → ℤ
back x = to_z w64 (of_z w64 x)

back_is : (x : ℤ) → nat_abs x < 2 ^ 63 → back x ≡ x
back_is x h = to_z-of_z (small_fits w64 x h)

-- f's size is at most its arguments', as a sum's and a difference's is
abbrev Bounded : (ℤ → ℤ → ℤ) → Type 0
Bounded f = (x y : ℤ) → nat_abs (f x y) ≤ nat_abs x + nat_abs y

-- two numbers of which the sum and the difference fit: a record, so that the two are found from a proof of it
pub record Two (x y : ℤ) : Type 0 where
  pub small : nat_abs x + nat_abs y < 2 ^ 63

module _ (f : ℤ → ℤ → ℤ) (bound : Bounded f) {x y : ℤ} (h : Two x y) where
  pub of_two : f (back x) (back y) ≡ f x y
  of_two = rw (back_is x (omega arith), back_is y (omega arith))

  pub two_fit : SFits w64 (f (back x) (back y))
  two_fit = rw of_two (small_fits w64 (f x y) (omega (arith, bound x y)))

  pub two_is : back (f (back x) (back y)) ≡ f x y
  two_is = to_z-of_z two_fit ∙ of_two

-- four numbers, and f of the first two, and of the last two
pub record Four (a b c d : ℤ) : Type 0 where
  pub small : (nat_abs a + nat_abs b) + (nat_abs c + nat_abs d) < 2 ^ 63

module _ {a b c d : ℤ} (h : Four a b c d) where
  pub first_two : Two a b
  first_two = record { small = omega arith }

  pub last_two : Two c d
  last_two = record { small = omega arith }

  module _ (f : ℤ → ℤ → ℤ) (bound : Bounded f) where
    pub of_four : Two (f (back a) (back b)) (f (back c) (back d))
    of_four = rw (of_two f bound first_two, of_two f bound last_two) (record { small = omega (arith, bound a b, bound c d) })

    pub four_is : (g : ℤ → ℤ → ℤ) → Bounded g → back (g (back (f (back a) (back b))) (back (f (back c) (back d)))) ≡ g (f a b) (f c d)
    four_is g bg = two_is g bg of_four ∙ rw (of_two f bound first_two, of_two f bound last_two)
