-- The nearest quotient of two natural numbers, from the quotient and the remainder. Assumes nothing.
use mathlib.Core.Path.{◌≡◌, sym}
use Prim.Native.Nat.{ℕ, ◌+◌, ◌-◌, ◌*◌, ◌/◌, ◌%◌, ◌≤◌, ◌<◌}
use native.Mathlib.Nat.{mul_left_comm, mul-le-mul_left, add-mul, div-eq_of_lt-le, div-add-mod', mod-lt, div-mul-le_self, lt-mul-div-succ, mul_comm}
use native.Mathlib.Omega.{arith}
use Rattle.rounding.specs.Rounding.{nearest}

module _ (a d q m : ℕ) (e : q * d + m ≡ a) (l : m < d) where
  -- below the half
  down : m + m < d → q ≡ nearest a d
  unfolding nearest
  down h =
      sym
      (div-eq_of_lt-le (2 * d) (omega (arith, mul_left_comm q 2 d)) (omega (arith, mul_left_comm q 2 d, add-mul q 1 (2 * d))))

  -- from the half on
  up : d ≤ m + m → q + 1 ≡ nearest a d
  unfolding nearest
  up h =
      sym
      (div-eq_of_lt-le (2 * d) (omega (arith, mul_left_comm q 2 d, add-mul q 1 (2 * d)))
      (omega (arith, mul_left_comm q 2 d, add-mul q 1 (2 * d), add-mul (q + 1) 1 (2 * d))))

  -- past the half of a divisor, which is then 2 at least, the quotient has room for one more
  room : d ≤ m + m → q + 1 ≤ a
  room h = omega (arith, at_least q d (omega arith))
    where
      at_least : (q d : ℕ) → 2 ≤ d → q * 2 ≤ q * d
      at_least q d h = mul-le-mul_left q h

module _ (a d : ℕ) (p : 0 < d) where
  pub near_down : a % d < d - a % d → a / d ≡ nearest a d
  near_down h = down a d (a / d) (a % d) (div-add-mod' a d) (mod-lt a p) (omega arith)

  pub near_up : d - a % d ≤ a % d → a / d + 1 ≡ nearest a d
  near_up h = up a d (a / d) (a % d) (div-add-mod' a d) (mod-lt a p) (omega (arith, mod-lt a p))

  pub near_room : d - a % d ≤ a % d → a / d + 1 ≤ a
  near_room h = room a d (a / d) (a % d) (div-add-mod' a d) (mod-lt a p) (omega (arith, mod-lt a p))

  -- it is the nearest: no further from a / d than a half, and at a half the upper one
  pub near_nearest : (nearest a d * (2 * d) ≤ 2 * a + d) × (2 * a + d < (nearest a d + 1) * (2 * d))
  unfolding nearest
  near_nearest = (
    div-mul-le_self (2 * a + d) (2 * d),
    rw (mul_comm ((2 * a + d) / (2 * d) + 1) (2 * d)) (lt-mul-div-succ (2 * a + d) {b = 2 * d} (omega arith)),
  )
