-- No |r| is larger than at the peak, and a level is exact where the periods standing are a power of two in number. Assumes nothing.
use mathlib.Core.Path.{◌≡◌, refl, sym, ap, ◌∙◌}
use mathlib.Core.Bool.{Bool, true, false, cond}
use mathlib.Core.List.{List}
use Prim.Native.Nat.{ℕ, zero, suc, ◌+◌, ◌-◌, ◌*◌, ◌^◌, ◌≤◌, ◌<◌}
use native.Mathlib.Nat.{le_of_lt, lt_irrefl, lt_of_lt_of_le, mul_assoc, mul_comm, mul_left_comm, mul-one, one-mul, mul-pos, zero-mul, zero-lt-suc}
use native.Mathlib.Decide.{dec_lt}
use native.Mathlib.Omega.{arith}
use borrow.Author.Tests.{ne_eqb, leb-true}
use lib.Dec.{T, eqb, le→leb, lt→ltb}
use lib.IntN.{ℤ, pos, negsuc, nat_abs}
use lib.Pow.{pow_pos, pow-add, pow_mono, shl_lt}
use lib.Ieee.{Float, nan, inf, fin, Format, binary64, up, down, unlike, round, of_int, in_float, div}
use lib.Ieee.Fits.{up_pos, down_pos}
use lib.Ieee.Exact.{HasValue, round_exact}
use lib.Ieee.Scale.{round_same}
use lib.Ieee.Back.{round_whole}
use Rattle.sums.specs.Largest.{largest_at}
use Rattle.sums.proofs.Largest.{largest_is}
use Rattle.register.specs.Register.{P}
use Rattle.records.specs.Record.{periods_standing}
use Rattle.records.specs.declared.Campaign.{Campaign}
use Rattle.records.proofs.Holding.{Together}
use Rattle.trend.specs.Calls.{worked, divisor, level}
use Rattle.trend.proofs.Bounds.{divisor_small, worked_small}

-- ---- the peak

pub peak_is : (r : ℕ → ℤ) (n : ℕ) → 0 < n → (i : ℕ) → i < n → nat_abs (r i) ≤ nat_abs (r (largest_at n (λ k. pos (nat_abs (r k)))))
peak_is r n p i l = leb-true _ _ (largest_is (λ k. pos (nat_abs (r k))) n p i l)

-- ---- exactness

abbrev pub is_negative : ℤ → Bool
is_negative (pos n) = false
is_negative (negsuc n) = true

-- an integer of at most 53 bits is its double
pub of_int_lem : (z : ℤ) → nat_abs z ≤ 2 ^ 53 → HasValue (of_int binary64 z) (is_negative z) (nat_abs z) 1
unfolding of_int
of_int_lem (pos n) h = round_whole binary64 false n h
of_int_lem (negsuc n) h = round_whole binary64 true (suc n) h

pub in_float_lem : (z : ℤ) → nat_abs z ≤ 2 ^ 53 → T (in_float binary64 z)
unfolding in_float
in_float_lem (pos n) h = le→leb n (2 ^ 53) h
in_float_lem (negsuc n) h = lt→ltb n (2 ^ 53) h

-- (x / p) / (y / q) is (a / c) / (b / d)
cross : (x q c b a p y d : ℕ) → x * c ≡ a * p → y * d ≡ b * q → x * q * (c * b) ≡ a * d * (y * p)
cross x q c b a p y d h k =
    first ∙ ap (λ (z : ℕ). z * (q * b)) h ∙ ap (λ (z : ℕ). a * p * z) (mul_comm q b ∙ sym k) ∙ last
  where
    first : x * q * (c * b) ≡ x * c * (q * b)
    first = simp (mul_assoc, mul_left_comm)

    last : a * p * (y * d) ≡ a * d * (y * p)
    last = simp (mul_assoc, mul_comm, mul_left_comm)

-- a finite number that is above 0 in size has a significand
significand : (n u d b v : ℕ) → 0 < b → 0 < v → n * u * d ≡ b * v → 0 < n
significand zero u d b v p q h = absurd (lt_irrefl 0 (rw (sym h ∙ ap (λ (z : ℕ). z * d) (zero-mul u) ∙ zero-mul d) at (mul-pos p q)))
significand (suc n) u d b v p q h = zero-lt-suc n

-- the division of two finite numbers is the rounded quotient of what they stand for
pub div-at : (f : Format) (x y : Float) (s t : Bool) (a c b d : ℕ) → 0 < c → 0 < d → 0 < b
    → HasValue x s a c → HasValue y t b d → div f x y ≡ round f (unlike s t) (a * d) (c * b)
unfolding div
div-at f nan y s t a c b d C D B v w = elim v [ ]
div-at f (inf _) y s t a c b d C D B v w = elim v [ ]
div-at f (fin s' m e) nan s t a c b d C D B v w = elim w [ ]
div-at f (fin s' m e) (inf _) s t a c b d C D B v w = elim w [ ]
div-at f (fin s' m e) (fin t' n g) s t a c b d C D B v w =
    let some = significand n (up g) d b (down g) B (down_pos g) w.1 in
    ap (λ (z : Bool). cond z (cond (eqb m 0) nan (inf (unlike s' t'))) (round f (unlike s' t') (m * up e * down g) (n * up g * down e)))
    (ne_eqb n 0 (λ z. omega arith))
    ∙ round_same f (unlike s' t') (m * up e * down g) (n * up g * down e) (a * d) (c * b) (mul-pos (mul-pos some (up_pos g)) (down_pos e))
    (mul-pos C B)
    (cross (m * up e) (down g) c b a (down e) (n * up g) d v.1 w.1)
    ∙ ap (λ (z : Bool). round f (unlike z t') (a * d) (c * b)) v.0
    ∙ ap (λ (z : Bool). round f (unlike s z) (a * d) (c * b)) w.0

-- a quotient by a power of two needs no rounding
half_exact : (s : Bool) (a k : ℕ) → a < 2 ^ 53 → k ≤ 1074 → HasValue (round binary64 s a (2 ^ k)) s a (2 ^ k)
half_exact s a k h l =
    round_exact binary64 s a (2 ^ k) a (1074 - k) (pow_pos k) h
    (lt_of_lt_of_le (shl_lt 53 (1074 - k) h) (pow_mono {i = 53 + (1074 - k)} {j = 2098} (omega arith)))
    (sym (mul_assoc a (2 ^ (1074 - k)) (2 ^ k) ∙ ap (λ (z : ℕ). a * z) (sym (pow-add 2 (1074 - k) k) ∙ ap (λ (z : ℕ). 2 ^ z) (back k l))))
  where
    back : (k : ℕ) → k ≤ 1074 → 1074 - k + k ≡ 1074
    back k l = omega arith

unlike_false : (s : Bool) → unlike s false ≡ s
unlike_false true = refl
unlike_false false = refl

-- the level of r over 2 ^ k is exactly r / 2 ^ k: it is finite, has r's sign, and f * 2 ^ e * 2 ^ k is |r|, the power of two put on r's
-- side where e is below 0
pub level_exact : (r : ℤ) (k : ℕ) → nat_abs r < 2 ^ 53 → k ≤ 52 → HasValue (level r (2 ^ k)) (is_negative r) (nat_abs r) (2 ^ k)
unfolding level
level_exact r k h l =
    rw (
      div-at binary64 (of_int binary64 r) (of_int binary64 (pos (2 ^ k))) (is_negative r) false (nat_abs r) 1 (2 ^ k) 1 (zero-lt-suc 0) (zero-lt-suc 0)
          (pow_pos k)
          (of_int_lem r (le_of_lt h))
          (of_int_lem (pos (2 ^ k)) (pow_mono {i = k} {j = 53} (omega arith))),
      unlike_false (is_negative r),
      mul-one (nat_abs r),
      one-mul (2 ^ k),
    )
    (half_exact (is_negative r) (nat_abs r) k h (omega arith))

-- ---- the levels of a campaign

module _ (c : Campaign) (store sums : List ℤ) (h : Together c store sums) (m : ℕ) (e : periods_standing c ≡ 2 ^ m) where
  -- the divisor is a power of two
  divisor_power : divisor c ≡ 2 ^ (c.order + m)
  divisor_power = rw (e, pow-add 2 c.order m) (ap (λ n. n * 2 ^ m) whole)
    where
      whole : P c.order + 1 ≡ 2 ^ c.order
      whole = omega (arith, pow_pos c.order)

  -- and a small one
  few : c.order + m ≤ 52
  few = elim (dec_lt 52 (c.order + m)) [
    | yes l ↦ absurd (omega (arith, pow_mono {i = 53} {j = c.order + m} l, divisor_small c h.filed, divisor_power))
    | no l ↦ omega arith
  ]

  pub levels_exact : (k : ℕ) → HasValue (level (worked c sums k) (divisor c)) (is_negative (worked c sums k)) (nat_abs (worked c sums k)) (divisor c)
  levels_exact k = rw divisor_power (level_exact (worked c sums k) (c.order + m) (omega (arith, worked_small c store sums h k)) few)
