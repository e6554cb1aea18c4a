-- A number's divisors go in pairs, of which one is small; and a number is prime where none up to its root divides it. Assumes nothing.
use mathlib.Core.Path.{◌≡◌, sym, ap, ◌∙◌}
use mathlib.Core.Logic.{◌⊎◌, inl, inr}
use mathlib.Core.Bool.{true, false}
use Prim.Native.Nat.{ℕ, ◌-◌, ◌*◌, ◌/◌, ◌%◌, ◌≤◌, ◌<◌}
use native.Mathlib.Nat.{zero-mul, one-mul, mul_comm, mul-le-mul, div-add-mod', mul-div_cancel, mul-mod_left}
use native.Mathlib.Decide.{ℕ_discrete, dec_lt}
use native.Mathlib.Omega.{arith}
use borrow.Author.Tests.{eqb-true, eqb-false, eq-eqb, ne_eqb, lt-ltb, le-ltb, ltb-true}
use lib.Dec.{eqb, ltb}
use Rattle.sums.proofs.Everywhere.{and-true, both_true}
use Rattle.sums.proofs.Seek.{First, seek-first}
use Rattle.register.specs.Doubling.{least_factor, prime}

-- ---- a divisor and the one that goes with it

module _ (n d : ℕ) (some : 0 < n) (z : n % d ≡ 0) where
  pub whole : n / d * d ≡ n
  whole = omega (arith, div-add-mod' n d)

  pub times : 0 < n / d
  times = elim (ℕ_discrete (n / d) 0) [
    | yes q ↦ absurd (omega (arith, sym whole ∙ ap (λ x. x * d) q ∙ zero-mul d))
    | no q ↦ omega arith
  ]

  pub proper : d < n → 1 < n / d
  proper l = elim (ℕ_discrete (n / d) 1) [
    | yes q ↦ absurd (omega (arith, sym whole ∙ ap (λ x. x * d) q ∙ one-mul d))
    | no q ↦ omega (arith, times)
  ]

  pub other : n % (n / d) ≡ 0
  other = ap (λ x. x % (n / d)) (sym whole ∙ mul_comm (n / d) d) ∙ mul-mod_left d (n / d)

  pub back : n / (n / d) ≡ d
  back = ap (λ x. x / (n / d)) (sym whole ∙ mul_comm (n / d) d) ∙ mul-div_cancel d times

  -- one of the two is below any number whose square is more than n
  pub one_small : {b : ℕ} → n < b * b → (d < b → ⊥) → n / d < b
  one_small {b} s h = elim (dec_lt (n / d) b) [
    | yes l ↦ l
    | no l ↦
        let x : b ≤ n / d = omega arith in
        let y : b ≤ d = omega arith in
        absurd (omega (arith, mul-le-mul x y, whole))
  ]

-- a divisor that goes with more than 1 is below the number
pub smaller : (n d : ℕ) → 0 < n → n % d ≡ 0 → 1 < n / d → d < n
smaller n d some z l = elim (ℕ_discrete d 0) [
  | yes q ↦ omega (arith, some)
  | no q ↦
      let two : 2 ≤ n / d = l in
      let same : d ≤ d = omega arith in
      omega (arith, mul-le-mul two same, whole n d some z)
]

pub root_below : {q e b : ℕ} → e * e ≤ q → q < b * b → e < b
root_below {q} {e} {b} l s = elim (dec_lt e b) [
  | yes h ↦ h
  | no h ↦ let x : b ≤ e = omega arith in absurd (omega (arith, mul-le-mul x x))
]

-- ---- primes

pub record Factor (q : ℕ) : Type 0 where
  pub it : ℕ
  pub two : 2 ≤ it
  pub below : it < q
  pub divides : q % it ≡ 0

least : (q : ℕ) → First (λ e. eqb (q % e) 0) (q - 2) 2 (least_factor q)
unfolding least_factor
least q = seek-first (λ e. eqb (q % e) 0) (q - 2) 2

pub prime_large : (q : ℕ) → prime q ≡ true → 1 < q
prime_large q t = ltb-true 1 q (and-true (ltb 1 q) _ t).0

pub prime-one : (q : ℕ) → q < 2 → prime q ≡ false
prime-one q h = simp (le-ltb 1 q (omega arith))

pub not_prime : (q : ℕ) → Factor q → prime q ≡ false
not_prime q f = simp (lt-ltb 1 q (omega (arith, f.two, f.below)), ne_eqb (least_factor q) q none)
  where
    none : least_factor q ≡ q → ⊥
    none e = eqb-false (q % f.it) 0 ((least q).before f.it f.two (omega (arith, f.below))) f.divides

-- a number above 1 is prime, or has a factor
pub prime_or : (q : ℕ) → 1 < q → (prime q ≡ true) ⊎ Factor q
prime_or q l = elim (dec_lt (least_factor q) q) [
  | yes h ↦ inr (record { it = least_factor q; two = (least q).from; below = h; divides = eqb-true (q % least_factor q) 0 ((least q).here (omega arith)) })
  | no h ↦ inl (both_true (lt-ltb 1 q l) (eq-eqb (least_factor q) q (omega (arith, (least q).to))))
]

-- where none up to the root divides it, none does
pub by_root : (q e : ℕ) → 1 < q → q < e * e → ((k : ℕ) → 2 ≤ k → k < e → q % k ≡ 0 → ⊥) → prime q ≡ true
by_root q e l s none = elim (prime_or q l) [
  | inl t ↦ t
  | inr f ↦ absurd (elim (dec_lt f.it e) [
    | yes b ↦ none f.it f.two b f.divides
    | no b ↦
        let p : 0 < q = omega arith in
        none (q / f.it) (proper q f.it p f.divides f.below) (one_small q f.it p f.divides s b) (other q f.it p f.divides)
  ])
]
