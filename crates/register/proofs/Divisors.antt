-- The tags of two delays join to the tag of both: so the tag of any delay is got by doubling. And the tags first return after P steps exactly
-- where they return after P and after no P over a prime. Assumes nothing.
use mathlib.Core.Path.{◌≡◌, refl, sym, ap, ap₂, ◌∙◌}
use mathlib.Core.Logic.{◌↔◌, inl, inr}
use mathlib.Core.Bool.{Bool, true, false, true≢false, ◌&&◌, ◌||◌}
use Prim.Native.Nat.{ℕ, zero, suc, ◌+◌, ◌-◌, ◌*◌, ◌/◌, ◌%◌, ◌^◌, ◌≤◌, ◌<◌}
use native.Mathlib.Nat.{mod-lt, suc-add, add-suc, add-zero, zero-add, zero-mul, one-mul, suc-mul, mod-add-mod, mul-le-mul, div-add-mod', mul_comm, mul_assoc, mod-eq_of_lt, le_of_lt, div-lt_self, div-div-eq-div-mul, mul-mod_left}
use native.Mathlib.Decide.{ℕ_discrete, dec_lt}
use native.Mathlib.Omega.{arith}
use borrow.Author.Tests.{eqb-true, eqb-false, eq-eqb, ne_eqb}
use lib.Bits.{xor_lt}
use lib.Dec.{eqb}
use lib.Pow.{pow_pos, pow-add, pow_mono}
use Rattle.sums.specs.Sum.{total}
use Rattle.sums.proofs.Everywhere.{both_true, or_left, or_right}
use Rattle.sums.proofs.Seek.{First}
use Rattle.sums.proofs.Somewhere.{some-none, some_at}
use Rattle.sums.proofs.Sum.{total_ext}
use Rattle.register.specs.Register.{P, bit_of, dot, step, tag-step, tag, Tapped}
use Rattle.register.specs.Doubling.{moved, joined, prime, root_bound, returns_at, returns_early}
use Rattle.register.proofs.Dot.{dot-lt, dot-zero, dot-one, dot_xor, dot_times}
use Rattle.register.proofs.Windows.{step-lt, tag-lt, tag-step-lt, adjoint, bit-mul}
use Rattle.register.proofs.Factors.{whole, times, proper, other, back, one_small, smaller, Factor, prime_large, prime_or}
use Rattle.register.proofs.Recurrence.{bit-zero, bit-lt, dot-total, slide}
use Rattle.register.proofs.TagReturn.{tag_period, same_dots, long, sought}

-- m steps from any window
unfoldable walk : ℕ → ℕ → ℕ → ℕ → ℕ
walk N taps zero w = w
walk N taps (suc m) w = walk N taps m (step N taps w)

-- of bits, the parity of what they have in common is their product
dot_bits : (s d : ℕ) → s < 2 → d < 2 → dot s d ≡ s * d
dot_bits zero d hs hd = dot-zero d ∙ sym (zero-mul d)
dot_bits (suc zero) d hs hd = dot-one d ∙ mod-eq_of_lt hd ∙ sym (one-mul d)
dot_bits (suc (suc s)) d hs hd = absurd (omega arith)

and_off : (a b : Bool) → (a ≡ true → b ≡ false) → a && b ≡ false
and_off true b h = h refl
and_off false b h = refl

module _ (N taps : ℕ) (t : Tapped N taps) where
  walk_lt : (m w : ℕ) → w < 2 ^ N → walk N taps m w < 2 ^ N
  unfolding walk
  walk_lt zero w h = h
  walk_lt (suc m) w h = walk_lt m (step N taps w) (step-lt N taps w h)

  -- the tag of m reads the bit that goes out after m steps
  reads : (m w : ℕ) → w < 2 ^ N → dot (tag N taps m) w ≡ walk N taps m w % 2
  unfolding tag walk
  reads zero w h = dot-one w
  reads (suc m) w h = adjoint N taps (tag N taps m) w (tag-lt N taps t m) h ∙ reads m (step N taps w) (step-lt N taps w h)

  -- so does bit i of a window, of those that it holds
  walk_bit : (i w : ℕ) → i < N → bit_of w i ≡ walk N taps i w % 2
  unfolding walk
  walk_bit zero w h = bit-zero w
  walk_bit (suc i) w h = sym (slide N taps w i h) ∙ walk_bit i (step N taps w) (le_of_lt h)

  walk_on : (b a w : ℕ) → walk N taps a (walk N taps b w) ≡ walk N taps (b + a) w
  unfolding walk
  walk_on zero a w = ap (λ k. walk N taps k w) (sym (zero-add a))
  walk_on (suc b) a w = walk_on b a (step N taps w) ∙ ap (λ k. walk N taps k w) (sym (suc-add b a))

  moved-tag : (i m : ℕ) → moved N taps i (tag N taps m) ≡ tag N taps (m + i)
  unfolding moved tag
  moved-tag zero m = ap (tag N taps) (sym (add-zero m))
  moved-tag (suc i) m = ap (tag-step N taps) (moved-tag i m) ∙ ap (tag N taps) (sym (add-suc m i))

  pub moved-lt : (i m : ℕ) → m < 2 ^ N → moved N taps i m < 2 ^ N
  unfolding moved
  moved-lt zero m h = h
  moved-lt (suc i) m h = tag-step-lt N taps (moved N taps i m) t.fits (moved-lt i m h)

  part_lt : (l m i : ℕ) → m < 2 ^ N → bit_of l i * moved N taps i m < 2 ^ N
  part_lt l m i h = omega (arith, bit-mul (bit_of l i) (moved N taps i m) (bit-lt l i), moved-lt i m h)

  pub joined-lt : (l m k : ℕ) → m < 2 ^ N → joined N taps l m k < 2 ^ N
  unfolding joined
  joined-lt l m zero h = pow_pos N
  joined-lt l m (suc i) h = xor_lt N (joined N taps l m i) (bit_of l i * moved N taps i m) (joined-lt l m i h) (part_lt l m i h)

  dot-joined : (l m k w : ℕ) → dot (joined N taps l m k) w ≡ total k (λ i. bit_of l i * dot (moved N taps i m) w) % 2
  unfolding joined total
  dot-joined l m zero w = dot-zero w
  dot-joined l m (suc k) w =
      let o = moved N taps k m in
      dot_xor (joined N taps l m k) (bit_of l k * o) w
      ∙ ap₂ (λ a b. (a + b) % 2) (dot-joined l m k w)
      (dot_times (bit_of l k) o w (bit-lt l k) ∙ dot_bits (bit_of l k) (dot o w) (bit-lt l k) (dot-lt o w))
      ∙ mod-add-mod (total k (λ i. bit_of l i * dot (moved N taps i m) w)) 2 (bit_of l k * dot o w)

  pub joined_tags : (n m : ℕ) → joined N taps (tag N taps n) (tag N taps m) N ≡ tag N taps (m + n)
  joined_tags n m =
      same_dots N (joined N taps l (tag N taps m) N) (tag N taps (m + n)) (joined-lt l (tag N taps m) N (tag-lt N taps t m)) (tag-lt N taps t (m + n)) each
    where
      l : ℕ
      l = tag N taps n

      each : (w : ℕ) → w < 2 ^ N → dot (joined N taps (tag N taps n) (tag N taps m) N) w ≡ dot (tag N taps (m + n)) w
      each w h =
          dot-joined (tag N taps n) (tag N taps m) N w
          ∙ ap (λ x. x % 2) (total_ext N (λ i k. ap (λ x. bit_of (tag N taps n) i * x) (bit i k)))
          ∙ sym (dot-total N (tag N taps n) (walk N taps m w) (walk_lt m w h))
          ∙ reads n (walk N taps m w) (walk_lt m w h)
          ∙ ap (λ x. x % 2) (walk_on m n w)
          ∙ sym (reads (m + n) w h)
        where
          bit : (i : ℕ) → i < N → dot (moved N taps i (tag N taps m)) w ≡ bit_of (walk N taps m w) i
          bit i k =
              ap (λ x. dot x w) (moved-tag i m) ∙ reads (m + i) w h ∙ ap (λ x. x % 2) (sym (walk_on m i w))
              ∙ sym (walk_bit i (walk N taps m w) k)

  -- a delay doubled, and one step on by a bit
  pub doubled : (n b : ℕ) {l j r : ℕ} → l ≡ tag N taps n → j ≡ joined N taps l l N → r ≡ moved N taps b j → r ≡ tag N taps (n + n + b)
  doubled n b e g h = h ∙ ap (moved N taps b) (g ∙ ap (λ x. joined N taps x x N) e ∙ joined_tags n n) ∙ moved-tag b (n + n)

  -- ---- divisors of P

  -- where the tags return after d steps, they do so after every multiple of d
  rounds : (d : ℕ) → tag N taps d ≡ 1 → (j : ℕ) → tag N taps (j + d) ≡ tag N taps j
  unfolding tag
  rounds d e zero = ap (tag N taps) (zero-add d) ∙ e
  rounds d e (suc j) = ap (tag N taps) (suc-add j d) ∙ ap (tag-step N taps) (rounds d e j)

  many_rounds : (d : ℕ) → tag N taps d ≡ 1 → (q r : ℕ) → tag N taps (q * d + r) ≡ tag N taps r
  many_rounds d e zero r = ap (tag N taps) (ap (λ x. x + r) (zero-mul d) ∙ zero-add r)
  many_rounds d e (suc q) r =
      let s : suc q * d + r ≡ (q * d + r) + d = omega (arith, suc-mul q d) in
      ap (tag N taps) s ∙ rounds d e (q * d + r) ∙ many_rounds d e q r

  pub root_bound_le : root_bound N ≤ 2 ^ N
  root_bound_le = let e : (N + 1) / 2 ≤ N = omega (arith, t.some) in pow_mono e

  square : 2 ^ N ≤ root_bound N * root_bound N
  square =
      let h = (N + 1) / 2 in
      let e : N ≤ h + h = omega arith in
      omega (arith, pow_mono e, pow-add 2 h h)

  some_steps : 0 < P N
  some_steps = omega (arith, long N taps t)

  -- a return after a divisor of P that P is a prime times
  record Home : Type 0 where
    it : ℕ
    some : 0 < it
    divides : P N % it ≡ 0
    home : tag N taps it ≡ 1
    over : prime (P N / it) ≡ true

  -- where P over a divisor has a factor, they return after that many times the divisor too
  climb : (fuel d : ℕ) → P N / d ≤ fuel → 0 < d → d < P N → P N % d ≡ 0 → tag N taps d ≡ 1 → Home
  unfolding tag
  climb zero d h p l z e = absurd (omega (arith, times (P N) d some_steps z))
  climb (suc fuel) d h p l z e = elim (prime_or (P N / d) (proper (P N) d some_steps z l)) [
    | inl q ↦ record { it = d; some = p; divides = z; home = e; over = q }
    | inr f ↦ climb fuel (f.it * d) (fewer f) (positive f) (smaller (P N) (f.it * d) some_steps (goes f) (left f)) (goes f) (again f)
  ]
    where
      most : 0 < P N / d
      most = times (P N) d some_steps z

      -- P over the longer divisor
      quotient : (f : Factor (P N / d)) → P N / (f.it * d) ≡ P N / d / f.it
      quotient f = ap (λ x. P N / x) (mul_comm f.it d) ∙ sym (div-div-eq-div-mul (P N) d f.it)

      left : (f : Factor (P N / d)) → 1 < P N / (f.it * d)
      left f = rw (quotient f) (proper (P N / d) f.it most f.divides f.below)

      fewer : (f : Factor (P N / d)) → P N / (f.it * d) ≤ fuel
      fewer f = rw (quotient f) (omega (arith, div-lt_self most f.two))

      positive : (f : Factor (P N / d)) → 0 < f.it * d
      positive f =
          let a : 1 ≤ f.it = omega (arith, f.two) in
          let b : 1 ≤ d = p in
          omega (arith, mul-le-mul a b)

      goes : (f : Factor (P N / d)) → P N % (f.it * d) ≡ 0
      goes f =
          ap (λ x. x % (f.it * d))
          (sym (whole (P N) d some_steps z) ∙ ap (λ x. x * d) (sym (whole (P N / d) f.it most f.divides)) ∙ mul_assoc (P N / d / f.it) f.it d)
          ∙ mul-mod_left (P N / d / f.it) (f.it * d)

      again : (f : Factor (P N / d)) → tag N taps (f.it * d) ≡ 1
      again f = ap (tag N taps) (sym (add-zero (f.it * d))) ∙ many_rounds d e f.it 0

  -- a divisor below P at which they return is found
  found : (d : ℕ) → 0 < d → d < P N → P N % d ≡ 0 → tag N taps d ≡ 1 → returns_early N taps ≡ true
  found d p l z e = elim (dec_lt h.it (root_bound N)) [
    | yes s ↦ some_at (λ i. returns_at N taps (i + 1)) (root_bound N - 1) (h.it - 1) (omega (arith, h.some)) (ap (returns_at N taps) (back_one h.it h.some) ∙ here)
    | no s ↦ some_at (λ i. returns_at N taps (i + 1)) (root_bound N - 1) (g - 1) (small s) (ap (returns_at N taps) (back_one g most) ∙ there)
  ]
    where
      h : Home
      h = climb (P N / d) d (omega arith) p l z e

      g : ℕ
      g = P N / h.it

      most : 0 < P N / h.it
      most = times (P N) h.it some_steps h.divides

      back_one : (k : ℕ) → 0 < k → k - 1 + 1 ≡ k
      back_one k a = omega arith

      small : (h.it < root_bound N → ⊥) → P N / h.it - 1 < root_bound N - 1
      small s = omega (arith, most, one_small (P N) h.it some_steps h.divides (omega (arith, square, pow_pos N)) s)

      here : returns_at N taps h.it ≡ true
      here = both_true (eq-eqb (P N % h.it) 0 h.divides) (or_left _ (prime h.it && eqb (tag N taps (P N / h.it)) 1) (both_true h.over (eq-eqb (tag N taps h.it) 1 h.home)))

      there : returns_at N taps (P N / h.it) ≡ true
      there =
          both_true (eq-eqb (P N % (P N / h.it)) 0 (other (P N) h.it some_steps h.divides))
          (or_right (prime (P N / (P N / h.it)) && eqb (tag N taps (P N / h.it)) 1) _ (both_true h.over (eq-eqb (tag N taps (P N / (P N / h.it))) 1 (ap (tag N taps) (back (P N) h.it some_steps h.divides) ∙ h.home))))

  -- what is found there is a return before P
  no_divisor : ((k : ℕ) → 0 < k → k < P N → tag N taps k ≡ 1 → ⊥) → returns_early N taps ≡ false
  no_divisor away = some-none (λ i. returns_at N taps (i + 1)) (root_bound N - 1) (λ i _. none (i + 1) (omega arith))
    where
      none : (d : ℕ) → 0 < d → returns_at N taps d ≡ false
      none d p = and_off (eqb (P N % d) 0) _ (λ z. ap₂ ◌||◌ (low (eqb-true (P N % d) 0 z)) (high (eqb-true (P N % d) 0 z)))
        where
          low : P N % d ≡ 0 → prime (P N / d) && eqb (tag N taps d) 1 ≡ false
          low z = and_off (prime (P N / d)) _ (λ q. ne_eqb (tag N taps d) 1 (away d p (smaller (P N) d some_steps z (prime_large (P N / d) q))))

          high : P N % d ≡ 0 → prime d && eqb (tag N taps (P N / d)) 1 ≡ false
          high z = and_off (prime d) _ (λ q. ne_eqb (tag N taps (P N / d)) 1 (away (P N / d) (times (P N) d some_steps z) (div-lt_self some_steps (prime_large d q))))

  pub by_divisors : ((tag N taps (P N) ≡ 1) × (returns_early N taps ≡ false)) ↔ (tag_period N taps ≡ P N)
  by_divisors = (to, from)
    where
      f : First (λ k. eqb (tag N taps k) 1) (P N) 1 (tag_period N taps)
      f = sought N taps t

      to : (tag N taps (P N) ≡ 1) × (returns_early N taps ≡ false) → tag_period N taps ≡ P N
      to h = elim (dec_lt (tag_period N taps) (P N)) [
        | yes l ↦ absurd (less l)
        | no a ↦ elim (ℕ_discrete (tag_period N taps) (P N)) [
          | yes e ↦ e
          | no n ↦ absurd (eqb-false (tag N taps (P N)) 1 (f.before (P N) (long N taps t) (omega arith)) h.0)
        ]
      ]
        where
          home : tag_period N taps < P N → tag N taps (tag_period N taps) ≡ 1
          home l = eqb-true (tag N taps (tag_period N taps)) 1 (f.here (omega arith))

          less : tag_period N taps < P N → ⊥
          less l = elim (ℕ_discrete (P N % tag_period N taps) 0) [
            | yes z ↦ true≢false (sym (found (tag_period N taps) f.from l z (home l)) ∙ h.1)
            | no n ↦
                eqb-false (tag N taps (P N % tag_period N taps)) 1
                (f.before (P N % tag_period N taps) (omega arith) (mod-lt (P N) f.from))
                (sym (many_rounds (tag_period N taps) (home l) (P N / tag_period N taps) (P N % tag_period N taps))
                ∙ ap (tag N taps) (div-add-mod' (P N) (tag_period N taps)) ∙ h.0)
          ]

      from : tag_period N taps ≡ P N → (tag N taps (P N) ≡ 1) × (returns_early N taps ≡ false)
      from e = (
        ap (tag N taps) (sym e) ∙ eqb-true (tag N taps (tag_period N taps)) 1 (f.here (omega arith)),
        no_divisor (λ k p l. eqb-false (tag N taps k) 1 (f.before k p (omega arith))),
      )
