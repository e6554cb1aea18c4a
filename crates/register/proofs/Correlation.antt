-- The signal of a maximal register: over a period it sums to -1, (P+1)/2 of its bits are ones, and its autocorrelation is P at shift 0
-- and -1 at every other shift up to P-1, indices counted modulo P. Assumes nothing.
use mathlib.Core.Path.{◌≡◌, refl, sym, ap, ap₂, ◌∙◌}
use Prim.Native.Nat.{ℕ, zero, suc, ◌+◌, ◌-◌, ◌*◌, ◌/◌, ◌%◌, ◌^◌, ◌<◌, min}
use native.Mathlib.Nat.{add-zero, add_comm, mul_comm, pow-suc, mod-lt, div-add-mod', zero-lt-suc}
use native.Mathlib.Omega.{arith}
use lib.Bits.{bit_xor, xor_lt, xor_add_and, and_le_l, and_le_r}
use lib.IntN.{ℤ, pos, negsuc, neg_ℤ, ◌+ℤ◌, ◌*ℤ◌, +ℤ_invr}
use lib.Pow.{pow_pos, pow-lt}
use Rattle.sums.specs.Sum.{sum, total, sign}
use Rattle.sums.proofs.Diff.{parts, diffs, ints}
use Rattle.sums.proofs.Ring.{neg-*ℤ, one-*ℤ}
use Rattle.sums.proofs.Perm.{Visits}
use Rattle.sums.proofs.Sign.{sign-+, sign-mod, sign_sq, sign_bit}
use Rattle.sums.proofs.Sum.{sum_ext, sum_one, sum-+, sum-sub, sum_scale, sum_pairs, pos-total}
use Rattle.register.specs.Register.{bit_of, dot, window, bit, wave, tag, Tapped, Generator, P}
use Rattle.register.proofs.Dot.{dot-step, dot_xor, dot-zero, dot_comm, dot_double}
use Rattle.register.proofs.Windows.{window-lt, step_inj, tag-lt, ahead}
use Rattle.register.proofs.Recurrence.{bit-zero, bit-suc, window-bit}
use Rattle.register.proofs.Orbit.{distinct, window-pos, window_rounds, once_each}

-- ---- the signs of a number's parities

sign-add : (a b : ℕ) → sign ((a + b) % 2) ≡ sign a *ℤ sign b
sign-add a b = sign-mod (a + b) ∙ sign-+ a b

even : (u w : ℕ) → dot u (2 * w) ≡ dot (u / 2) w
even u w = ap (dot u) (mul_comm 2 w) ∙ dot_comm u (w * 2) ∙ dot_double w u ∙ dot_comm w (u / 2)

odd : (u w : ℕ) → dot u (2 * w + 1) ≡ (u % 2 + dot (u / 2) w) % 2
odd u w =
    let a : min (u % 2) ((2 * w + 1) % 2) ≡ u % 2 = omega arith in
    let b : (2 * w + 1) / 2 ≡ w = omega arith in
    dot-step u (2 * w + 1) ∙ ap₂ (λ (x y : ℕ). (x + dot (u / 2) y) % 2) a b

-- over all numbers below 2 ^ N they cancel, but those of 0
pub balanced : (N u : ℕ) → 0 < u → u < 2 ^ N → sum (2 ^ N) (λ w. sign (dot u w)) ≡ pos 0
unfolding sign
balanced zero u h l = absurd (omega arith)
balanced (suc N) u h l =
    ap (λ (k : ℕ). sum k (λ w. sign (dot u w))) (pow-suc 2 N ∙ mul_comm (2 ^ N) 2)
    ∙ sum_pairs (2 ^ N) (λ w. sign (dot u w))
    ∙ sum_ext (2 ^ N)
    (λ w k. ap₂ ◌+ℤ◌ (ap sign (even u w)) (ap sign (odd u w) ∙ sign-add (u % 2) (dot (u / 2) w)))
    ∙ sum-+ (2 ^ N) _ _
    ∙ ap (λ (z : ℤ). half +ℤ z) (sum_scale (2 ^ N) (sign (u % 2)) _)
    ∙ go (u % 2) refl (mod-lt u (zero-lt-suc 1)) (λ p. balanced N (u / 2) p (omega arith))
  where
    half : ℤ
    half = sum (2 ^ N) (λ w. sign (dot (u / 2) w))

    go : (b : ℕ) → u % 2 ≡ b → b < 2 → (0 < u / 2 → half ≡ pos 0) → half +ℤ sign b *ℤ half ≡ pos 0
    go zero e k ih = ap (λ (z : ℤ). z +ℤ pos 1 *ℤ z) (ih (omega arith))
    go (suc zero) e k ih = ap (λ (z : ℤ). half +ℤ z) (neg-*ℤ (pos 1) half ∙ ap neg_ℤ (one-*ℤ half)) ∙ +ℤ_invr half
    go (suc (suc b)) e k ih = absurd (omega arith)

-- ---- numbers by their bits

pub bits_ext : (N w v : ℕ) → w < 2 ^ N → v < 2 ^ N → ((i : ℕ) → i < N → bit_of w i ≡ bit_of v i) → w ≡ v
bits_ext zero w v hw hv h = omega arith
bits_ext (suc N) w v hw hv h =
    let e = bits_ext N (w / 2) (v / 2) (omega arith) (omega arith) (λ i l. sym (bit-suc w i) ∙ h (suc i) (omega arith) ∙ bit-suc v i) in
    let z : w % 2 ≡ v % 2 = sym (bit-zero w) ∙ h 0 (omega arith) ∙ bit-zero v in
    omega arith

pub xor_pos : (a b : ℕ) → (a ≡ b → ⊥) → 0 < bit_xor a b
xor_pos a b h = omega (arith, xor_add_and a b, and_le_l a b, and_le_r a b)

-- ---- tags

pub bit-none : (i : ℕ) → bit_of 0 i ≡ 0
bit-none zero = refl
bit-none (suc i) = bit-suc 0 i ∙ bit-none i

module _ (N taps : ℕ) (t : Tapped N taps) where
  -- a bit of a window, by the tag of the window's place
  window-tag : (a i : ℕ) → i < N → bit_of (window N taps a) i ≡ dot (tag N taps a) (window N taps i)
  window-tag a i k = window-bit N taps i a k ∙ ap (bit N taps) (add_comm a i) ∙ ahead N taps t a i

  -- tags that are the same tell windows that are the same, and no tag is 0
  pub same-window : (a b : ℕ) → tag N taps a ≡ tag N taps b → window N taps a ≡ window N taps b
  same-window a b e =
      bits_ext N (window N taps a) (window N taps b) (window-lt N taps a) (window-lt N taps b)
      (λ i k. window-tag a i k ∙ ap (λ (z : ℕ). dot z (window N taps i)) e ∙ sym (window-tag b i k))

  pub tag-pos : (m : ℕ) → tag N taps m ≡ 0 → ⊥
  tag-pos m e =
      window-pos N taps t m
      (bits_ext N (window N taps m) 0 (window-lt N taps m) (pow_pos N)
      (λ i k. window-tag m i k ∙ ap (λ (z : ℕ). dot z (window N taps i)) e ∙ dot-zero (window N taps i) ∙ sym (bit-none i)))

-- ---- the signal

module _ (N taps : ℕ) (g : Generator N taps) where
  -- over the windows, the signs of any number's parities but 0's
  character : (u : ℕ) → 0 < u → u < 2 ^ N → sum (P N) (λ j. sign (dot u (window N taps j))) ≡ negsuc 0
  unfolding sign
  character u h l =
      less_one (sum (P N) (λ j. sign (dot u (window N taps j))))
      (ap (λ (x : ℕ). sign x +ℤ sum (P N) (λ j. sign (dot u (window N taps j)))) (sym (dot_comm u 0 ∙ dot-zero u))
      ∙ once_each N taps g.tapped g.maximal.first (λ w. sign (dot u w))
      ∙ balanced N u h l)
    where
      less_one : (z : ℤ) → pos 1 +ℤ z ≡ pos 0 → z ≡ negsuc 0
      less_one z e = rw (parts z) (simp diffs (omega (ints, simp diffs at (rw (parts z) at e))))

  wave_ahead : (m j : ℕ) → wave N taps (j + m) ≡ sign (dot (tag N taps m) (window N taps j))
  unfolding wave
  wave_ahead m j = ap sign (ahead N taps g.tapped m j)

  -- places count modulo P
  pub wave-mod : (k : ℕ) → wave N taps (k % P N) ≡ wave N taps k
  unfolding wave bit
  wave-mod k =
      ap (λ (w : ℕ). sign (w % 2))
      (sym (window_rounds N taps g.tapped g.maximal (k / P N) (k % P N))
      ∙ ap (window N taps) (add_comm (k % P N) (k / P N * P N) ∙ div-add-mod' k (P N)))

  pub tags_differ : (a b : ℕ) → a < P N → b < P N → tag N taps a ≡ tag N taps b → a ≡ b
  tags_differ a b ha hb e = distinct N taps g.tapped g.maximal.first a b ha hb (same-window N taps g.tapped a b e)

  -- the tags of the delays P, P - 1, …, 1 are each nonzero number once
  pub tags_visit : Visits (P N) (λ i. tag N taps (P N - i))
  unfolding window
  tags_visit =
      record {
        low = λ i _. let n = tag-pos N taps g.tapped (P N - i) in omega arith;
        high = λ i _. omega (arith, tag-lt N taps g.tapped (P N - i));
        apart = λ i j hi hj e. apart i j hi hj (same-window N taps g.tapped (P N - i) (P N - j) e);
      }
    where
      apart : (i j : ℕ) → i < P N → j < P N → window N taps (P N - i) ≡ window N taps (P N - j) → i ≡ j
      apart i j hi hj e =
          let a : P N - i ≡ suc (P N - suc i) = omega arith in
          let b : P N - j ≡ suc (P N - suc j) = omega arith in
          let f =
          step_inj N taps (window N taps (P N - suc i)) (window N taps (P N - suc j)) g.tapped
          (window-lt N taps (P N - suc i)) (window-lt N taps (P N - suc j))
          (ap (window N taps) (sym a) ∙ e ∙ ap (window N taps) b) in
          let s = distinct N taps g.tapped g.maximal.first (P N - suc i) (P N - suc j) (omega arith) (omega arith) f in
          omega arith

  pub sum-wave : sum (P N) (wave N taps) ≡ negsuc 0
  unfolding tag
  sum-wave =
      sum_ext (P N)
      (λ j l. ap (wave N taps) (sym (add-zero j)) ∙ wave_ahead 0 j)
      ∙ character 1 (omega arith) (pow-lt g.tapped.some)

  pub power : sum (P N) (λ j. wave N taps j *ℤ wave N taps j) ≡ pos (P N)
  unfolding wave
  power = sum_ext (P N) (λ j l. sign_sq (bit N taps j)) ∙ sum_one (P N)

  pub autocorrelation : (d : ℕ) → 0 < d → d < P N → sum (P N) (λ j. wave N taps j *ℤ wave N taps ((j + d) % P N)) ≡ negsuc 0
  unfolding tag
  autocorrelation d p l =
      let u = tag N taps d in
      sum_ext (P N)
      (λ j k. ap₂ ◌*ℤ◌ (ap (wave N taps) (sym (add-zero j)) ∙ wave_ahead 0 j) (wave-mod (j + d) ∙ wave_ahead d j)
      ∙ sym (sign-add (dot 1 (window N taps j)) (dot u (window N taps j)))
      ∙ ap sign (sym (dot_xor 1 u (window N taps j))))
      ∙ character (bit_xor 1 u) (xor_pos 1 u (λ e. apart (tags_differ 0 d (omega arith) l e)))
      (xor_lt N 1 u (tag-lt N taps g.tapped 0) (tag-lt N taps g.tapped d))
    where
      apart : 0 ≡ d → ⊥
      apart e = omega arith

  -- exactly (P+1)/2 bits are ones
  pub ones_half : 2 * total (P N) (bit N taps) ≡ suc (P N)
  unfolding wave bit
  ones_half =
      count (P N) (total (P N) (bit N taps))
      (sym sum-wave
      ∙ sum_ext (P N) (λ j _. sign_bit (bit N taps j) (mod-lt (window N taps j) (zero-lt-suc 1)))
      ∙ sum-sub (P N) _ _
      ∙ ap₂ (λ (a b : ℤ). a +ℤ neg_ℤ b) (sum_one (P N)) (sum_scale (P N) (pos 2) _ ∙ ap (λ (z : ℤ). pos 2 *ℤ z) (sym (pos-total (P N) (bit N taps)))))
    where
      count : (p n : ℕ) → negsuc 0 ≡ pos p +ℤ neg_ℤ (pos 2 *ℤ pos n) → 2 * n ≡ suc p
      count p n e = omega (ints, simp diffs at e)
