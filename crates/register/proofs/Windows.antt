-- The register's step, for every order N: it keeps its range, it loses nothing where tap 0 is set, and its transpose steps the tags, by
-- which the bit m steps ahead is read off a window. Assumes nothing.
use mathlib.Core.Path.{◌≡◌, sym, ap, ap₂, ◌∙◌}
use Prim.Native.Nat.{ℕ, zero, suc, ◌+◌, ◌-◌, ◌*◌, ◌/◌, ◌%◌, ◌^◌, ◌≤◌, ◌<◌}
use native.Mathlib.Nat.{mod-lt, le_of_suc-le-suc, mul-le-mul_right, div-lt_iff_lt-mul, div-add-mod', add_comm, add-suc, suc-add, add-zero, pow-suc}
use native.Mathlib.Numerals.{add-one}
use native.Mathlib.Omega.{arith}
use lib.Bits.{xor_lt}
use lib.Pow.{pow_pos, ones_lt}
use Rattle.register.specs.Register.{dot, step, window, bit, tag-step, tag, Tapped}
use Rattle.register.proofs.Dot.{dot-lt, dot_cat, dot-step, dot_xor, dot-one, dot_double, dot_times}

-- a bit's multiple
pub bit-mul : (d p : ℕ) → d < 2 → d * p ≤ p
bit-mul d p h = omega (arith, mul-le-mul_right p (le_of_suc-le-suc h))

pub step-lt : (N taps w : ℕ) → w < 2 ^ N → step N taps w < 2 ^ N
unfolding step
step-lt N taps w h =
    let b = bit-mul (dot taps w) (2 ^ N) (dot-lt taps w) in
    omega arith

pub window-lt : (N taps k : ℕ) → window N taps k < 2 ^ N
unfolding window
window-lt N taps zero = ones_lt N
window-lt N taps (suc k) = step-lt N taps (window N taps k) (window-lt N taps k)

-- a step from place k leads to place k + 1
pub window-next : (N taps k : ℕ) {w r : ℕ} → w ≡ window N taps k → r ≡ step N taps w → r ≡ window N taps (k + 1)
unfolding window
window-next N taps k e h = h ∙ ap (step N taps) e ∙ ap (window N taps) (sym (add-one k))

-- two windows with their new bits on top, moved down: the new bits and all bits but the lowest can be read off
apart : (p q d e w v : ℕ) → p ≡ q * 2 → d < 2 → e < 2 → w < p → v < p → (w + d * p) / 2 ≡ (v + e * p) / 2 → (d ≡ e) × (w / 2 ≡ v / 2)
apart p q zero zero w v hp hd he hw hv h = omega arith
apart p q zero (suc zero) w v hp hd he hw hv h = omega arith
apart p q (suc zero) zero w v hp hd he hw hv h = omega arith
apart p q (suc zero) (suc zero) w v hp hd he hw hv h = omega arith
apart p q zero (suc (suc e)) w v hp hd he hw hv h = omega arith
apart p q (suc zero) (suc (suc e)) w v hp hd he hw hv h = omega arith
apart p q (suc (suc d)) e w v hp hd he hw hv h = omega arith

halves : (N : ℕ) → 0 < N → 2 ^ N ≡ 2 ^ (N - 1) * 2
halves zero h = omega arith
halves (suc n) h = pow-suc 2 n ∙ ap (λ (m : ℕ). 2 ^ m * 2) (omega arith)

pub step_inj : (N taps w v : ℕ) → Tapped N taps → w < 2 ^ N → v < 2 ^ N → step N taps w ≡ step N taps v → w ≡ v
unfolding step
step_inj N taps w v t hw hv h =
    let a = apart (2 ^ N) (2 ^ (N - 1)) (dot taps w) (dot taps v) w v (halves N t.some) (dot-lt taps w) (dot-lt taps v) hw hv h in
    let s = dot-step taps w in
    let r = dot-step taps v in
    let e : dot (taps / 2) (w / 2) ≡ dot (taps / 2) (v / 2) = ap (dot (taps / 2)) a.1 in
    omega (arith, t.low)

-- the bit that leaves a tag at the top
pub out_lt : (N l : ℕ) → l < 2 ^ N → l * 2 / 2 ^ N < 2
out_lt N l h = (div-lt_iff_lt-mul (pow_pos N)).1 (omega arith)

-- the transpose
pub adjoint : (N taps l w : ℕ) → l < 2 ^ N → w < 2 ^ N → dot (tag-step N taps l) w ≡ dot l (step N taps w)
unfolding tag-step step
adjoint N taps l w hl hw =
    let p = 2 ^ N in
    let d = dot taps w in
    let t = l * 2 / p in
    dot_xor (l * 2 % p) (t * taps) w
    ∙ ap (λ (x : ℕ). (dot (l * 2 % p) w + x) % 2) (dot_times t taps w (out_lt N l hl))
    ∙ ap (λ (x : ℕ). x % 2) (add_comm (dot (l * 2 % p) w) (dot t d))
    ∙ sym (dot_cat N t d (l * 2 % p) w (mod-lt (l * 2) (pow_pos N)) hw)
    ∙ ap₂ dot (div-add-mod' (l * 2) p) (add_comm (d * p) w)
    ∙ dot_double l (w + d * p)

pub tag-step-lt : (N taps l : ℕ) → taps < 2 ^ N → l < 2 ^ N → tag-step N taps l < 2 ^ N
unfolding tag-step
tag-step-lt N taps l ht hl =
    xor_lt N (l * 2 % 2 ^ N) (l * 2 / 2 ^ N * taps) (mod-lt (l * 2) (pow_pos N)) (omega (arith, bit-mul (l * 2 / 2 ^ N) taps (out_lt N l hl)))

module _ (N taps : ℕ) (t : Tapped N taps) where
  pub tag-lt : (m : ℕ) → tag N taps m < 2 ^ N
  unfolding tag
  tag-lt zero = omega (arith, halves N t.some, pow_pos (N - 1))
  tag-lt (suc m) = tag-step-lt N taps (tag N taps m) t.fits (tag-lt m)

  -- one step longer
  pub tag-next : {m n l r : ℕ} → l ≡ tag N taps m → n ≡ suc m → r ≡ tag-step N taps l → r ≡ tag N taps n
  unfolding tag
  tag-next e n h = h ∙ ap (tag-step N taps) e ∙ ap (tag N taps) (sym n)

  -- the bit m steps ahead, from the window as it is now
  pub ahead : (m j : ℕ) → bit N taps (j + m) ≡ dot (tag N taps m) (window N taps j)
  unfolding bit tag window
  ahead zero j = ap (λ (k : ℕ). window N taps k % 2) (add-zero j) ∙ sym (dot-one (window N taps j))
  ahead (suc m) j =
      ap (λ (k : ℕ). window N taps k % 2) (add-suc j m ∙ sym (suc-add j m))
      ∙ ahead m (suc j)
      ∙ sym (adjoint N taps (tag N taps m) (window N taps j) (tag-lt m) (window-lt N taps j))
