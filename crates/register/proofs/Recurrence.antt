-- The register's bits are the sequence of the textbook: the first N are 1, and s(k + N) is the sum of a(i) s(k + i) over i < N, modulo 2.
-- Assumes nothing.
use mathlib.Core.Path.{◌≡◌, sym, ap, ap₂, ◌∙◌}
use Prim.Native.Nat.{ℕ, zero, suc, ◌+◌, ◌-◌, ◌*◌, ◌/◌, ◌%◌, ◌^◌, ◌<◌, min}
use native.Mathlib.Nat.{mod-lt, zero-lt-suc, le_of_suc-le-suc, le_of_lt, add-zero, add-suc, suc-add, add_comm, add-mod-mod, div-one, div-div-eq-div-mul, pow-succ'}
use native.Mathlib.Omega.{arith}
use lib.Arith.{digits_div}
use lib.Bits.{block_half, block_odd}
use lib.Pow.{pow_pos}
use Rattle.register.specs.Register.{bit_of, dot, step, window, bit}
use Rattle.sums.specs.Sum.{total}
use Rattle.sums.proofs.Sum.{total_front, total_ext}
use Rattle.register.proofs.Dot.{dot-lt, dot-step, dot-zero, dot_comm}
use Rattle.register.proofs.Windows.{window-lt}

-- ---- bits

pub bit-zero : (w : ℕ) → bit_of w 0 ≡ w % 2
bit-zero w = ap (λ (x : ℕ). x % 2) (div-one w)

-- bit i + 1 is bit i of the half
pub bit-suc : (w i : ℕ) → bit_of w (suc i) ≡ bit_of (w / 2) i
bit-suc w i = ap (λ (x : ℕ). w / x % 2) (pow-succ' 2 i) ∙ ap (λ (x : ℕ). x % 2) (sym (div-div-eq-div-mul w 2 (2 ^ i)))

-- a bit below what is put on top, and the lowest bit of what is put on top
bit_under : (n d w i : ℕ) → i < n → bit_of (d * 2 ^ n + w) i ≡ bit_of w i
bit_under zero d w i h = omega arith
bit_under (suc n) d w zero h = bit-zero (d * 2 ^ suc n + w) ∙ block_odd d n w ∙ sym (bit-zero w)
bit_under (suc n) d w (suc i) h =
    bit-suc (d * 2 ^ suc n + w) i ∙ ap (λ (x : ℕ). bit_of x i) (block_half d n w) ∙ bit_under n d (w / 2) i (le_of_suc-le-suc h) ∙ sym (bit-suc w i)

bit_top : (n d w : ℕ) → d < 2 → w < 2 ^ n → bit_of (d * 2 ^ n + w) n ≡ d
bit_top n d w hd hw = ap (λ (x : ℕ). x % 2) (digits_div d hw) ∙ omega arith

-- for bits, the product is the lesser
min_mul : (p q : ℕ) → p < 2 → q < 2 → min p q ≡ p * q
min_mul zero q hp hq = omega arith
min_mul (suc zero) q hp hq = omega arith
min_mul (suc (suc p)) q hp hq = omega arith

pub bit-lt : (w i : ℕ) → bit_of w i < 2
bit-lt w i = mod-lt (w / 2 ^ i) (zero-lt-suc 1)

-- the parity of the common bits, bit by bit
pub dot-total : (n a w : ℕ) → w < 2 ^ n → dot a w ≡ total n (λ i. bit_of a i * bit_of w i) % 2
unfolding total
dot-total zero a w h = ap (dot a) (omega arith) ∙ dot_comm a 0 ∙ dot-zero a
dot-total (suc n) a w h =
    dot-step a w
    ∙ ap₂ (λ (x y : ℕ). (x + y) % 2)
    (min_mul (a % 2) (w % 2) (mod-lt a (zero-lt-suc 1)) (mod-lt w (zero-lt-suc 1)) ∙ ap₂ ◌*◌ (sym (bit-zero a)) (sym (bit-zero w)))
    (dot-total n (a / 2) (w / 2) (omega arith))
    ∙ add-mod-mod (bit_of a 0 * bit_of w 0) (total n (λ i. bit_of (a / 2) i * bit_of (w / 2) i)) 2
    ∙ ap (λ (x : ℕ). (bit_of a 0 * bit_of w 0 + x) % 2)
    (total_ext n (λ i l. ap₂ ◌*◌ (sym (bit-suc a i)) (sym (bit-suc w i))))
    ∙ ap (λ (x : ℕ). x % 2) (sym (total_front n (λ i. bit_of a i * bit_of w i)))

-- ---- the sequence

module _ (N taps : ℕ) where
  -- a step moves each bit down by one, and puts the new bit on top
  pub slide : (w i : ℕ) → suc i < N → bit_of (step N taps w) i ≡ bit_of w (suc i)
  unfolding step
  slide w i h =
      sym (bit-suc (w + dot taps w * 2 ^ N) i) ∙ ap (λ (x : ℕ). bit_of x (suc i)) (omega arith) ∙ bit_under N (dot taps w) w (suc i) h

  -- bit i of a window is the sequence's bit i steps ahead
  pub window-bit : (i k : ℕ) → i < N → bit_of (window N taps k) i ≡ bit N taps (k + i)
  unfolding window bit
  window-bit zero k h = bit-zero (window N taps k) ∙ ap (λ (x : ℕ). window N taps x % 2) (sym (add-zero k))
  window-bit (suc i) k h =
      sym (slide (window N taps k) i h) ∙ window-bit i (suc k) (le_of_lt h) ∙ ap (λ (x : ℕ). window N taps x % 2) (suc-add k i ∙ sym (add-suc k i))

  pub newest : 0 < N → (k : ℕ) → bit N taps (k + N) ≡ dot taps (window N taps k)
  unfolding window step
  newest h k =
      let w = window N taps k in
      let s : k + N ≡ suc k + (N - 1) = omega arith in
      let n : suc (N - 1) ≡ N = omega arith in
      ap (bit N taps) s
      ∙ sym (window-bit (N - 1) (suc k) (omega arith))
      ∙ sym (bit-suc (w + dot taps w * 2 ^ N) (N - 1))
      ∙ ap₂ bit_of (add_comm w (dot taps w * 2 ^ N)) n
      ∙ bit_top N (dot taps w) w (dot-lt taps w) (window-lt N taps k)

  -- the textbook's recurrence
  pub recurrence : 0 < N → (k : ℕ) → bit N taps (k + N) ≡ total N (λ i. bit_of taps i * bit N taps (k + i)) % 2
  recurrence h k =
      newest h k ∙ dot-total N taps (window N taps k) (window-lt N taps k)
      ∙ ap (λ (x : ℕ). x % 2) (total_ext N (λ i l. ap (λ (x : ℕ). bit_of taps i * x) (window-bit i k l)))

-- and its start: N ones
ones_bit : (n i : ℕ) → i < n → bit_of (2 ^ n - 1) i ≡ 1
ones_bit zero i h = omega arith
ones_bit (suc n) zero h = bit-zero (2 ^ suc n - 1) ∙ omega (arith, pow_pos n)
ones_bit (suc n) (suc i) h =
    bit-suc (2 ^ suc n - 1) i ∙ ap (λ (x : ℕ). bit_of x i) (omega (arith, pow_pos n)) ∙ ones_bit n i (le_of_suc-le-suc h)

pub starts : (N taps i : ℕ) → i < N → bit N taps i ≡ 1
unfolding window
starts N taps i h = ap (bit N taps) (omega arith) ∙ sym (window-bit N taps i 0 h) ∙ ones_bit N i h
