-- Document 01, "Sequence and register". A register of order N holds a window of N bits: bit i is the bit i steps ahead, and bit 0 goes
-- out next. Taps are a mask whose bit i is a(i). Assumes nothing.
use Rattle.std.specs.Prelude.{◌≡◌, ℕ, zero, suc, ◌+◌, ◌-◌, ◌*◌, ◌/◌, ◌%◌, ◌^◌, ◌≤◌, ◌<◌, ℤ, eqb}
use Rattle.std.specs.Int.Bits.{bit_and, bit_xor}
use Rattle.std.specs.Int.Count.{ones}
use Rattle.sums.specs.Sum.{sign}
use Rattle.sums.specs.Lists.{seek}

-- the full period of order N
abbrev pub P : ℕ → ℕ
P N = 2 ^ N - 1

-- bit i of a number
abbrev pub bit_of : ℕ → ℕ → ℕ
bit_of w i = w / 2 ^ i % 2

-- the parity of the bits that two numbers have in common: the sum modulo 2 of a(i)·w(i)
unfoldable pub dot : ℕ → ℕ → ℕ
dot a w = ones (bit_and a w) % 2

-- one step: the new bit is put above the window, and all bits move down by one
unfoldable pub step : ℕ → ℕ → ℕ → ℕ
step N taps w = (w + dot taps w * 2 ^ N) / 2

-- the window after k steps from N ones
unfoldable pub window : ℕ → ℕ → ℕ → ℕ
window N taps zero = P N
window N taps (suc k) = step N taps (window N taps k)

-- s(k), and the signal x(k) = 1 - 2·s(k)
unfoldable pub bit : ℕ → ℕ → ℕ → ℕ
bit N taps k = window N taps k % 2

unfoldable pub wave : ℕ → ℕ → ℕ → ℤ
wave N taps k = sign (bit N taps k)

-- the number of steps after which the register first returns to all ones, sought among 1 to P
unfoldable pub period : ℕ → ℕ → ℕ
period N taps = seek (λ k. eqb (window N taps k) (P N)) (P N) 1

-- the tag of a delay m: which bits of a window add up to the bit m steps ahead. One step longer, the bits move up by one, and the bit
-- that leaves at the top goes back in at every tap
unfoldable pub tag-step : ℕ → ℕ → ℕ → ℕ
tag-step N taps l = bit_xor (l * 2 % 2 ^ N) (l * 2 / 2 ^ N * taps)

unfoldable pub tag : ℕ → ℕ → ℕ → ℕ
tag N taps zero = 1
tag N taps (suc m) = tag-step N taps (tag N taps m)

-- ---- what laws ask of a register

-- taps of a register of order N, tap 0 among them
pub record Tapped (N taps : ℕ) : Type 0 where
  pub some : 0 < N
  pub fits : taps < 2 ^ N
  pub low : taps % 2 ≡ 1

-- the register first returns to all ones after P steps
pub record Maximal (N taps : ℕ) : Type 0 where
  pub returns : window N taps (P N) ≡ P N
  pub first : (k : ℕ) → 0 < k → k < P N → window N taps k ≡ P N → ⊥

pub record Generator (N taps : ℕ) : Type 0 where
  pub tapped : Tapped N taps
  pub maximal : Maximal N taps

-- an order of 2 to 16 with such taps, which refusals 1, 2 and 3 leave; and what refusal 4 leaves of these
pub record Shaped (N taps : ℕ) : Type 0 where
  pub least : 2 ≤ N
  pub most : N ≤ 16
  pub tapped : Tapped N taps

pub record Accepted (N taps : ℕ) : Type 0 where
  pub shaped : Shaped N taps
  pub maximal : Maximal N taps
