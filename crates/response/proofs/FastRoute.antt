-- The fast route equals the formula: a recording laid out by the windows, transformed, and read at the tag of the delay P - k less what is
-- read at 0, is r(k); a response laid out by those tags, transformed, and read at the window of place j, is the predicted y(j). Assumes nothing.
use mathlib.Core.Path.{◌≡◌, sym, ap, ap₂, ◌∙◌}
use mathlib.Core.List.{List}
use Prim.Native.Nat.{ℕ, zero, suc, ◌+◌, ◌-◌, ◌*◌, ◌/◌, ◌%◌, ◌^◌, ◌<◌, min}
use native.Mathlib.Nat.{mod-lt, zero-lt-suc}
use native.Mathlib.Omega.{arith}
use lib.IntN.{ℤ, pos, nat_abs, ◌-ℤ◌, ◌*ℤ◌, *ℤ_comm}
use lib.ListN.{length, take}
use lib.Pow.{suc_ones}
use lib.Seq.{get_or-take, length-take-le}
use Rattle.sums.specs.Sum.{sum, total, sign}
use Rattle.sums.specs.Lists.{at}
use Rattle.sums.proofs.Perm.{Visits}
use Rattle.sums.proofs.Ring.{one-*ℤ}
use Rattle.sums.proofs.Sign.{sign-mod}
use Rattle.sums.proofs.Sum.{sum_ext, total_ext}
use Rattle.register.specs.Register.{P, dot, window, wave, tag, Accepted}
use Rattle.register.proofs.Dot.{dot-step, dot-zero, dot_comm}
use Rattle.register.proofs.Windows.{ahead}
use Rattle.register.proofs.Orbit.{visits}
use Rattle.register.proofs.Correlation.{wave-mod, tags_visit}
use Rattle.register.proofs.Judged.{generator}
use Rattle.hadamard.specs.Transform.{common, transformed, loudness}
use Rattle.response.specs.Response.{correlation, response, prediction}
use Rattle.response.specs.Route.{Laid}
use Rattle.response.proofs.Kernel.{weighed, as_loud}

-- ---- the transform's signs are the register's

product_bits : (a b : ℕ) → a < 2 → b < 2 → a * b ≡ min a b
product_bits zero b h k = omega arith
product_bits (suc zero) b h k = omega arith
product_bits (suc (suc a)) b h k = omega arith

common-dot : (n a b : ℕ) → b < 2 ^ n → common n a b % 2 ≡ dot a b
unfolding common
common-dot zero a b h = let e : b ≡ 0 = omega arith in sym (ap (dot a) e ∙ dot_comm a 0 ∙ dot-zero a)
common-dot (suc n) a b h =
    let ih = common-dot n (a / 2) (b / 2) (omega arith) in
    let p = product_bits (a % 2) (b % 2) (mod-lt a (zero-lt-suc 1)) (mod-lt b (zero-lt-suc 1)) in
    let s = dot-step a b in
    omega arith

common-sign : (n a b : ℕ) → b < 2 ^ n → sign (common n a b) ≡ sign (dot a b)
common-sign n a b h = sym (sign-mod (common n a b)) ∙ ap sign (common-dot n a b h)

-- ---- a laid room, of which the first 2 ^ N are transformed

module _ (N : ℕ) {place : ℕ → ℕ} {y : ℕ → ℤ} {was v : List ℤ} (walk : Visits (P N) place) (laid : Laid (P N) place y was v) (long : P N < length v) where
  pub room_long : length (take (2 ^ N) v) ≡ 2 ^ N
  room_long = length-take-le (2 ^ N) v (omega (arith, suc_ones N))

  same : (w : ℕ) → w < 2 ^ N → at (take (2 ^ N) v) w ≡ at v w
  same w h = get_or-take (2 ^ N) v w (pos 0) h

  -- each number of the transform is the numbers laid out, with the signs of their places
  pub signed : (u : ℕ) → transformed N (take (2 ^ N) v) u ≡ sum (P N) (λ j. sign (dot u (place j)) *ℤ y j)
  unfolding transformed
  signed u =
      sum_ext (2 ^ N) (λ w h. ap₂ ◌*ℤ◌ (common-sign N u w h) (same w h))
      ∙ ap (λ n. sum n (λ w. sign (dot u w) *ℤ at v w)) (sym (suc_ones N))
      ∙ weighed walk laid (λ w. sign (dot u w))

  pub loud : loudness (take (2 ^ N) v) ≡ total (P N) (λ j. nat_abs (y j))
  unfolding loudness
  loud =
      ap (λ n. total n (λ w. nat_abs (at (take (2 ^ N) v) w))) room_long
      ∙ total_ext (2 ^ N) (λ w h. ap nat_abs (same w h))
      ∙ ap (λ n. total n (λ w. nat_abs (at v w))) (sym (suc_ones N))
      ∙ as_loud walk laid

-- ---- both ways

module _ (N taps : ℕ) (a : Accepted N taps) where
  pub windows_walk : Visits (P N) (window N taps)
  windows_walk = visits N taps a.shaped.tapped a.maximal.first

  pub tags_walk : Visits (P N) (λ i. tag N taps (P N - i))
  tags_walk = tags_visit N taps (generator a)

  -- x(j - k), by the tag of the delay P - k and the window of place j
  shifted : (j k : ℕ) → sign (dot (tag N taps (P N - k)) (window N taps j)) ≡ wave N taps ((j + (P N - k)) % P N)
  unfolding wave
  shifted j k = ap sign (sym (ahead N taps a.shaped.tapped (P N - k) j)) ∙ sym (wave-mod N taps (generator a) (j + (P N - k)))

  module _ {y : ℕ → ℤ} {was v : List ℤ} (long : P N < length v) where
    pub route : Laid (P N) (window N taps) y was v → (k : ℕ)
        → transformed N (take (2 ^ N) v) (tag N taps (P N - k)) -ℤ transformed N (take (2 ^ N) v) 0 ≡ response (P N) (wave N taps) y k
    unfolding response correlation sign
    route laid k =
        ap₂ ◌-ℤ◌
        (signed N windows_walk laid long (tag N taps (P N - k))
        ∙ sum_ext (P N) (λ j _. ap (λ z. z *ℤ y j) (shifted j k) ∙ *ℤ_comm (wave N taps ((j + (P N - k)) % P N)) (y j)))
        (signed N windows_walk laid long 0
        ∙ sum_ext (P N) (λ j _. ap (λ n. sign n *ℤ y j) (dot-zero (window N taps j)) ∙ one-*ℤ (y j)))

    pub route_back : Laid (P N) (λ i. tag N taps (P N - i)) y was v → (j : ℕ)
        → transformed N (take (2 ^ N) v) (window N taps j) ≡ prediction (P N) (wave N taps) y j
    unfolding prediction
    route_back laid j =
        signed N tags_walk laid long (window N taps j)
        ∙ sum_ext (P N)
        (λ i _. ap (λ n. sign n *ℤ y i) (dot_comm (window N taps j) (tag N taps (P N - i)))
        ∙ ap (λ z. z *ℤ y i) (shifted j i) ∙ *ℤ_comm (wave N taps ((j + (P N - i)) % P N)) (y i))
