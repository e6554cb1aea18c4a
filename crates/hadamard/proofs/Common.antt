-- The bits that two numbers have in common: of 0 none, either way round the same, and by the top bits of both. Assumes nothing.
use mathlib.Core.Path.{◌≡◌, refl, sym, ap, ap₂, ◌∙◌}
use Prim.Native.Nat.{ℕ, zero, suc, ◌+◌, ◌*◌, ◌/◌, ◌%◌, ◌^◌, ◌<◌}
use native.Mathlib.Nat.{pow-suc, mul_assoc, mul_comm}
use native.Mathlib.Omega.{arith}
use Rattle.hadamard.specs.Transform.{common}

pub common-zero : (n b : ℕ) → common n 0 b ≡ 0
unfolding common
common-zero zero b = refl
common-zero (suc n) b = omega (arith, common-zero n (b / 2))

pub common_sym : (n a b : ℕ) → common n a b ≡ common n b a
unfolding common
common_sym zero a b = refl
common_sym (suc n) a b = ap₂ ◌+◌ (mul_comm (a % 2) (b % 2)) (common_sym n (a / 2) (b / 2))

-- an even number and a: the lowest bit is a's, and the rest is the sum of the halves
even_mod : (p a : ℕ) → (p * 2 + a) % 2 ≡ a % 2
even_mod p a = omega arith

even_div : (p a : ℕ) → (p * 2 + a) / 2 ≡ p + a / 2
even_div p a = omega arith

-- x and y are the top bits
pub common_top : (n x y a b : ℕ) → x < 2 → y < 2 → a < 2 ^ n → b < 2 ^ n → common (suc n) (x * 2 ^ n + a) (y * 2 ^ n + b) ≡ x * y + common n a b
unfolding common
common_top zero x y a b hx hy ha hb =
    let ex : (x * 1 + a) % 2 ≡ x = omega arith in
    let ey : (y * 1 + b) % 2 ≡ y = omega arith in
    rw (ex, ey)
common_top (suc n) x y a b hx hy ha hb =
    let p = 2 ^ n in
    let e : 2 ^ suc n ≡ p * 2 = pow-suc 2 n in
    let ex : x * 2 ^ suc n ≡ x * p * 2 = ap (λ k. x * k) e ∙ sym (mul_assoc x p 2) in
    let ey : y * 2 ^ suc n ≡ y * p * 2 = ap (λ k. y * k) e ∙ sym (mul_assoc y p 2) in
    let ih = common_top n x y (a / 2) (b / 2) hx hy (omega arith) (omega arith) in
    rw (ex, ey, even_mod (x * p) a, even_mod (y * p) b, even_div (x * p) a, even_div (y * p) b, ih) (omega arith)
