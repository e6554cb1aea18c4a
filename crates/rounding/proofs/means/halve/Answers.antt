-- `rounding::means::halve` meets its contract: a number is what is left of it times the power of two taken out. Assumes nothing.
use mathlib.Core.Path.{◌≡◌, refl, sym}
use Prim.Native.Nat.{ℕ, zero, suc, ◌*◌, ◌/◌, ◌%◌, ◌^◌, ◌≤◌}
use native.Mathlib.Nat.{pow-suc}
use native.Mathlib.Omega.{arith}
use lib.Count.{under, count_trailing_zeros}
use Rattle.std.proofs.Math.Nat.{div-div-eq-div-mul}
use Rattle.rounding.proofs.means.halve.Goals as goal

-- one more 2 taken out of an even number
again : (t n : ℕ) → n % 2 ≡ 0 → n / 2 / 2 ^ t * 2 ^ t ≡ n / 2 → n / 2 ^ suc t * 2 ^ suc t ≡ n
again t n even e =
    let p : 2 ^ suc t ≡ 2 * 2 ^ t = omega (arith, pow-suc 2 t) in
    let q : n / (2 * 2 ^ t) ≡ n / 2 / 2 ^ t = sym (div-div-eq-div-mul n 2 (2 ^ t)) in
    let m : n / 2 / 2 ^ t * (2 * 2 ^ t) ≡ n / 2 / 2 ^ t * 2 ^ t * 2 = omega arith in
    rw (p, q, m, e) (omega arith)

-- so many of its lowest digits are zeros
taken : (k t n : ℕ) → t ≤ count_trailing_zeros k n → n / 2 ^ t * 2 ^ t ≡ n
unfolding count_trailing_zeros
taken k zero n h = omega arith
taken zero (suc t) n h = absurd (omega arith)
taken (suc k) (suc t) n h = go (n % 2) refl h (taken k t (n / 2))
  where
    go : (d : ℕ) → n % 2 ≡ d → suc t ≤ under d (count_trailing_zeros k (n / 2))
        → (t ≤ count_trailing_zeros k (n / 2) → n / 2 / 2 ^ t * 2 ^ t ≡ n / 2) → n / 2 ^ suc t * 2 ^ suc t ≡ n
    go zero e l ih = again t n e (ih (omega arith))
    go (suc d) e l ih = absurd (omega arith)

pub returns : goal.returns
returns c = (taken 64 c.min-times.result c.args.d (omega arith), omega arith)
