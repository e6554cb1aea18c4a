-- The ones of a sequence offered stand where the squares of 0 to (p-1)/2 do, counted back from the end: what is summed over the ones is summed over these.
-- And a square from the one before. Assumes nothing.
use mathlib.Core.Path.{◌≡◌, refl, sym, ap, ◌∙◌}
use mathlib.Core.Bool.{Bool, true, false, cond}
use Prim.Native.Nat.{ℕ, ◌+◌, ◌-◌, ◌*◌, ◌%◌, ◌<◌}
use native.Mathlib.Nat.{mod-lt, mod-eq_of_lt, mod-add-mod, add-mod-mod, add-mod_right, mul-add, add-mul}
use native.Mathlib.Decide.{dec_lt}
use native.Mathlib.Omega.{arith}
use borrow.Author.Tests.{eqb-true}
use lib.Dec.{T, eqb}
use lib.IntN.{ℤ, pos, ◌*ℤ◌}
use Rattle.sums.specs.Sum.{sum, delta}
use Rattle.sums.specs.Lists.{many}
use Rattle.sums.proofs.Everywhere.{every-at}
use Rattle.sums.proofs.Members.{all_each}
use Rattle.sums.proofs.Sum.{sum_ext, sum_swap, sum-delta, sum_scale_r, pos-total}
use Rattle.legendre.specs.Legendre.{periods, offered, bit}
use Rattle.legendre.specs.Working.{half}
use Rattle.legendre.proofs.Certificate.{backed, ones_at, ones_computed}

-- ---- a square from the one before

-- (i+1)² is i² and 2i+1 more
pub next-square : (p i s : ℕ) → s ≡ i * i % p → (s + 2 * i + 1) % p ≡ (i + 1) * (i + 1) % p
next-square p i s e =
    let f : s + 2 * i + 1 ≡ s + (2 * i + 1) = omega arith in
    let g : i * i + (2 * i + 1) ≡ (i + 1) * (i + 1) = omega (arith, add-mul i 1 (i + 1), mul-add i i 1) in
    ap (λ (n : ℕ). n % p) f ∙ ap (λ (n : ℕ). (n + (2 * i + 1)) % p) e ∙ mod-add-mod (i * i) p (2 * i + 1) ∙ ap (λ (n : ℕ). n % p) g

-- ---- each one once

T_true : (b : Bool) → T b → b ≡ true
T_true true t = refl
T_true false t = absurd t

pos_cond : (b : Bool) → pos (cond b 1 0) ≡ cond b (pos 1) (pos 0)
pos_cond true = refl
pos_cond false = refl

module _ (p : ℕ) (o : offered p ≡ true) where
  -- the bit at n counts the squares that are there
  counted : (n : ℕ) → n < p → pos (bit p n) ≡ sum (half p) (λ i. delta (backed p i) n)
  unfolding offered many delta
  counted n l =
      let c = T_true (ones_at p) (all_each ones_at periods ones_computed p o) in
      let e = eqb-true (many (half p) (λ i. eqb n (backed p i))) (bit p n) (every-at p (λ m. eqb (many (half p) (λ i. eqb m (backed p i))) (bit p m)) c n l) in
      ap pos (sym e) ∙ pos-total (half p) (λ i. cond (eqb n (backed p i)) 1 0) ∙ sum_ext (half p) (λ i _. pos_cond (eqb n (backed p i)))

  pub over_ones : 0 < p → (f : ℕ → ℤ) → sum p (λ n. pos (bit p n) *ℤ f n) ≡ sum (half p) (λ i. f (backed p i))
  over_ones some f =
      sum_ext p (λ n l. ap (λ z. z *ℤ f n) (counted n l) ∙ sym (sum_scale_r (half p) (f n) (λ i. delta (backed p i) n)))
      ∙ sum_swap p (half p) (λ n i. delta (backed p i) n *ℤ f n)
      ∙ sum_ext (half p) (λ i _. sum-delta p (backed p i) f (mod-lt (p - i * i % p) some))

-- ---- counted back, from a place on or back

pub on_from : (p k s : ℕ) → (k + (p - s) % p) % p ≡ (k + (p - s)) % p
on_from p k s = add-mod-mod k (p - s) p

pub back_from : (p k s : ℕ) → s < p → (k + (p - (p - s) % p)) % p ≡ (k + s) % p
back_from p k s l = elim (dec_lt 0 s) [
  | yes h ↦
      let e : (p - s) % p ≡ p - s = mod-eq_of_lt (omega arith) in
      let f : p - (p - s) ≡ s = omega arith in
      ap (λ (n : ℕ). (k + (p - n)) % p) e ∙ ap (λ (n : ℕ). (k + n) % p) f
  | no h ↦
      let z : s ≡ 0 = omega arith in
      let a : p - s ≡ 0 + p = omega arith in
      let e : (p - s) % p ≡ 0 = ap (λ (n : ℕ). n % p) a ∙ add-mod_right 0 p ∙ mod-eq_of_lt (omega arith) in
      let f : k + (p - 0) ≡ k + s + p = omega arith in
      ap (λ (n : ℕ). (k + (p - n)) % p) e ∙ ap (λ (n : ℕ). n % p) f ∙ add-mod_right (k + s) p
]
