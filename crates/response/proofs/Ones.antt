-- Of a signal made of bits, x = 1 - 2·s, only the ones count: r(k) is -2 times the sum of the samples that they meet, and a predicted sample the sum of the
-- response less twice what they meet. Where (P+1)/2 bits are ones, |r(k)| is at most (P+1) times the largest |y(j)|. Assumes nothing.
use mathlib.Core.Path.{◌≡◌, refl, sym, ap, ◌∙◌}
use Prim.Native.Nat.{ℕ, zero, suc, ◌+◌, ◌-◌, ◌*◌, ◌%◌, ◌≤◌, ◌<◌}
use native.Mathlib.Nat.{add_comm, mul_comm, le_trans, le_of_eq, mul-le-mul_right}
use native.Mathlib.Omega.{arith}
use lib.IntN.{ℤ, pos, neg_ℤ, nat_abs, ◌-ℤ◌, ◌*ℤ◌}
use Rattle.sums.specs.Sum.{sum, total, sign}
use Rattle.sums.proofs.Bound.{nat_abs-*}
use Rattle.sums.proofs.Ring.{ring}
use Rattle.sums.proofs.Sign.{sign_bit}
use Rattle.sums.proofs.Sum.{sum_ext, sum-sub, sum_scale, sum-turn, pos-total, total_scaled, nat_abs-total}
use Rattle.response.specs.Response.{correlation, response, prediction}
use Rattle.response.proofs.Along.{sum_back, correlation_along, prediction_along}

module _ (P : ℕ) (s : ℕ → ℕ) (bits : (i : ℕ) → s i < 2) where
  abbrev wave : ℕ → ℤ
  wave i = sign (s i)

  -- any numbers against the signal
  weighed : (z : ℕ → ℤ) → sum P (λ i. wave i *ℤ z i) ≡ sum P z -ℤ pos 2 *ℤ sum P (λ i. pos (s i) *ℤ z i)
  weighed z =
      sum_ext P (λ i _. ap (λ a. a *ℤ z i) (sign_bit (s i) (bits i)) ∙ apart (pos (s i)) (z i))
      ∙ sum-sub P z (λ i. pos 2 *ℤ (pos (s i) *ℤ z i)) ∙ ap (λ a. sum P z -ℤ a) (sum_scale P (pos 2) (λ i. pos (s i) *ℤ z i))
    where
      apart : (a b : ℤ) → (pos 1 -ℤ pos 2 *ℤ a) *ℤ b ≡ b -ℤ pos 2 *ℤ (a *ℤ b)
      apart a b = simp ring

  pub response_ones : (y : ℕ → ℤ) (k : ℕ) → k < P → response P wave y k ≡ neg_ℤ (pos 2 *ℤ sum P (λ i. pos (s i) *ℤ y ((k + i) % P)))
  unfolding response
  response_ones y k h =
      ap (λ a. a -ℤ sum P y) (correlation_along P wave y k h ∙ weighed (λ i. y ((k + i) % P)))
      ∙ ap (λ a. (a -ℤ pos 2 *ℤ met) -ℤ sum P y) (sum_ext P (λ i _. ap (λ (n : ℕ). y (n % P)) (add_comm k i)) ∙ sum-turn P k y)
      ∙ less (sum P y) (pos 2 *ℤ met)
    where
      met : ℤ
      met = sum P (λ i. pos (s i) *ℤ y ((k + i) % P))

      less : (a b : ℤ) → (a -ℤ b) -ℤ a ≡ neg_ℤ b
      less a b = simp ring

  pub prediction_ones : (h : ℕ → ℤ) (j : ℕ) → j < P → prediction P wave h j ≡ sum P h -ℤ pos 2 *ℤ sum P (λ i. pos (s i) *ℤ h ((j + (P - i)) % P))
  prediction_ones h j l =
      prediction_along P wave h j l ∙ weighed (λ i. h ((j + (P - i)) % P))
      ∙ ap (λ a. a -ℤ pos 2 *ℤ sum P (λ i. pos (s i) *ℤ h ((j + (P - i)) % P))) (sum_back P j l h)

  -- ---- the bound

  -- what a sample loses to the sum that is taken off
  lost_is : (i : ℕ) → nat_abs (wave i -ℤ pos 1) ≡ 2 * s i
  unfolding sign
  lost_is i = go (s i) (bits i)
    where
      go : (b : ℕ) → b < 2 → nat_abs (sign b -ℤ pos 1) ≡ 2 * b
      go zero h = refl
      go (suc zero) h = refl
      go (suc (suc b)) h = absurd (omega arith)

  weighted : (y : ℕ → ℤ) (k : ℕ) → response P wave y k ≡ sum P (λ j. y j *ℤ (wave ((j + (P - k)) % P) -ℤ pos 1))
  unfolding response correlation
  weighted y k = sym (sum_ext P (λ j _. spread (y j) (wave ((j + (P - k)) % P))) ∙ sum-sub P _ y)
    where
      spread : (a b : ℤ) → a *ℤ (b -ℤ pos 1) ≡ a *ℤ b -ℤ a
      spread a b = simp ring

  module _ (half : 2 * total P s ≡ suc P) where
    all_lost : (k : ℕ) → total P (λ j. 2 * s ((j + (P - k)) % P)) ≡ suc P
    unfolding total
    all_lost k =
        ap nat_abs (pos-total P (λ j. 2 * s ((j + (P - k)) % P)) ∙ sum-turn P (P - k) (λ j. pos (2 * s j)) ∙ sym (pos-total P (λ j. 2 * s j))) ∙ twice P ∙ half
      where
        twice : (n : ℕ) → total n (λ j. 2 * s j) ≡ 2 * total n s
        twice zero = refl
        twice (suc n) = omega (arith, twice n)

    pub response_bound : (y : ℕ → ℤ) (B : ℕ) → ((j : ℕ) → j < P → nat_abs (y j) ≤ B) → (k : ℕ) → nat_abs (response P wave y k) ≤ suc P * B
    response_bound y B h k =
        rw (weighted y k)
        (le_trans (nat_abs-total P _)
        (le_trans (total_scaled P B _ (λ j. 2 * s ((j + (P - k)) % P)) each) (le_of_eq (ap (λ n. B * n) (all_lost k) ∙ mul_comm B (suc P)))))
      where
        each : (j : ℕ) → j < P → nat_abs (y j *ℤ (wave ((j + (P - k)) % P) -ℤ pos 1)) ≤ B * (2 * s ((j + (P - k)) % P))
        each j l =
            let i = (j + (P - k)) % P in
            le_trans (le_of_eq (nat_abs-* (y j) (wave i -ℤ pos 1) ∙ ap (λ n. nat_abs (y j) * n) (lost_is i))) (mul-le-mul_right (2 * s i) (h j l))
