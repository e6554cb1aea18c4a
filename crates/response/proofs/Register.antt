-- What holds of the response of every accepted register: its signal is flat, so a predicted recording gives P + 1 times the response; and
-- |r(k)| is at most (P+1) times the largest |y(j)|, since exactly (P+1)/2 bits are ones. Assumes nothing.
use mathlib.Core.Path.{◌≡◌, refl, sym, ap, ◌∙◌}
use Prim.Native.Nat.{ℕ, zero, suc, ◌+◌, ◌-◌, ◌*◌, ◌%◌, ◌≤◌, ◌<◌}
use native.Mathlib.Nat.{mul_comm, le_trans, le_of_eq, mul-le-mul_right, mod-lt, zero-lt-suc}
use native.Mathlib.Omega.{arith}
use lib.IntN.{ℤ, pos, nat_abs, ◌-ℤ◌, ◌*ℤ◌}
use Rattle.sums.specs.Sum.{sum, total, sign}
use Rattle.sums.proofs.Bound.{nat_abs-*}
use Rattle.sums.proofs.Ring.{ring}
use Rattle.sums.proofs.Sum.{sum_ext, sum-sub, sum-turn, pos-total, total_scaled, nat_abs-total}
use Rattle.register.specs.Register.{P, window, bit, wave, Generator}
use Rattle.register.proofs.Correlation as C
use Rattle.response.specs.Response.{correlation, response, prediction, Flat}
use Rattle.response.proofs.Recovery.{recovery}

module _ (N taps : ℕ) (g : Generator N taps) where
  pub flat : Flat (P N) (wave N taps)
  flat = record { mean = C.sum-wave N taps g; power = C.power N taps g; shifted = C.autocorrelation N taps g }

  pub predicted : (h : ℕ → ℤ) (k : ℕ) → k < P N
      → response (P N) (wave N taps) (prediction (P N) (wave N taps) h) k ≡ pos (suc (P N)) *ℤ h k
  predicted = recovery (P N) (wave N taps) flat

  -- ---- the bound

  -- 1 - x, of which each place of a period has its turn
  lost : ℕ → ℕ
  lost j = 2 * bit N taps j

  lost_is : (j : ℕ) → nat_abs (wave N taps j -ℤ pos 1) ≡ lost j
  unfolding lost wave bit sign
  lost_is j = go (window N taps j % 2) (mod-lt (window N taps j) (zero-lt-suc 1))
    where
      go : (b : ℕ) → b < 2 → nat_abs (sign b -ℤ pos 1) ≡ 2 * b
      go zero h = refl
      go (suc zero) h = refl
      go (suc (suc b)) h = absurd (omega arith)

  all_lost : (k : ℕ) → total (P N) (λ j. lost ((j + (P N - k)) % P N)) ≡ suc (P N)
  unfolding total lost
  all_lost k =
      ap nat_abs (pos-total (P N) (λ j. lost ((j + (P N - k)) % P N)) ∙ sum-turn (P N) (P N - k) (λ j. pos (lost j)) ∙ sym (pos-total (P N) lost))
      ∙ twice (P N) ∙ C.ones_half N taps g
    where
      twice : (n : ℕ) → total n lost ≡ 2 * total n (bit N taps)
      twice zero = refl
      twice (suc n) = omega (arith, twice n)

  weighted : (y : ℕ → ℤ) (k : ℕ) → response (P N) (wave N taps) y k ≡ sum (P N) (λ j. y j *ℤ (wave N taps ((j + (P N - k)) % P N) -ℤ pos 1))
  unfolding response correlation
  weighted y k = sym (sum_ext (P N) (λ j _. spread (y j) (wave N taps ((j + (P N - k)) % P N))) ∙ sum-sub (P N) _ y)
    where
      spread : (a b : ℤ) → a *ℤ (b -ℤ pos 1) ≡ a *ℤ b -ℤ a
      spread a b = simp ring

  pub response_bound : (y : ℕ → ℤ) (B : ℕ) → ((j : ℕ) → j < P N → nat_abs (y j) ≤ B) → (k : ℕ)
      → nat_abs (response (P N) (wave N taps) y k) ≤ suc (P N) * B
  response_bound y B h k =
      rw (weighted y k)
      (le_trans (nat_abs-total (P N) _)
      (le_trans (total_scaled (P N) B _ (λ j. lost ((j + (P N - k)) % P N)) each)
      (le_of_eq (ap (λ n. B * n) (all_lost k) ∙ mul_comm B (suc (P N))))))
    where
      each : (j : ℕ) → j < P N → nat_abs (y j *ℤ (wave N taps ((j + (P N - k)) % P N) -ℤ pos 1)) ≤ B * lost ((j + (P N - k)) % P N)
      each j l =
          let i = (j + (P N - k)) % P N in
          le_trans (le_of_eq (nat_abs-* (y j) (wave N taps i -ℤ pos 1) ∙ ap (λ n. nat_abs (y j) * n) (lost_is i))) (mul-le-mul_right (lost i) (h j l))
