-- The formulas summed along the signal in place of the recording: c(k) is the sum over i of x(i)·y(k+i), and a predicted sample y(j) the sum over i of
-- x(i)·h(j-i). Assumes nothing.
use mathlib.Core.Path.{◌≡◌, sym, ap, ap₂, ◌∙◌}
use Prim.Native.Nat.{ℕ, ◌+◌, ◌-◌, ◌%◌, ◌<◌}
use native.Mathlib.Nat.{add_comm, mod-lt, mod-eq_of_lt, mod-add-mod, add-mod_right}
use native.Mathlib.Decide.{dec_lt}
use native.Mathlib.Omega.{arith}
use lib.IntN.{ℤ, ◌*ℤ◌, *ℤ_comm}
use Rattle.sums.specs.Sum.{sum}
use Rattle.sums.proofs.Perm.{Permutes, sum_perm}
use Rattle.sums.proofs.Sum.{sum_ext, sum-turn}
use Rattle.response.specs.Response.{correlation, prediction}

-- ---- the places j - i

module _ (P j : ℕ) (h : j < P) where
  -- going back twice
  back_back : (i : ℕ) → i < P → (j + (P - (j + (P - i)) % P)) % P ≡ i
  back_back i l = elim (dec_lt j i) [
    | yes k ↦
        let e : (j + (P - i)) % P ≡ j + (P - i) = mod-eq_of_lt (omega arith) in
        let f : j + (P - (j + (P - i))) ≡ i = omega arith in
        ap (λ (n : ℕ). (j + (P - n)) % P) e ∙ ap (λ (n : ℕ). n % P) f ∙ mod-eq_of_lt l
    | no k ↦
        let d : j + (P - i) ≡ j - i + P = omega arith in
        let e : (j + (P - i)) % P ≡ j - i = ap (λ (n : ℕ). n % P) d ∙ add-mod_right (j - i) P ∙ mod-eq_of_lt (omega arith) in
        let f : j + (P - (j - i)) ≡ i + P = omega arith in
        ap (λ (n : ℕ). (j + (P - n)) % P) e ∙ ap (λ (n : ℕ). n % P) f ∙ add-mod_right i P ∙ mod-eq_of_lt l
  ]

  back_permutes : Permutes P (λ i. (j + (P - i)) % P)
  back_permutes =
      record {
        within = λ i l. mod-lt (j + (P - i)) (omega arith);
        apart = λ a b k l e. sym (back_back a k) ∙ ap (λ (n : ℕ). (j + (P - n)) % P) e ∙ back_back b l;
      }

  -- a whole turn may go backwards from anywhere
  pub sum_back : (f : ℕ → ℤ) → sum P (λ i. f ((j + (P - i)) % P)) ≡ sum P f
  sum_back f = sum_perm P f (λ i. (j + (P - i)) % P) back_permutes

-- ---- along the signal

module _ (P : ℕ) (x : ℕ → ℤ) where
  pub correlation_along : (y : ℕ → ℤ) (k : ℕ) → k < P → correlation P x y k ≡ sum P (λ i. x i *ℤ y ((k + i) % P))
  unfolding correlation
  correlation_along y k h = sym (sum-turn P k (λ j. y j *ℤ x ((j + (P - k)) % P))) ∙ sum_ext P each
    where
      home : (i : ℕ) → i < P → ((i + k) % P + (P - k)) % P ≡ i
      home i l =
          let e : i + k + (P - k) ≡ i + P = omega arith in
          mod-add-mod (i + k) P (P - k) ∙ ap (λ (n : ℕ). n % P) e ∙ add-mod_right i P ∙ mod-eq_of_lt l

      each : (i : ℕ) → i < P → y ((i + k) % P) *ℤ x (((i + k) % P + (P - k)) % P) ≡ x i *ℤ y ((k + i) % P)
      each i l = *ℤ_comm (y ((i + k) % P)) (x (((i + k) % P + (P - k)) % P)) ∙ ap₂ (λ a b. x a *ℤ y (b % P)) (home i l) (add_comm i k)

  pub prediction_along : (h : ℕ → ℤ) (j : ℕ) → j < P → prediction P x h j ≡ sum P (λ i. x i *ℤ h ((j + (P - i)) % P))
  unfolding prediction
  prediction_along h j l =
      sym (sum_back P j l (λ i. h i *ℤ x ((j + (P - i)) % P)))
      ∙ sum_ext P (λ i m. *ℤ_comm (h ((j + (P - i)) % P)) (x ((j + (P - (j + (P - i)) % P)) % P)) ∙ ap (λ a. x a *ℤ h ((j + (P - i)) % P)) (back_back P j l i m))
