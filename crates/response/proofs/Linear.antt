-- A response depends on the recording at its P places alone, and is linear in it. Assumes nothing.
use mathlib.Core.Path.{◌≡◌, ap, ap₂, ◌∙◌}
use Prim.Native.Nat.{ℕ, zero, suc, ◌+◌, ◌-◌, ◌%◌, ◌<◌}
use lib.IntN.{ℤ, pos, ◌+ℤ◌, ◌-ℤ◌, ◌*ℤ◌, zero-*ℤ}
use Rattle.sums.specs.Sum.{sum}
use Rattle.sums.proofs.Ring.{ring, +ℤ-*ℤ, *ℤ_assoc}
use Rattle.sums.proofs.Sum.{sum_ext, sum-zero, sum-+, sum_scale}
use Rattle.response.specs.Response.{correlation, response}

module _ (P : ℕ) (x : ℕ → ℤ) where
  pub response_ext : {y z : ℕ → ℤ} → ((j : ℕ) → j < P → y j ≡ z j) → (k : ℕ) → response P x y k ≡ response P x z k
  unfolding response correlation
  response_ext e k = ap₂ ◌-ℤ◌ (sum_ext P (λ j h. ap (λ a. a *ℤ x ((j + (P - k)) % P)) (e j h))) (sum_ext P e)

  pub response-zero : (k : ℕ) → response P x (λ j. pos 0) k ≡ pos 0
  unfolding response correlation
  response-zero k =
      ap₂ ◌-ℤ◌ (sum_ext P (λ j _. zero-*ℤ (x ((j + (P - k)) % P))) ∙ sum-zero P) (sum-zero P)

  pub response-+ : (y z : ℕ → ℤ) (k : ℕ) → response P x (λ j. y j +ℤ z j) k ≡ response P x y k +ℤ response P x z k
  unfolding response correlation
  response-+ y z k =
      ap₂ ◌-ℤ◌ (sum_ext P (λ j _. +ℤ-*ℤ (y j) (z j) (x ((j + (P - k)) % P))) ∙ sum-+ P _ _) (sum-+ P y z)
      ∙ regroup (sum P (λ j. y j *ℤ x ((j + (P - k)) % P))) (sum P (λ j. z j *ℤ x ((j + (P - k)) % P))) (sum P y) (sum P z)
    where
      regroup : (a b c d : ℤ) → (a +ℤ b) -ℤ (c +ℤ d) ≡ (a -ℤ c) +ℤ (b -ℤ d)
      regroup a b c d = simp ring

  pub response-* : (c : ℤ) (y : ℕ → ℤ) (k : ℕ) → response P x (λ j. c *ℤ y j) k ≡ c *ℤ response P x y k
  unfolding response correlation
  response-* c y k =
      ap₂ ◌-ℤ◌ (sum_ext P (λ j _. *ℤ_assoc c (y j) (x ((j + (P - k)) % P))) ∙ sum_scale P c _) (sum_scale P c y)
      ∙ regroup c (sum P (λ j. y j *ℤ x ((j + (P - k)) % P))) (sum P y)
    where
      regroup : (c a b : ℤ) → c *ℤ a -ℤ c *ℤ b ≡ c *ℤ (a -ℤ b)
      regroup c a b = simp ring

  -- of a sum of recordings, the sum of the responses
  pub response-sum : (n : ℕ) (y : ℕ → ℕ → ℤ) (k : ℕ) → response P x (λ j. sum n (λ d. y d j)) k ≡ sum n (λ d. response P x (y d) k)
  unfolding sum
  response-sum zero y k = response-zero k
  response-sum (suc n) y k =
      response-+ (λ j. sum n (λ d. y d j)) (y n) k ∙ ap (λ a. a +ℤ response P x (y n) k) (response-sum n y k)
