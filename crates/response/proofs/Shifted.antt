-- Of any signal, what correlating a prediction comes to: the response weighed by the signal's autocorrelation. Assumes nothing.
use mathlib.Core.Path.{◌≡◌, sym, ap, ◌∙◌}
use Prim.Native.Nat.{ℕ, ◌+◌, ◌-◌, ◌%◌, ◌<◌}
use native.Mathlib.Nat.{mod-eq_of_lt, mod-add-mod, add-mod-mod, add-mod_right}
use native.Mathlib.Omega.{arith}
use lib.IntN.{ℤ, ◌*ℤ◌, *ℤ_comm}
use Rattle.sums.specs.Sum.{sum}
use Rattle.sums.proofs.Ring.{*ℤ_assoc}
use Rattle.sums.proofs.Sum.{sum_ext, sum_scale, sum_swap, sum-turn}
use Rattle.response.specs.Response.{correlation, prediction, autocorrelation}

module _ (P : ℕ) (x : ℕ → ℤ) where
  -- at shift 0 the signal meets itself
  pub at_0 : autocorrelation P x 0 ≡ sum P (λ j. x j *ℤ x j)
  unfolding autocorrelation
  at_0 = sum_ext P (λ j l. let e : j + 0 ≡ j = omega arith in ap (λ a. x j *ℤ x a) (ap (λ (n : ℕ). n % P) e ∙ mod-eq_of_lt l))

  -- the signal at two delays, multiplied and summed
  pub both : (i k : ℕ) → i < P → k < P → sum P (λ j. x ((j + (P - i)) % P) *ℤ x ((j + (P - k)) % P)) ≡ autocorrelation P x ((i + (P - k)) % P)
  unfolding autocorrelation
  both i k hi hk =
      sum_ext P (λ j _. ap (λ a. x ((j + (P - i)) % P) *ℤ x a) (place j))
      ∙ sum-turn P (P - i) (λ j. x j *ℤ x ((j + (i + (P - k)) % P) % P))
    where
      place : (j : ℕ) → (j + (P - k)) % P ≡ ((j + (P - i)) % P + (i + (P - k)) % P) % P
      place j =
          let e : j + (P - i) + (i + (P - k)) ≡ j + (P - k) + P = omega arith in
          sym
          (mod-add-mod (j + (P - i)) P ((i + (P - k)) % P)
          ∙ add-mod-mod (j + (P - i)) (i + (P - k)) P ∙ ap (λ (n : ℕ). n % P) e ∙ add-mod_right (j + (P - k)) P)

  module _ (h : ℕ → ℤ) where
    -- the prediction, summed against any weights: the sums change places
    pub weighed : (c : ℕ → ℤ) → sum P (λ j. prediction P x h j *ℤ c j) ≡ sum P (λ i. h i *ℤ sum P (λ j. x ((j + (P - i)) % P) *ℤ c j))
    unfolding prediction
    weighed c =
        sum_ext P
        (λ j _. *ℤ_comm (sum P (λ i. h i *ℤ x ((j + (P - i)) % P))) (c j) ∙ sym (sum_scale P (c j) (λ i. h i *ℤ x ((j + (P - i)) % P)))
        ∙ sum_ext P (λ i _. *ℤ_comm (c j) (h i *ℤ x ((j + (P - i)) % P)) ∙ *ℤ_assoc (h i) (x ((j + (P - i)) % P)) (c j)))
        ∙ sum_swap P P (λ j i. h i *ℤ (x ((j + (P - i)) % P) *ℤ c j))
        ∙ sum_ext P (λ i _. sum_scale P (h i) (λ j. x ((j + (P - i)) % P) *ℤ c j))

    pub correlated : (k : ℕ) → k < P → correlation P x (prediction P x h) k ≡ sum P (λ i. h i *ℤ autocorrelation P x ((i + (P - k)) % P))
    unfolding correlation
    correlated k hk = weighed (λ j. x ((j + (P - k)) % P)) ∙ sum_ext P (λ i l. ap (λ z. h i *ℤ z) (both i k l hk))
