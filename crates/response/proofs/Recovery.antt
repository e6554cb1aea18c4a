-- Over any flat signal, the response of a predicted recording is P + 1 times the response that it was predicted from. Assumes nothing.
use mathlib.Core.Path.{◌≡◌, sym, ap, ap₂, ◌∙◌}
use Prim.Native.Nat.{ℕ, suc, ◌+◌, ◌-◌, ◌%◌, ◌<◌}
use native.Mathlib.Nat.{mod-add-mod}
use native.Mathlib.Decide.{ℕ_discrete, dec_lt}
use native.Mathlib.Numerals.{add-one}
use native.Mathlib.Omega.{arith}
use lib.IntN.{ℤ, pos, negsuc, ◌+ℤ◌, ◌-ℤ◌, ◌*ℤ◌, *ℤ_comm, zero-*ℤ}
use Rattle.sums.specs.Sum.{sum, delta}
use Rattle.sums.proofs.Ring.{ring, *ℤ_assoc, mul-one}
use Rattle.sums.proofs.Sum.{sum_ext, sum-+, sum_scale, sum_swap, sum-turn, sum-delta, delta-same, delta_other}
use Rattle.response.specs.Response.{correlation, response, prediction, Flat}

module _ (P : ℕ) (x : ℕ → ℤ) (flat : Flat P x) where
  -- the signal at two delays, multiplied and summed
  both : ℕ → ℕ → ℤ
  both i k = sum P (λ j. x ((j + (P - i)) % P) *ℤ x ((j + (P - k)) % P))

  -- a delay and a longer one
  later : (i k : ℕ) → i < k → k < P → both i k ≡ negsuc 0
  unfolding both
  later i k l h =
      sum_ext P
      (λ j _. let e : (j + (P - k)) + (k - i) ≡ j + (P - i) = omega arith in
      ap (λ a. x a *ℤ x ((j + (P - k)) % P)) (sym (mod-add-mod (j + (P - k)) P (k - i) ∙ ap (λ a. a % P) e))
      ∙ *ℤ_comm (x (((j + (P - k)) % P + (k - i)) % P)) (x ((j + (P - k)) % P)))
      ∙ sum-turn P (P - k) (λ j. x j *ℤ x ((j + (k - i)) % P))
      ∙ flat.shifted (k - i) (omega arith) (omega arith)

  both_comm : (i k : ℕ) → both i k ≡ both k i
  unfolding both
  both_comm i k = sum_ext P (λ j _. *ℤ_comm (x ((j + (P - i)) % P)) (x ((j + (P - k)) % P)))

  same : (k : ℕ) → both k k ≡ pos P
  unfolding both
  same k = sum-turn P (P - k) (λ j. x j *ℤ x j) ∙ flat.power

  -- all delays at once
  pulse : (i k : ℕ) → i < P → k < P → both i k ≡ delta k i *ℤ pos (suc P) +ℤ negsuc 0
  pulse i k hi hk = elim (ℕ_discrete i k) [
    | yes e ↦ ap (both i) (sym e) ∙ same i ∙ sym (ap (λ d. d *ℤ pos (suc P) +ℤ negsuc 0) (ap (delta k) e ∙ delta-same k) ∙ one_less)
    | no e ↦ apart e ∙ sym (ap (λ d. d *ℤ pos (suc P) +ℤ negsuc 0) (delta_other k i e) ∙ ap (λ z. z +ℤ negsuc 0) (zero-*ℤ (pos (suc P))))
  ]
    where
      one_less : pos 1 *ℤ pos (suc P) +ℤ negsuc 0 ≡ pos P
      one_less = ap (λ n. pos 1 *ℤ pos n +ℤ negsuc 0) (sym (add-one P)) ∙ without (pos P)
        where
          without : (p : ℤ) → pos 1 *ℤ (p +ℤ pos 1) +ℤ negsuc 0 ≡ p
          without p = simp ring

      apart : (i ≡ k → ⊥) → both i k ≡ negsuc 0
      apart e = elim (dec_lt i k) [ yes l ↦ later i k l hk | no n ↦ both_comm i k ∙ later k i (omega arith) hi ]

  module _ (h : ℕ → ℤ) where
    -- the prediction, summed against any weights: the sums change places
    turned : (c : ℕ → ℤ) → sum P (λ j. prediction P x h j *ℤ c j) ≡ sum P (λ i. h i *ℤ sum P (λ j. x ((j + (P - i)) % P) *ℤ c j))
    unfolding prediction
    turned c =
        sum_ext P
        (λ j _. *ℤ_comm (sum P (λ i. h i *ℤ x ((j + (P - i)) % P))) (c j) ∙ sym (sum_scale P (c j) (λ i. h i *ℤ x ((j + (P - i)) % P)))
        ∙ sum_ext P (λ i _. *ℤ_comm (c j) (h i *ℤ x ((j + (P - i)) % P)) ∙ *ℤ_assoc (h i) (x ((j + (P - i)) % P)) (c j)))
        ∙ sum_swap P P (λ j i. h i *ℤ (x ((j + (P - i)) % P) *ℤ c j))
        ∙ sum_ext P (λ i _. sum_scale P (h i) (λ j. x ((j + (P - i)) % P) *ℤ c j))

    -- its own sum
    whole : sum P (prediction P x h) ≡ sum P (λ i. h i *ℤ negsuc 0)
    whole =
        sum_ext P (λ j _. sym (mul-one (prediction P x h j)))
        ∙ turned (λ j. pos 1)
        ∙ sum_ext P (λ i _. ap (λ z. h i *ℤ z) (sum_ext P (λ j _. mul-one (x ((j + (P - i)) % P))) ∙ sum-turn P (P - i) x ∙ flat.mean))

    -- and against the signal at one delay
    against : (k : ℕ) → k < P → correlation P x (prediction P x h) k ≡ pos (suc P) *ℤ h k +ℤ sum P (λ i. h i *ℤ negsuc 0)
    unfolding both correlation
    against k hk =
        turned (λ j. x ((j + (P - k)) % P))
        ∙ sum_ext P
        (λ i l. ap (λ z. h i *ℤ z) (pulse i k l hk) ∙ apart_from (h i) (delta k i) (pos (suc P)))
        ∙ sum-+ P (λ i. delta k i *ℤ (pos (suc P) *ℤ h i)) (λ i. h i *ℤ negsuc 0)
        ∙ ap (λ z. z +ℤ sum P (λ i. h i *ℤ negsuc 0)) (sum-delta P k (λ i. pos (suc P) *ℤ h i) hk)
      where
        apart_from : (a d q : ℤ) → a *ℤ (d *ℤ q +ℤ negsuc 0) ≡ d *ℤ (q *ℤ a) +ℤ a *ℤ negsuc 0
        apart_from a d q = simp ring

    pub recovery : (k : ℕ) → k < P → response P x (prediction P x h) k ≡ pos (suc P) *ℤ h k
    unfolding response
    recovery k hk = ap₂ ◌-ℤ◌ (against k hk) whole ∙ cancel (pos (suc P) *ℤ h k) (sum P (λ i. h i *ℤ negsuc 0))
      where
        cancel : (a b : ℤ) → (a +ℤ b) -ℤ b ≡ a
        cancel a b = simp ring
