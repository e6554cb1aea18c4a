-- The slots in use and the days standing are each other's: a sum over the one is a sum over the other, and there are as many of the one as of
-- the other, at most C. Assumes nothing.
use mathlib.Core.Path.{◌≡◌, refl, sym, ap, ap₂, ◌∙◌}
use mathlib.Core.Bool.{Bool, true, false, cond}
use Prim.Native.Nat.{ℕ, zero, suc, ◌+◌, ◌≤◌, ◌<◌}
use native.Mathlib.Numerals.{add-one}
use native.Mathlib.Decide.{ℕ_discrete}
use native.Mathlib.Omega.{arith}
use borrow.Author.Tests.{eq-eqb, ne_eqb}
use lib.Dec.{eqb}
use lib.IntN.{ℤ, pos, nat_abs, ◌*ℤ◌, zero-*ℤ}
use Rattle.sums.specs.Sum.{sum, delta}
use Rattle.sums.specs.Lists.{many}
use Rattle.sums.proofs.Ring.{one-*ℤ}
use Rattle.sums.proofs.Sum.{sum_ext, sum-zero, sum_swap, sum_scale_r, sum-delta, delta-same, delta_other, nat_abs-sum, pos-total}
use Rattle.records.specs.Record.{standing, state, stands, days_in, slot, free}
use Rattle.records.specs.declared.Campaign.{Campaign}
use Rattle.records.proofs.Holding.{Filed}

-- a count as a sum of integers
pub pos-many : (n : ℕ) (test : ℕ → Bool) → pos (many n test) ≡ sum n (λ i. cond (test i) (pos 1) (pos 0))
unfolding many
pos-many n test = pos-total n (λ i. cond (test i) 1 0) ∙ sum_ext n (λ i _. each (test i))
  where
    each : (b : Bool) → pos (cond b 1 0) ≡ cond b (pos 1) (pos 0)
    each true = refl
    each false = refl

module _ (c : Campaign) (f : Filed c) where
  -- slot s counted for day d
  hit : ℕ → ℕ → ℤ
  hit d s = delta d (slot c s)

  hits_one : (i : ℕ) → i < 366 → state c (i + 1) ≡ standing → sum c.capacity (hit (i + 1)) ≡ pos 1
  unfolding hit delta
  hits_one i l e = sym (pos-many c.capacity (λ s. eqb (slot c s) (i + 1))) ∙ ap pos (f.one i l e)

  -- a day that does not stand has no slot
  pub no_slot : (d s : ℕ) → 1 ≤ d → (state c d ≡ standing → ⊥) → s < c.capacity → slot c s ≡ d → ⊥
  no_slot d s p n l e = n (ap (state c) (sym e) ∙ (f.named s l (λ z. omega arith)).1)

  -- each day's part, by its slots
  by_slots : (v : ℕ → ℤ) (i : ℕ) → i < 366 → cond (stands c (i + 1)) (v (i + 1)) (pos 0) ≡ sum c.capacity (λ s. hit (i + 1) s *ℤ v (i + 1))
  unfolding hit
  by_slots v i l = elim (ℕ_discrete (state c (i + 1)) standing) [
    | yes e ↦ rw (eq-eqb (state c (i + 1)) standing e)
        (sym (sum_scale_r c.capacity (v (i + 1)) (hit (i + 1)) ∙ ap (λ z. z *ℤ v (i + 1)) (hits_one i l e) ∙ one-*ℤ (v (i + 1))))
    | no n ↦ rw (ne_eqb (state c (i + 1)) standing n) (sym (none n))
  ]
    where
      none : (state c (i + 1) ≡ standing → ⊥) → sum c.capacity (λ s. hit (i + 1) s *ℤ v (i + 1)) ≡ pos 0
      none n =
          sum_ext c.capacity
          (λ s k. ap (λ z. z *ℤ v (i + 1)) (delta_other (i + 1) (slot c s) (λ e. no_slot (i + 1) s (omega arith) n k e)) ∙ zero-*ℤ (v (i + 1)))
          ∙ sum-zero c.capacity

  -- each slot's part, by its day
  by_day : (v : ℕ → ℤ) (s : ℕ) → s < c.capacity → sum 366 (λ i. hit (i + 1) s *ℤ v (i + 1)) ≡ cond (free c s) (pos 0) (v (slot c s))
  unfolding hit
  by_day v s l = go (slot c s) refl
    where
      empty : slot c s ≡ 0 → sum 366 (λ i. delta (i + 1) (slot c s) *ℤ v (i + 1)) ≡ pos 0
      empty e =
          sum_ext 366 (λ i _. ap (λ z. z *ℤ v (i + 1)) (delta_other (i + 1) (slot c s) (λ q. omega arith)) ∙ zero-*ℤ (v (i + 1))) ∙ sum-zero 366

      same : (m : ℕ) → slot c s ≡ suc m → (i : ℕ) → delta (i + 1) (slot c s) ≡ delta m i
      same m e i = elim (ℕ_discrete i m) [
        | yes q ↦ ap₂ delta (ap (λ n. n + 1) q ∙ add-one m) e ∙ delta-same (suc m) ∙ sym (ap (delta m) q ∙ delta-same m)
        | no q ↦ delta_other (i + 1) (slot c s) (λ r. q (omega arith)) ∙ sym (delta_other m i q)
      ]

      used : (m : ℕ) → slot c s ≡ suc m → sum 366 (λ i. delta (i + 1) (slot c s) *ℤ v (i + 1)) ≡ v (slot c s)
      used m e =
          let n = f.named s l (λ z. omega arith) in
          sum_ext 366 (λ i _. ap (λ z. z *ℤ v (i + 1)) (same m e i))
          ∙ sum-delta 366 m (λ i. v (i + 1)) (omega (arith, n.0)) ∙ ap v (add-one m ∙ sym e)

      go : (t : ℕ) → slot c s ≡ t → sum 366 (λ i. delta (i + 1) (slot c s) *ℤ v (i + 1)) ≡ cond (free c s) (pos 0) (v (slot c s))
      go zero e = rw (eq-eqb (slot c s) 0 e) (empty e)
      go (suc m) e = rw (ne_eqb (slot c s) 0 (λ z. omega arith)) (used m e)

  pub slots_as_days : (v : ℕ → ℤ) → sum c.capacity (λ s. cond (free c s) (pos 0) (v (slot c s))) ≡ sum 366 (λ i. cond (stands c (i + 1)) (v (i + 1)) (pos 0))
  slots_as_days v =
      sym (sum_ext 366 (λ i l. by_slots v i l)
      ∙ sum_swap 366 c.capacity (λ i s. hit (i + 1) s *ℤ v (i + 1))
      ∙ sum_ext c.capacity (λ s l. by_day v s l))

  -- as many slots in use as days standing
  pub used_standing : sum c.capacity (λ s. cond (free c s) (pos 0) (pos 1)) ≡ pos (days_in c standing)
  used_standing = slots_as_days (λ d. pos 1) ∙ sym (pos-many 366 (λ i. stands c (i + 1)))

  -- and so at most C
  pub standing_most : days_in c standing ≤ c.capacity
  standing_most =
      rw (ap nat_abs (sym used_standing))
      (omega (arith, nat_abs-sum c.capacity 1 (λ s. cond (free c s) (pos 0) (pos 1)) (λ s _. at_most_one (free c s))))
    where
      at_most_one : (b : Bool) → nat_abs (cond b (pos 0) (pos 1)) ≤ 1
      at_most_one true = omega arith
      at_most_one false = omega arith
