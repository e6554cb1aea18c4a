-- The sums of a record that holds together are at most 8,388,607 in size for each period standing, of which there are 1,024 at most, and so at most
-- 2^34. Assumes nothing.
use mathlib.Core.Path.{◌≡◌, refl, sym, ap, ◌∙◌}
use mathlib.Core.Bool.{Bool, true, false, cond}
use mathlib.Core.List.{List}
use Prim.Native.Nat.{ℕ, ◌*◌, ◌^◌, ◌≤◌, ◌<◌}
use native.Mathlib.Nat.{le_trans, le_of_eq, mul_comm}
use native.Mathlib.Decide.{ℕ_discrete}
use native.Mathlib.Omega.{arith}
use borrow.Author.Tests.{eq-eqb, ne_eqb}
use lib.IntN.{ℤ, pos, nat_abs}
use Rattle.sums.specs.Sum.{total}
use Rattle.sums.specs.Lists.{at}
use Rattle.sums.proofs.Sum.{sum_ext, pos-total, total_scaled, nat_abs-total}
use Rattle.register.specs.Register.{P}
use Rattle.records.specs.Record.{standing, days_in, slot, free, periods, periods_standing, sample}
use Rattle.records.specs.declared.Campaign.{Campaign}
use Rattle.samples.proofs.Rails.{within_size}
use Rattle.records.proofs.Holding.{Filed, Together}
use Rattle.records.proofs.Tallying.{used_standing, standing_most}

module _ (c : Campaign) (f : Filed c) where
  in_table : (s : ℕ) → s < c.capacity → s < 64
  in_table s l = omega (arith, f.most)

  -- the slots in use, as a number
  used_total_lem : total c.capacity (λ s. cond (free c s) 0 1) ≡ days_in c standing
  used_total_lem =
      ap nat_abs (pos-total c.capacity (λ s. cond (free c s) 0 1) ∙ sum_ext c.capacity (λ s _. each (free c s)) ∙ used_standing c f)
    where
      each : (b : Bool) → pos (cond b 0 1) ≡ cond b (pos 0) (pos 1)
      each true = refl
      each false = refl

  -- a day that stands has a period at least, and 16 at most
  pub periods_least : days_in c standing ≤ periods_standing c
  periods_least = omega (arith, used_total_lem, total_scaled c.capacity 1 (λ s. cond (free c s) 0 1) (periods c) each)
    where
      each : (s : ℕ) → s < c.capacity → cond (free c s) 0 1 ≤ 1 * periods c s
      each s l = elim (ℕ_discrete (slot c s) 0) [
        | yes e ↦ rw (eq-eqb (slot c s) 0 e) (omega arith)
        | no e ↦ rw (ne_eqb (slot c s) 0 e) (omega (arith, f.counted s (in_table s l) e))
      ]

  pub periods_few : (s : ℕ) → s < c.capacity → periods c s ≤ 16
  periods_few s l = elim (ℕ_discrete (slot c s) 0) [
    | yes e ↦ omega (arith, f.uncounted s (in_table s l) e)
    | no e ↦ (f.counted s (in_table s l) e).1
  ]

  -- so none where no day stands, and 1,024 at most
  pub periods_days : periods_standing c ≤ 16 * days_in c standing
  periods_days = rw (sym used_total_lem) (total_scaled c.capacity 16 (periods c) (λ s. cond (free c s) 0 1) each)
    where
      each : (s : ℕ) → s < c.capacity → periods c s ≤ 16 * cond (free c s) 0 1
      each s l = elim (ℕ_discrete (slot c s) 0) [
        | yes e ↦ rw (eq-eqb (slot c s) 0 e) (omega (arith, f.uncounted s (in_table s l) e))
        | no e ↦ rw (ne_eqb (slot c s) 0 e) (omega (arith, f.counted s (in_table s l) e))
      ]

  pub periods_most : periods_standing c ≤ 1024
  periods_most = omega (arith, periods_days, standing_most c f, f.most)

module _ (c : Campaign) (store sums : List ℤ) (h : Together c store sums) where
  pub sum_bound : (j : ℕ) → j < P c.order → nat_abs (at sums j) ≤ periods_standing c * 8388607
  sum_bound j l =
      rw (h.total j l)
      (le_trans (nat_abs-total c.capacity _)
      (le_trans (total_scaled c.capacity 8388607 _ (periods c) each)
      (le_of_eq (mul_comm 8388607 (periods_standing c)))))
    where
      each : (s : ℕ) → s < c.capacity → nat_abs (cond (free c s) (pos 0) (sample c store s j)) ≤ 8388607 * periods c s
      each s k = elim (ℕ_discrete (slot c s) 0) [
        | yes e ↦ rw (eq-eqb (slot c s) 0 e) (omega arith)
        | no e ↦ rw (ne_eqb (slot c s) 0 e) (within_size (periods c s) (sample c store s j) (h.used s k e j l))
      ]

  pub sum_small : (j : ℕ) → j < P c.order → nat_abs (at sums j) ≤ 2 ^ 34
  sum_small j l = omega (arith, sum_bound j l, periods_most c h.filed)
