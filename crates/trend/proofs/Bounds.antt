-- Counts total 366. The mean fits the sample range, and |r| stays below 2^49. Assumes nothing.
use mathlib.Core.Path.{◌≡◌, refl}
use mathlib.Core.Bool.{false, cond}
use mathlib.Core.List.{List}
use Prim.Native.Nat.{ℕ, zero, suc, ◌+◌, ◌*◌, ◌^◌, ◌≤◌, ◌<◌}
use native.Mathlib.Nat.{mul_assoc, mul-le-mul, mul-pos}
use native.Mathlib.Omega.{arith}
use lib.Dec.{eqb}
use lib.IntN.{ℤ, nat_abs}
use Rattle.sums.specs.Sum.{total}
use Rattle.sums.specs.Lists.{at, many}
use Rattle.register.specs.Register.{P}
use Rattle.register.proofs.Judged.{generator}
use Rattle.register.proofs.Word.{small}
use Rattle.samples.specs.Samples.{sample_out}
use Rattle.samples.proofs.Sizes.{size_inside}
use Rattle.rounding.proofs.Halves.{rounded_bound}
use Rattle.response.proofs.Register.{response_bound}
use Rattle.records.specs.Record.{unseen, standing, overloaded, dead, withdrawn, state, days_in, periods_standing}
use Rattle.records.specs.declared.Campaign.{Campaign}
use Rattle.records.proofs.Holding.{Filed, Together}
use Rattle.records.proofs.Totals.{periods_least, periods_most, sum_bound}
use Rattle.trend.specs.Calls.{worked, divisor, mean_at, extremes_of}

-- ---- counts

-- a state is one of the five
one_of : (q : ℕ) → q ≤ withdrawn
    → cond (eqb q unseen) 1 0 + cond (eqb q standing) 1 0 + cond (eqb q overloaded) 1 0 + cond (eqb q dead) 1 0 + cond (eqb q withdrawn) 1 0 ≡ 1
one_of zero h = refl
one_of (suc zero) h = refl
one_of (suc (suc zero)) h = refl
one_of (suc (suc (suc zero))) h = refl
one_of (suc (suc (suc (suc zero)))) h = refl
one_of (suc (suc (suc (suc (suc q))))) h = absurd (omega arith)

five : (n : ℕ) (f : ℕ → ℕ) → ((i : ℕ) → i < n → f i ≤ withdrawn)
    → many n (λ i. eqb (f i) unseen) + many n (λ i. eqb (f i) standing) + many n (λ i. eqb (f i) overloaded) + many n (λ i. eqb (f i) dead)
    + many n (λ i. eqb (f i) withdrawn)
    ≡ n
unfolding many total
five zero f h = refl
five (suc n) f h = omega (arith, five n f (λ i l. h i (omega arith)), one_of (f n) (h n (omega arith)))

pub counts_total : (c : Campaign) → Filed c
    → days_in c unseen + days_in c standing + days_in c overloaded + days_in c dead + days_in c withdrawn ≡ 366
counts_total c f = five 366 (λ i. state c (i + 1)) f.states

-- ---- the divisor, (P+1)·n, n periods standing

pub divisor-some : (c : Campaign) → Filed c → (days_in c standing ≡ 0 → ⊥) → 0 < divisor c
divisor-some c f n = mul-pos (omega arith) (omega (arith, periods_least c f))

divisor_most : (c : Campaign) → Filed c → divisor c ≤ 65536 * 1024
divisor_most c f =
    let period : P c.order + 1 ≤ 65536 = omega (arith, small f.accepted.shaped.most) in
    mul-le-mul period (periods_most c f)

pub divisor_small : (c : Campaign) → Filed c → divisor c < 2 ^ 53
divisor_small c f = omega (arith, divisor_most c f)

-- ---- response and mean

module _ (c : Campaign) (store sums : List ℤ) (h : Together c store sums) where
  pub worked_bound : (k : ℕ) → nat_abs (worked c sums k) ≤ divisor c * 8388607
  worked_bound k =
      omega (
        arith,
        response_bound c.order c.taps (generator h.filed.accepted) (at sums) (periods_standing c * 8388607) (sum_bound c store sums h) k,
        mul_assoc (P c.order + 1) (periods_standing c) 8388607,
      )

  pub worked_small : (k : ℕ) → nat_abs (worked c sums k) < 2 ^ 49
  worked_small k = omega (arith, worked_bound k, divisor_most c h.filed)

  pub extremes_small : let e = extremes_of (P c.order) (worked c sums) in (nat_abs e.highest < 2 ^ 53) × (nat_abs e.lowest < 2 ^ 53) × (nat_abs e.peak < 2 ^ 53)
  extremes_small = (below _ (worked_small _), below _ (worked_small _), below _ (worked_small _))
    where
      below : (n : ℕ) → n < 2 ^ 49 → n < 2 ^ 53
      below n l = omega arith

  pub mean_fits : (days_in c standing ≡ 0 → ⊥) → (k : ℕ) → sample_out (mean_at c sums k) ≡ false
  mean_fits n k =
      size_inside (mean_at c sums k)
      (rounded_bound c.edition (worked c sums k) (divisor c) 8388607 (divisor-some c h.filed n) (omega (arith, worked_bound k)))
