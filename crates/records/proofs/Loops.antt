-- What a chain over the days finds is what the record's tests ask: day i + 1 stands at place i. Assumes nothing.
use mathlib.Core.Path.{◌≡◌, ap}
use Prim.Native.Nat.{ℕ, ◌+◌, ◌-◌}
use native.Mathlib.Omega.{arith}
use lib.Dec.{eqb, leb}
use lib.ListN.{get_or}
use Rattle.sums.specs.Lists.{every, many}
use Rattle.sums.proofs.Everywhere.{many_ext, every_ext}
use Rattle.records.specs.Record.{days_in, states_hold}
use Rattle.records.specs.declared.Campaign.{Campaign}

back : (i : ℕ) → i ≡ i + 1 - 1
back i = omega arith

module _ (c : Campaign) where
  pub days_in_is : (q : ℕ) → many 366 (λ i. eqb (get_or c.days i 0) q) ≡ days_in c q
  days_in_is q = many_ext 366 (λ i l. ap (λ k. eqb (get_or c.days k 0) q) (back i))

  pub states_hold_is : every 366 (λ i. leb (get_or c.days i 0) 4) ≡ states_hold c
  states_hold_is = every_ext 366 (λ i l. ap (λ k. leb (get_or c.days k 0) 4) (back i))
