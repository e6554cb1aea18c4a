-- `records::slots::fill_slot` meets its contract: the slot holds the sum of the periods, and the sums have it added. Assumes nothing.
use mathlib.Core.Path.{◌≡◌, ap, ◌∙◌}
use mathlib.Core.List.{List}
use Prim.Native.Nat.{ℕ, ◌+◌, ◌-◌, ◌*◌, ◌≤◌, ◌<◌}
use native.Mathlib.Omega.{arith}
use borrow.Rule.Slice.PartMut.{mid_of, put_mid}
use lib.IntN.{ℤ, pos, ◌+ℤ◌}
use lib.ListN.{length}
use Rattle.sums.specs.Lists.{at, table, put, put_at}
use Rattle.sums.proofs.Everywhere.{length-put_at, put_at_here}
use Rattle.sums.proofs.Parts.{part_length, part_written, part_at, by_sums}
use Rattle.sums.proofs.Tables.{table_ext}
use Rattle.nights.specs.Nights.{term}
use Rattle.nights.proofs.Terms.{term_long}
use Rattle.records.proofs.slots.fill_slot.Goals as goal
use Rattle.records.proofs.slots.fill_slot.Goals.{After-sum_periods}

-- a row added to the sums, by what it holds
row-added : (n : ℕ) (row t l s : List ℤ) → length row ≡ n → n ≤ length l → length s ≡ length l → ((j : ℕ) → at s j ≡ at l j +ℤ at row j)
    → ((j : ℕ) → j < n → at row j ≡ at t j) → s ≡ put (table n (λ j. at l j +ℤ at t j)) l
row-added n row t l s long h e w same =
    by_sums row l s (omega arith) e w
    ∙ ap (λ v. put v l) (ap (λ m. table m (λ j. at l j +ℤ at row j)) long ∙ table_ext n (λ j k. ap (λ z. at l j +ℤ z) (same j k)))

-- the store with the sum of the periods in its slot
filled : (c : After-sum_periods) → let n = c.args.period in let k = c.args.s * n in
    put_mid k (k + n - k) c.args.store.now c.sum_periods.new.row ≡ put_at k (term n c.args.m c.args.z.now) c.args.store.now
filled c =
    let n = c.args.period in
    let k = c.args.s * n in
    let store = c.args.store.now in
    let long = part_length k n store c.requires.s_bound.2 in
    part_written k n store c.requires.s_bound.2 (term n c.args.m c.args.z.now) _ (term_long n c.args.m c.args.z.now)
    (c.sum_periods.ensures ∙ ap (λ m. term m c.args.m c.args.z.now) long)

-- the row that is added
row-long : (c : After-sum_periods) → let n = c.args.period in let k = c.args.s * n in
    length (mid_of k (k + n - k) (put_mid k (k + n - k) c.args.store.now c.sum_periods.new.row)) ≡ n
row-long c =
    let n = c.args.period in
    let k = c.args.s * n in
    let store = c.args.store.now in
    let t = term n c.args.m c.args.z.now in
    let wide = length-put_at k t store (omega (arith, term_long n c.args.m c.args.z.now, c.requires.s_bound.2)) in
    part_length k n _ (omega (arith, ap length (filled c), wide, c.requires.s_bound.2))

pub returns : goal.returns
returns c =
    let n = c.args.period in
    let k = c.args.s * n in
    let store = c.args.store.now in
    let t = term n c.args.m c.args.z.now in
    let e = term_long n c.args.m c.args.z.now in
    let left = put_mid k (k + n - k) store c.sum_periods.new.row in (
      filled (goal.at.returns c).After-sum_periods,
      row-added n (mid_of k (k + n - k) left) t c.args.sums.now _ (row-long (goal.at.returns c).After-sum_periods) c.requires.period_in_bounds.0 c.add_row.auto.sums c.add_row.ensures.1
          (λ j l. part_at k n left j l ∙ ap (λ v. at v (k + j)) (filled (goal.at.returns c).After-sum_periods) ∙ put_at_here k t store (omega (arith, e, c.requires.s_bound.2)) j (pos 0) (omega (arith, e))),
    )
