-- `records::stored::block_holds` meets its contract: slot by slot, `ReadSo`. Assumes nothing.
use mathlib.Core.Path.{◌≡◌, refl, sym, ap, ap₂, ◌∙◌}
use mathlib.Core.Bool.{true≢false}
use Prim.Native.Nat.{ℕ, ◌+◌, ◌-◌, ◌*◌, ◌≤◌, ◌<◌}
use native.Mathlib.Nat.{mul-le-mul_right, suc-mul}
use native.Mathlib.Omega.{arith}
use lib.IntN.{ℤ, pos}
use mathlib.Core.List.{List}
use lib.ListN.{length, get_or, take, drop, length-drop}
use lib.Seq.{length-take-le, get_or-take, get_or-drop}
use Rattle.sums.specs.Lists.{at, every}
use Rattle.sums.proofs.Tables.{at-put}
use Rattle.sums.specs.Equal.{eq_z}
use Rattle.sums.proofs.Everywhere.{every_ext}
use Rattle.records.proofs.Chains.{every_same}
use Rattle.records.proofs.Reading.{tested, none_read, row_at, more_read, row_refutes, sums_hold_lem, sums_pass, found_small}
use Rattle.records.proofs.stored.block_holds.Goals as goal
use Rattle.records.proofs.stored.block_holds.Goals.{After-eq, After-take_row}

-- the row of slot s that is lent: what stands in it, and how long it is
module _ (period from count s : ℕ) (store : List ℤ) where
  abbrev row : List ℤ
  row =
      let x = s * period + from in
      take (x + count - x) (drop x store)

  row_is : row ≡ take count (drop (s * period + from) store)
  row_is =
      let x = s * period + from in
      let e : x + count - x ≡ count = omega arith in
      ap (λ n. take n (drop x store)) e

  row_holds_at : (j : ℕ) → j < count → at row j ≡ at store (s * period + (from + j))
  row_holds_at j h = ap (λ v. at v j) row_is ∙ row_at store period from count s j h

  -- it lies in the store
  row_length : (capacity : ℕ) → capacity * period ≤ length store → from + count ≤ period → s < capacity → length row ≡ count
  row_length capacity fits few l =
      ap length row_is
      ∙ length-take-le count (drop (s * period + from) store) (omega (arith, length-drop (s * period + from) store, mul-le-mul_right period l, suc-mul s period))

-- what the test of the row says
told : (c : After-take_row) → let a = c.args in
    c.take_row.result
    ≡ tested (get_or a.c.now.slots c.loop-s.s 0) (get_or a.c.now.periods c.loop-s.s 0) a.count (row a.period a.from a.count c.loop-s.s a.store.now)
told c =
    let a = c.args in
    let long = row_length a.period a.from a.count c.loop-s.s a.store.now a.c.now.capacity c.requires.capacity_bound.1 c.requires.count_bound.0 c.loop-s-test.true in
    rw long at c.take_row.ensures.0

-- the room lent is as long as it was
kept-long : (c : After-take_row) → length c.take_row.new.sums ≡ length c.fill_front.new.v
kept-long c = c.take_row.auto.sums ∙ c.loop-s.invariant.0

-- the part of the sums that is compared
module _ (from count : ℕ) (sums : List ℤ) where
  part_is : take (from + count - from) (drop from sums) ≡ take count (drop from sums)
  part_is = let q : from + count - from ≡ count = omega arith in ap (λ n. take n (drop from sums)) q

  part_length : from + count ≤ length sums → length (take (from + count - from) (drop from sums)) ≡ count
  part_length h = ap length part_is ∙ length-take-le count (drop from sums) (omega (arith, length-drop from sums))

-- what the comparison says, at the places of the sums
compared : (c : After-eq) → let a = c.args in
    c.eq.result ≡ every a.count (λ j. eq_z (at a.sums.now (a.from + j)) (at c.loop-s.found j))
compared c =
    let a = c.args in
    let n = a.count in
    let here : a.from + n ≤ length a.sums.now = omega (arith, c.requires.capacity_bound.2, c.requires.count_bound.0) in
    let part = part_length a.from n a.sums.now here in
    let found = length-take-le n c.loop-s.found (omega (arith, c.loop-s.invariant.0, c.fill_front.auto.v, c.requires.count_bound.1)) in
    c.eq.ensures ∙ every_same (take (a.from + n - a.from) (drop a.from a.sums.now)) (take n c.loop-s.found) (part ∙ sym found)
    ∙ ap (λ m. every m (λ j. eq_z (at (take (a.from + n - a.from) (drop a.from a.sums.now)) j) (at (take n c.loop-s.found) j))) part
    ∙ every_ext n (λ j h. ap₂ eq_z
    (ap (λ v. at v j) (part_is a.from n a.sums.now) ∙ get_or-take n (drop a.from a.sums.now) j (pos 0) h ∙ get_or-drop a.from a.sums.now j (pos 0))
    (get_or-take n c.loop-s.found j (pos 0) h))

pub loop-s-init : goal.loop-s-init
loop-s-init c =
    (refl, none_read _ _ _ _ _ _ (λ j l. ap (λ v. at v j) c.fill_front.ensures ∙ at-put c.args.count (λ _. pos 0) c.args.found.now j (pos 0) l))

pub returns-then-not-take_row : goal.returns-then-not-take_row
returns-then-not-take_row c =
    let a = c.args in (
      λ e. absurd (true≢false (sym e)),
      λ b. absurd (row_refutes a.c.now.slots a.c.now.periods a.period a.store.now a.from a.count c.loop-s.s (row a.period a.from a.count c.loop-s.s a.store.now) (row_holds_at a.period a.from a.count c.loop-s.s a.store.now) c.loop-s-test.true
          (sym (told (goal.at.returns-then-not-take_row c).After-take_row) ∙ c.if-not-take_row.true) b),
    )

pub loop-s-preserved : goal.loop-s-preserved
loop-s-preserved c =
    let a = c.args in (
      kept-long (goal.at.loop-s-preserved c).After-take_row,
      more_read a.c.now.slots a.c.now.periods a.period a.store.now a.from a.count c.loop-s.s (row a.period a.from a.count c.loop-s.s a.store.now) (row_holds_at a.period a.from a.count c.loop-s.s a.store.now) c.loop-s.invariant.1
          (sym (told (goal.at.loop-s-preserved c).After-take_row) ∙ c.if-not-take_row.false) c.take_row.ensures.1,
    )

pub returns : goal.returns
returns c =
    let a = c.args in
    let i = c.loop-s.invariant in
    let n : c.loop-s.s ≡ a.c.now.capacity = omega arith in
    let r = rw n at i.1 in (
      λ t. sums_hold_lem a.c.now.slots a.c.now.periods a.period a.store.now a.from a.count r (sym (compared c) ∙ t),
      λ b. compared c ∙ sums_pass a.c.now.slots a.c.now.periods a.period a.store.now a.from a.count r b,
    )

pub take_row-requires-clause-row_in_bounds : goal.take_row-requires-clause-row_in_bounds
take_row-requires-clause-row_in_bounds c =
    let a = c.args in
    let i = c.loop-s.invariant in
    let cleared = c.fill_front.auto.v in ((
      omega (arith, row_length a.period a.from a.count c.loop-s.s a.store.now a.c.now.capacity c.requires.capacity_bound.1 c.requires.count_bound.0 c.loop-s-test.true, i.0, c.requires.count_bound.1, cleared),
      λ j h. found_small _ _ _ _ _ _ i.1 (omega (arith, c.requires.capacity_bound.0)) (λ t k. c.requires.by_index t (omega arith)) j (omega (arith, row_length a.period a.from a.count c.loop-s.s a.store.now a.c.now.capacity c.requires.capacity_bound.1 c.requires.count_bound.0 c.loop-s-test.true)),
    ))
