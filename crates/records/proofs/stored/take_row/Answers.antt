-- `records::stored::take_row` meets its contract. Assumes nothing.
use borrow.Author.Tests.{ne_eqb}
use mathlib.Core.Path.{◌≡◌, sym, ap, ap₂, ◌∙◌}
use mathlib.Core.Bool.{Bool, ◌&&◌}
use mathlib.Core.List.{List}
use Prim.Native.Nat.{ℕ}
use lib.IntN.{ℤ}
use lib.ListN.{length}
use lib.Signed.{le_z}
use mir.Syntax.{w32}
use Rattle.sums.specs.Lists.{at, every}
use Rattle.sums.proofs.Bound.{read}
use Rattle.samples.specs.Samples.{least_of, most_of, within}
use Rattle.records.proofs.stored.take_row.Goals as goal

-- the bounds that were worked out are those of m periods
bounded : (row : List ℤ) (m : ℕ) {low high : ℤ} → low ≡ least_of m → high ≡ most_of m
    → every (length row) (λ j. le_z low (at row j) && le_z (at row j) high) ≡ every (length row) (λ j. within m (at row j))
bounded row m e f = ap₂ {C = Bool} (λ low high. every (length row) (λ j. le_z low (at row j) && le_z (at row j) high)) e f

pub returns-then-m-eq-ONE_PERIOD : goal.returns-then-m-eq-ONE_PERIOD
returns-then-m-eq-ONE_PERIOD c =
    let row = c.args.row.now in
    let e = ne_eqb _ 0 c.if-day-eq-FREE.false in
    let bounds = bounded row 1 (read w32 c.least_of.result c.least_of.type_inv ∙ c.least_of.ensures) (read w32 c.most_of.result c.most_of.type_inv ∙ c.most_of.ensures) in
    let one = ap {B = Bool} (λ m. every (length row) (λ j. within m (at row j))) (sym c.if-m-eq-ONE_PERIOD.true) in
    (rw e (c.add_row.ensures.0 ∙ bounds ∙ one), λ j. rw e (c.add_row.ensures.1 j))

pub returns : goal.returns
returns c =
    let e = ne_eqb _ 0 c.if-day-eq-FREE.false in
    let bounds = bounded c.args.row.now c.args.m (read w32 c.least_of-2.result c.least_of-2.type_inv ∙ c.least_of-2.ensures) (read w32 c.most_of-2.result c.most_of-2.type_inv ∙ c.most_of-2.ensures) in
    (rw e (c.add_row-2.ensures.0 ∙ bounds), λ j. rw e (c.add_row-2.ensures.1 j))
