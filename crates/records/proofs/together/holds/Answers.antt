-- `records::together::holds` meets its contract: a test that fails refutes holding together, and all of them make it. Assumes nothing.
use mathlib.Core.Path.{◌≡◌, sym, ◌∙◌}
use mathlib.Core.Bool.{true, true≢false}
use borrow.Author.Tests.{eqb-false}
use native.Mathlib.Omega.{arith}
use Rattle.register.specs.Calls.{taps_answer}
use Rattle.register.proofs.Judged.{accepted_exactly}
use Rattle.records.specs.Record.{edition_holds}
use Rattle.records.proofs.Holding.{Filed, filed_by, filed_tests_lem, holds-together}
use Rattle.records.proofs.Totals.{periods_few}
use Rattle.records.proofs.Whole.{whole, all_places, does_not, both_ways}
use Rattle.records.proofs.together.holds.Goals as goal
use Rattle.records.proofs.together.holds.Goals.{Else-not-filed_holds}

-- once the three tests are passed
edition : (c : Else-not-filed_holds) → edition_holds c.args.c.now ≡ true
edition c = sym c.is_edition.ensures ∙ c.if-not-is_edition.false

filed : (c : Else-not-filed_holds) → Filed c.args.c.now
filed c =
    let a = c.args in
    filed_by a.c.now (sym c.accepts.ensures ∙ c.if-not-accepts.false)
    (sym c.filed_holds.ensures ∙ c.if-not-filed_holds.false)

pub returns-then-not-accepts : goal.returns-then-not-accepts
returns-then-not-accepts c =
    let a = c.args in
    does_not a.c.now a.store.now a.sums.now (λ t. eqb-false (taps_answer a.c.now.order a.c.now.taps) 0 (sym c.accepts.ensures ∙ c.if-not-accepts.true) ((accepted_exactly a.c.now.order a.c.now.taps).1 t.filed.accepted))

pub returns-then-not-is_edition : goal.returns-then-not-is_edition
returns-then-not-is_edition c =
    let a = c.args in
    does_not a.c.now a.store.now a.sums.now (λ t. true≢false (sym t.edition ∙ sym c.is_edition.ensures ∙ c.if-not-is_edition.true))

pub returns-then-not-filed_holds : goal.returns-then-not-filed_holds
returns-then-not-filed_holds c =
    let a = c.args in
    does_not a.c.now a.store.now a.sums.now (λ t.
    true≢false
    (sym (filed_tests_lem a.c.now a.store.now a.sums.now ((holds-together a.c.now a.store.now a.sums.now).1 t))
    ∙ sym c.filed_holds.ensures
    ∙ c.if-not-filed_holds.true))

pub full_period-period-requires : goal.full_period-period-requires
full_period-period-requires c = (filed (goal.at.full_period-period-requires c).Else-not-filed_holds).accepted.shaped.most

pub returns-then-store-capacity : goal.returns-then-store-capacity
returns-then-store-capacity c =
    let a = c.args in
    does_not a.c.now a.store.now a.sums.now (λ t. omega (arith, rw c.full_period-period.ensures at c.if-store-capacity.true, t.store_long))

pub returns-then-sums-period : goal.returns-then-sums-period
returns-then-sums-period c =
    let a = c.args in
    does_not a.c.now a.store.now a.sums.now (λ t. omega (arith, c.full_period-period.ensures, c.if-sums-period.true, t.sums_long))

pub returns : goal.returns
returns c =
    let a = c.args in
    let two = rw c.full_period-period.ensures at c.store_holds.ensures in
    both_ways _ _
    (λ t. (holds-together a.c.now a.store.now a.sums.now).1
    (whole a.c.now a.store.now a.sums.now (filed (goal.at.returns c).Else-not-filed_holds) (edition (goal.at.returns c).Else-not-filed_holds) (rw c.full_period-period.ensures at c.if-store-capacity.false) (rw c.full_period-period.ensures at c.if-sums-period.false) (two.0 t)))
    (λ h. two.1 (all_places a.c.now a.store.now a.sums.now ((holds-together a.c.now a.store.now a.sums.now).0 h)))

pub store_holds-requires-clause-by_index : goal.store_holds-requires-clause-by_index
store_holds-requires-clause-by_index c =
    let f = filed (goal.at.store_holds-requires-clause-by_index c).Else-not-filed_holds in
    (λ s l. periods_few _ f s l)
