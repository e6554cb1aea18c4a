-- `records::tables::find` meets its contract. Assumes nothing.
use Rattle.std.proofs.Common.{rules, ◌≡◌, ℕ, ◌≤◌, length, get_or, eqb, ap, ◌∙◌, sym, arith, take}
use lib.Seq.{length-take-le}
use borrow.Author.Tests.{tests}
use Rattle.std.proofs.lemmas.Iterator.{YieldsList-from_slice}
use Rattle.std.proofs.lemmas.Iterator.Search.{position_from_yields_List}
use Rattle.std.specs.Option.{unwrap_or}
use Rattle.sums.specs.Lists.{seek}
use Rattle.records.proofs.Chains.{seek_first, place_or}
use Rattle.records.proofs.tables.find.Goals as goal
use Rattle.records.proofs.tables.find.Goals.{After-position}

-- the place that was found, and the number of slots where none was
found : (c : After-position) → unwrap_or c.position.result c.args.capacity ≡ seek (λ s. eqb (get_or c.args.slots.now s 0) c.args.day) c.args.capacity 0
found c =
    let a = c.args in
    let test = λ (x : ℕ). eqb x a.day in
    let few : a.capacity ≤ length a.slots.now = omega arith in
    ap (λ r. unwrap_or r a.capacity) (position_from_yields_List test _ _ c.position.result c.position.ensures.ran (YieldsList-from_slice (take a.capacity a.slots.now) (cc)) (λ x b q k. search (rules, tests)))
    ∙ place_or test (take a.capacity a.slots.now) a.capacity (length-take-le a.capacity a.slots.now few)
    ∙ sym (seek_first 0 a.slots.now a.capacity few test)

pub returns-in-Some : goal.returns-in-Some
returns-in-Some c = sym (ap (λ r. unwrap_or r c.args.capacity) c.in-Some.is) ∙ found (goal.at.returns-in-Some c).After-position

pub returns : goal.returns
returns c = sym (ap (λ r. unwrap_or r c.args.capacity) c.in_default.is) ∙ found (goal.at.returns c).After-position
