-- `records::Campaign::slots_of` meets its contract: the sum of a 1 for each slot that holds the day is their count. Assumes nothing.
use Rattle.std.proofs.Common.{rules, ◌≡◌, cond, eqb, ◌∙◌, sym, arith, take}
use lib.Seq.{length-take-le}
use borrow.Author.Tests.{tests}
use Rattle.std.proofs.iter.runs.Made.{chains}
use Rattle.std.proofs.lemmas.Iterator.{YieldsList-from_slice}
use Rattle.std.proofs.lemmas.Iterator.Adapters.{fits_from_length, at_most_from_yields_List}
use Rattle.std.specs.List.{sum_by}
use Rattle.records.proofs.Chains.{many_first}
use Rattle.records.proofs.Campaign.slots_of.Goals as goal

pub sum-requires-clause-fits : goal.sum-requires-clause-fits
sum-requires-clause-fits c =
    let self = c.args.self.now in
    fits_from_length _ _ 64 _ (at_most_from_yields_List (YieldsList-from_slice (take self.capacity self.slots) (cc)) (omega (arith, length-take-le self.capacity self.slots (omega arith))))
    c.map.ensures.closure (omega arith) (λ x r q k. search (rules, tests))

pub returns : goal.returns
returns c =
    let self = c.args.self.now in
    let e : c.sum.result ≡ sum_by (λ x. cond (eqb x c.args.day) 1 0) (take self.capacity self.slots) = search (rules, chains) in
    e ∙ sym (many_first 0 self.slots self.capacity (omega arith) (λ x. eqb x c.args.day))
