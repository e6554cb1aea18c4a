-- `records::Campaign::days_in` meets its contract: the sum of a 1 for each day in the state is their count. Assumes nothing.
use Rattle.std.proofs.Common.{rules, ◌≡◌, cond, eqb, ◌∙◌, sym, arith}
use borrow.Author.Tests.{tests}
use Rattle.std.proofs.iter.runs.Made.{chains}
use Rattle.std.proofs.lemmas.Iterator.{YieldsList-from_slice}
use Rattle.std.proofs.lemmas.Iterator.Adapters.{fits_from_length, at_most_from_yields_List}
use Rattle.std.specs.List.{sum_by}
use Rattle.records.proofs.Chains.{many_list}
use Rattle.records.proofs.Loops.{days_in_is}
use Rattle.records.proofs.Campaign.days_in.Goals as goal

pub sum-requires-clause-fits : goal.sum-requires-clause-fits
sum-requires-clause-fits c =
    fits_from_length _ _ 366 _ (at_most_from_yields_List (YieldsList-from_slice c.args.self.now.days (cc)) (omega arith))
    c.map.ensures.closure (omega arith) (λ x r q k. search (rules, tests))

pub returns : goal.returns
returns c =
    let days = c.args.self.now.days in
    let q = c.args.q in
    let e : c.sum.result ≡ sum_by (λ x. cond (eqb x q) 1 0) days = search (rules, chains) in
    e ∙ sym (many_list 0 (λ x. eqb x q) days 366 (omega arith)) ∙ days_in_is c.args.self.now q
