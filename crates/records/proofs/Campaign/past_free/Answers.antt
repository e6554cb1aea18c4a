-- `records::Campaign::past_free` meets its contract. Assumes nothing.
use Rattle.std.proofs.Common.{rules, eqb, ◌∙◌, sym, arith}
use borrow.Author.Tests.{tests}
use Rattle.std.proofs.lemmas.Iterator.{YieldsList-from_slice}
use Rattle.std.proofs.lemmas.Iterator.Adapters.{YieldsList-from_skip}
use Rattle.std.proofs.lemmas.Iterator.Search.{all_from_yields_List}
use Rattle.records.proofs.Chains.{every_rest}
use Rattle.records.proofs.Campaign.past_free.Goals as goal

pub returns : goal.returns
returns c =
    let self = c.args.self.now in
    all_from_yields_List (λ day. eqb day 0) _ _ _ c.all.ensures.ran (YieldsList-from_skip self.capacity (YieldsList-from_slice self.slots (cc)) (cc)) (λ x b q k. search (rules, tests))
    ∙ sym (every_rest 0 (λ day. eqb day 0) self.slots self.capacity 64 (omega arith))
