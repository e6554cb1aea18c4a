-- `records::Campaign::states_hold` meets its contract. Assumes nothing.
use Rattle.std.proofs.Common.{rules, leb, ◌∙◌, sym, arith}
use borrow.Author.Tests.{tests}
use Rattle.std.proofs.lemmas.Iterator.{YieldsList-from_slice}
use Rattle.std.proofs.lemmas.Iterator.Search.{all_from_yields_List}
use Rattle.records.proofs.Chains.{every_list}
use Rattle.records.proofs.Loops.{states_hold_is}
use Rattle.records.proofs.Campaign.states_hold.Goals as goal

pub returns : goal.returns
returns c =
    let days = c.args.self.now.days in
    all_from_yields_List (λ q. leb q 4) _ _ _ c.all.ensures.ran (YieldsList-from_slice days (cc)) (λ x b q k. search (rules, tests))
    ∙ sym (every_list 0 (λ q. leb q 4) days 366 (omega arith)) ∙ states_hold_is c.args.self.now
