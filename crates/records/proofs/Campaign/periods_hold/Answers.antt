-- `records::Campaign::periods_hold` meets its contract. Assumes nothing.
use Rattle.std.proofs.Common.{rules, ℕ, cond, ◌&&◌, leb, eqb, ◌∙◌, sym, arith}
use borrow.Author.Tests.{tests}
use Rattle.std.proofs.lemmas.Iterator.{YieldsList-from_slice, YieldsList-from_zip}
use Rattle.std.proofs.lemmas.Iterator.Search.{all_from_yields_List}
use Rattle.records.proofs.Chains.{every_zip}
use Rattle.records.proofs.Campaign.periods_hold.Goals as goal

pub returns : goal.returns
returns c =
    let self = c.args.self.now in
    let test = λ (p : ℕ × ℕ). cond (eqb p.0 0) (eqb p.1 0) (leb 1 p.1 && leb p.1 16) in
    all_from_yields_List test c.all.new.self _ _ c.all.ensures.ran (YieldsList-from_zip (YieldsList-from_slice self.slots (cc)) (YieldsList-from_slice self.periods (cc))) (λ x b q k. search (rules, tests))
    ∙ sym (every_zip (0, 0) test self.slots self.periods 64 (omega arith) (omega arith))
