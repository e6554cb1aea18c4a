-- `records::Campaign::slots_stand` meets its contract. Assumes nothing.
use Rattle.std.proofs.Common.{rules, ℕ, leb, eqb, ◌||◌, ◌&&◌, ◌∙◌, sym, arith, take}
use borrow.Author.Tests.{tests}
use Rattle.std.proofs.lemmas.Iterator.{YieldsList-from_slice}
use Rattle.std.proofs.lemmas.Iterator.Search.{all_from_yields_List}
use Rattle.records.specs.Record.{stands}
use Rattle.records.proofs.Chains.{every_first}
use Rattle.records.proofs.Campaign.slots_stand.Goals as goal

pub returns : goal.returns
returns c =
    let self = c.args.self.now in
    let test = λ (day : ℕ). eqb day 0 || (leb day 366 && stands self day) in
    all_from_yields_List test _ _ _ c.all.ensures.ran (YieldsList-from_slice (take self.capacity self.slots) (cc)) (λ x b q k. search (rules, tests))
    ∙ sym (every_first 0 self.slots self.capacity (omega arith) test)
