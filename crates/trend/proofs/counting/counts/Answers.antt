-- `trend::counting::counts` meets its contract. Assumes nothing.
use mathlib.Core.Path.{◌≡◌, sym, ap, ◌∙◌}
use mathlib.Core.Bool.{Bool, not}
use mathlib.Core.List.{List, [], ◌∷◌}
use lib.IntN.{ℤ}
use Rattle.std.specs.Prelude.{Ok, Err}
use Rattle.sums.specs.Refusals.{outcome}
use Rattle.records.specs.Record.{together}
use Rattle.records.specs.declared.Campaign.{Campaign}
use Rattle.trend.specs.Calls.{tally, counts_outcome}
use Rattle.trend.proofs.counting.counts.Goals as goal

-- the answer, by whether the record holds together
says : (c : Campaign) (store sums : List ℤ) {b : Bool} → b ≡ together c store sums
    → outcome ((15, not b) ∷ []) Err (Ok (tally c)) ≡ counts_outcome c store sums
unfolding counts_outcome
says c store sums h = ap (λ b. outcome ((15, not b) ∷ []) Err (Ok (tally c))) h

pub returns-then-not-holds : goal.returns-then-not-holds
returns-then-not-holds c = says _ _ _ (sym (c.if-not-holds.true) ∙ c.holds.ensures)

pub returns : goal.returns
returns c =
    ap Ok c.tally_of.ensures ∙ says _ _ _ (sym (c.if-not-holds.false) ∙ c.holds.ensures)
