-- `finding::spread::is_still` meets its contract: where the front moves, so does the whole. Assumes nothing.
use mathlib.Core.Path.{sym, ◌∙◌}
use native.Mathlib.Omega.{arith}
use Rattle.finding.proofs.Exactly.{front_moves}
use Rattle.finding.proofs.spread.is_still.Goals as goal

pub returns-then-not-all_near : goal.returns-then-not-all_near
returns-then-not-all_near c =
    let y = c.args.y.now in
    sym (front_moves 17 y (omega arith) (sym c.all_near.ensures ∙ c.if-not-all_near.true))
