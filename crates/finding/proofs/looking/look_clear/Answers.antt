-- `finding::looking::look_clear` meets its contract. Assumes nothing.
use mathlib.Core.Path.{◌≡◌, sym, ap, ap₂, ◌∙◌}
use Rattle.finding.specs.Finding.{judged, finding}
use Rattle.std.proofs.Common.{None}
use Rattle.finding.proofs.looking.look_clear.Goals as goal
use Rattle.finding.proofs.looking.look_clear.Goals.{After-is_still}

-- what was asked decides
quiet : (c : After-is_still) → judged None c.is_still.result ≡ finding c.args.y.now
unfolding finding
quiet c = ap₂ judged (sym c.requires) c.is_still.ensures

pub returns-then-is_still : goal.returns-then-is_still
returns-then-is_still c = ap (judged None) (sym c.if-is_still.true) ∙ quiet (goal.at.returns-then-is_still c).After-is_still

pub returns : goal.returns
returns c = ap (judged None) (sym c.if-is_still.false) ∙ quiet (goal.at.returns c).After-is_still
