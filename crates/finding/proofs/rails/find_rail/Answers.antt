-- `finding::rails::find_rail` meets its contract: a recording that lies between the neighbours of the rails is at none. Assumes nothing.
use mathlib.Core.Path.{sym, ◌∙◌}
use Rattle.finding.proofs.Loud.{clear}
use Rattle.finding.proofs.rails.find_rail.Goals as goal

pub returns : goal.returns
returns c = sym (clear c.args.y.now (sym c.some_loud.ensures ∙ c.if-some_loud.false))
