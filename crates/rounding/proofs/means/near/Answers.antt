-- `rounding::means::near` meets its contract, by the laws of `Halves`. Assumes nothing.
use mathlib.Core.Path.{◌∙◌}
use native.Mathlib.Omega.{arith}
use Rattle.rounding.proofs.Halves.{settled_down, settled_up}
use Rattle.rounding.proofs.means.near.Goals as goal

pub returns-then-m-d : goal.returns-then-m-d
returns-then-m-d c = settled_down c.args.a c.args.d c.requires c.args.edition (omega arith)

pub returns : goal.returns
returns c = c.settle.ensures ∙ settled_up c.args.a c.args.d c.requires c.args.edition (omega arith)
