-- `samples::range::some_beyond` meets its contract: of the values passed it is known whether one lies beyond a bound. Assumes nothing.
use mathlib.Core.Path.{◌≡◌, refl, ap, ap₂, ◌∙◌}
use mathlib.Core.Bool.{◌||◌}
use native.Mathlib.Numerals.{add-one}
use native.Mathlib.Omega.{arith}
use lib.Signed.{lt_z}
use mir.Syntax.{w32}
use mir.Val.{to_z, of_z}
use Rattle.sums.specs.Lists.{at, some}
use Rattle.sums.proofs.Bound.{read}
use Rattle.samples.proofs.range.some_beyond.Invariants.{outside}
use Rattle.samples.proofs.range.some_beyond.Goals as goal
use Rattle.samples.proofs.range.some_beyond.Goals.{After-beyond}

-- what the test says of the value itself
tested : (c : After-beyond)
    → c.beyond.result ≡ outside (to_z w32 (of_z w32 c.args.low)) (to_z w32 (of_z w32 c.args.high)) c.args.y.now c.loop-x.x-index
tested c =
    c.beyond.ensures
    ∙ ap (λ z. lt_z z (to_z w32 (of_z w32 c.args.low)) || lt_z (to_z w32 (of_z w32 c.args.high)) z) (read w32 (at c.args.y.now c.loop-x.x-index) c.x-1.given)

pub loop-x-init : goal.loop-x-init
unfolding some
loop-x-init c = (omega arith, refl)

pub loop-x-preserved : goal.loop-x-preserved
unfolding some
loop-x-preserved c =
    (omega arith, rw add-one (c.either-out.ensures ∙ ap₂ ◌||◌ c.loop-x.invariant.1 (tested (goal.at.loop-x-preserved c).After-beyond)))
