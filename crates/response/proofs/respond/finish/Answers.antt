-- `response::respond::finish` meets its contract: the fast route equals the formula. Assumes nothing.
use mathlib.Core.Path.{ap, ◌∙◌}
use Prim.Native.Nat.{◌+◌, ◌<◌}
use native.Mathlib.Omega.{arith}
use lib.ListN.{length}
use Rattle.sums.specs.Lists.{put}
use Rattle.sums.proofs.Tables.{table_ext}
use Rattle.register.specs.Register.{P}
use Rattle.samples.specs.Samples.{cleared_wide}
use Rattle.response.specs.Route.{spectrum}
use Rattle.response.proofs.Clearing.{cleared_again}
use Rattle.response.proofs.FastRoute.{route}
use Rattle.response.proofs.respond.finish.Goals as goal

pub returns : goal.returns
returns c =
    let N = c.args.register.order in
    let v = c.args.room.now in
    let long : P N < length v = omega (arith, c.requires.period_in_bounds.0, c.requires.period_in_bounds.1) in
    λ y was laid. (
      rw c.requires.period_in_bounds.0 at c.respond.ensures.0
          ∙ ap (λ t. put t c.args.out.now) (table_ext (P N) (λ k _. route N c.args.register.taps c.args.register.accepted long laid k)),
      rw c.requires.period_in_bounds.0 at c.fill_front.ensures
          ∙ ap (cleared_wide (P N + 1)) c.respond.ensures.1 ∙ cleared_again N laid (spectrum N v),
      rw c.requires.period_in_bounds.0 at c.fill_front-2.ensures,
    )
