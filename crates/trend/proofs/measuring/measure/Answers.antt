-- `trend::measuring::measure` meets its contract: what is read of the transformed room is the response. Assumes nothing.
use mathlib.Core.Path.{ap, fun_ext, ◌∙◌}
use Prim.Native.Nat.{◌+◌, ◌^◌, ◌<◌}
use native.Mathlib.Omega.{arith}
use lib.ListN.{length, take}
use lib.Pow.{suc_ones}
use Rattle.sums.specs.Lists.{at}
use Rattle.register.specs.Register.{P}
use Rattle.register.proofs.Word.{small}
use Rattle.hadamard.specs.Transform.{loudness}
use Rattle.samples.specs.Samples.{cleared_wide}
use Rattle.response.specs.Route.{spectrum}
use Rattle.response.proofs.Clearing.{cleared_again}
use Rattle.response.proofs.FastRoute.{windows_walk, loud, route}
use Rattle.samples.proofs.Sizes.{quiet_wide}
use Rattle.response.proofs.Transformed.{bounded, reads_at}
use Rattle.trend.specs.Calls.{extremes_of}
use Rattle.trend.proofs.measuring.measure.Goals as goal
use Rattle.trend.proofs.measuring.measure.Goals.{After-spread_wide}

-- the room is laid out, long enough and not loud
long : (c : After-spread_wide) → P c.args.register.order < length c.spread_wide.new.room
long c = omega (arith, c.spread_wide.ensures.long, c.requires.register_in_bounds.1)

calm : (c : After-spread_wide) → loudness (take (2 ^ c.args.register.order) c.spread_wide.new.room) < 2 ^ 62
calm c =
    let N = c.args.register.order in
    rw (loud N (windows_walk N c.args.register.taps c.args.register.accepted) c.spread_wide.ensures (long c))
    (quiet_wide (at c.args.y.now) (P N) (omega (arith, small c.args.register.accepted.shaped.most)) c.requires.y_value)

pub transform_room-requires : goal.transform_room-requires
transform_room-requires c =
    (c.args.register.accepted.shaped.most, omega (arith, c.period-period.ensures, suc_ones c.args.register.order), omega (arith, c.period-period.ensures, long (goal.at.transform_room-requires c).After-spread_wide), calm (goal.at.transform_room-requires c).After-spread_wide)

pub returns : goal.returns
returns c =
    let N = c.args.register.order in
    let taps = c.args.register.taps in
    let v = c.spread_wide.new.room in
    let a = c.args.register.accepted in (
      rw (c.transform_room.ensures, c.period-period.ensures) at c.read_extremes-extremes.ensures
          ∙ ap (extremes_of (P N)) (fun_ext (λ k. reads_at N taps v a k ∙ route N taps a (long (goal.at.returns c).After-spread_wide) c.spread_wide.ensures k)),
      rw c.period-period.ensures at c.fill_front.ensures ∙ ap (cleared_wide (P N + 1)) c.transform_room.ensures ∙ cleared_again N c.spread_wide.ensures (spectrum N v),
      rw c.period-period.ensures at c.fill_front-2.ensures,
    )

pub read_extremes-extremes-requires-clause-by_index : goal.read_extremes-extremes-requires-clause-by_index
read_extremes-extremes-requires-clause-by_index c =
    let N = c.args.register.order in
    let v = c.spread_wide.new.room in
    (λ w h. rw c.transform_room.ensures (bounded N v (long (goal.at.read_extremes-extremes-requires-clause-by_index c).After-spread_wide) (calm (goal.at.read_extremes-extremes-requires-clause-by_index c).After-spread_wide) w (omega (arith, c.period-period.ensures))))
