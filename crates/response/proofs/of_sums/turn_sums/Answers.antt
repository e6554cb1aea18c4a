-- `response::of_sums::turn_sums` meets its contract: the numbers are laid out, and are not loud. Assumes nothing.
use Prim.Native.Nat.{◌<◌}
use native.Mathlib.Omega.{arith}
use lib.ListN.{length}
use Rattle.sums.specs.Lists.{at}
use Rattle.register.specs.Register.{P}
use Rattle.register.proofs.Word.{small}
use Rattle.response.proofs.FastRoute.{windows_walk, loud}
use Rattle.samples.proofs.Sizes.{quiet_wide}
use Rattle.response.proofs.of_sums.turn_sums.Goals as goal

pub returns : goal.returns
returns c =
    c.finish.ensures (at c.args.y.now) c.args.room.now c.spread_wide.ensures

pub finish-requires-clause-room_bound : goal.finish-requires-clause-room_bound
finish-requires-clause-room_bound c =
    let N = c.args.register.order in
    let long : P N < length c.spread_wide.new.room = omega (arith, c.spread_wide.ensures.long, c.requires.register_in_bounds.2) in (rw (loud N (windows_walk N c.args.register.taps c.args.register.accepted) c.spread_wide.ensures long)
    (quiet_wide (at c.args.y.now) (P N) (omega (arith, small c.args.register.accepted.shaped.most)) c.requires.y_value))
