-- `response::recording::turn` meets its contract: a recording of samples is laid out, and is not loud. Assumes nothing.
use Prim.Native.Nat.{◌<◌}
use native.Mathlib.Omega.{arith}
use lib.ListN.{length}
use Rattle.sums.specs.Lists.{at}
use Rattle.register.specs.Register.{P}
use Rattle.register.proofs.Word.{small}
use Rattle.response.proofs.FastRoute.{windows_walk, loud}
use Rattle.samples.proofs.Sizes.{quiet}
use Rattle.response.proofs.recording.turn.Goals as goal

pub returns : goal.returns
returns c =
    c.finish.ensures (at c.args.y.now) c.args.room.now c.spread.ensures

pub finish-requires-clause-room_bound : goal.finish-requires-clause-room_bound
finish-requires-clause-room_bound c =
    let N = c.args.register.order in
    let long : P N < length c.spread.new.room = omega (arith, c.spread.ensures.long, c.requires.register_in_bounds.1) in (rw (loud N (windows_walk N c.args.register.taps c.args.register.accepted) c.spread.ensures long)
    (quiet c.args.y.now (P N) c.requires.y_value.0 (omega (arith, small c.args.register.accepted.shaped.most)) c.requires.y_value.1))
