-- `response::respond::respond` meets its contract: no number of the transform is larger than the room is loud. Assumes nothing.
use mathlib.Core.Path.{ap, ◌∙◌}
use Prim.Native.Nat.{◌<◌}
use native.Mathlib.Omega.{arith}
use lib.ListN.{length}
use Rattle.sums.specs.Lists.{put}
use Rattle.sums.proofs.Tables.{table_ext}
use Rattle.register.specs.Register.{P}
use Rattle.response.proofs.Transformed.{bounded, reads_at}
use Rattle.response.proofs.respond.respond.Goals as goal

pub returns : goal.returns
returns c =
    let N = c.args.register.order in
    let v = c.args.room.now in (
      c.gather.ensures
          ∙ rw (c.transform_room.ensures, c.requires.period_in_bounds.0) (ap (λ t. put t c.args.out.now) (table_ext (P N) (λ k _. reads_at N c.args.register.taps v c.args.register.accepted k))),
      c.transform_room.ensures,
    )

pub gather-requires-clause-by_index : goal.gather-requires-clause-by_index
gather-requires-clause-by_index c =
    let N = c.args.register.order in
    let v = c.args.room.now in
    let long : P N < length v = omega (arith, c.requires.period_in_bounds.0, c.requires.period_in_bounds.1) in (λ w h. rw c.transform_room.ensures (bounded N v long c.requires.room_bound w (omega (arith, c.requires.period_in_bounds.0))))
