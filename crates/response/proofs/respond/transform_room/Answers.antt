-- `response::respond::transform_room` meets its contract: the transform of the part, and the rest as it was. Assumes nothing.
use mathlib.Core.Path.{refl, sym, ap₂, ◌∙◌}
use mathlib.Core.List.{◌++◌}
use Prim.Native.Nat.{◌^◌}
use lib.ListN.{drop}
use Rattle.sums.proofs.Tables.{put-table}
use Rattle.response.specs.Route.{spectrum}
use Rattle.response.proofs.respond.transform_room.Goals as goal

pub returns : goal.returns
returns c =
    let v = c.args.room.now in
    let e = c.requires.1 in
    ap₂ ◌++◌ c.transform.ensures (ap₂ drop e refl)
    ∙ rw e (sym (put-table (2 ^ c.args.order) (spectrum c.args.order v) v))
