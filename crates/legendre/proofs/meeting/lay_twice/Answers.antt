-- `legendre::meeting::lay_twice` meets its contract. Assumes nothing.
use mathlib.Core.Path.{ap, ◌∙◌}
use Prim.Native.Nat.{◌+◌, ◌≤◌}
use native.Mathlib.Omega.{arith}
use lib.ListN.{length}
use Rattle.sums.specs.Lists.{at, table, put_at}
use Rattle.sums.proofs.Parts.{part_put}
use Rattle.sums.proofs.Tables.{length-table, length-put}
use Rattle.legendre.proofs.meeting.lay_twice.Goals as goal
use Rattle.legendre.proofs.meeting.lay_twice.Goals.{After-copy_in}

-- there is room behind the first copy
room : (c : After-copy_in) → let n = length c.args.z.now in n + n ≤ length c.copy_in.new.row
room c =
    let a = c.args in
    let n = length a.z.now in
    let long = ap length c.copy_in.ensures ∙ length-put (table n (at a.z.now)) a.twice.now (omega (arith, length-table n (at a.z.now), c.requires.1)) in
    omega (arith, long, c.requires.1)

pub returns : goal.returns
returns c =
    let z = c.args.z.now in
    let n = length z in
    part_put n n c.copy_in.new.row (room (goal.at.returns c).After-copy_in) (table n (at z)) c.copy_in-2.new.row (length-table n (at z)) c.copy_in-2.ensures
    ∙ ap (put_at n (table n (at z))) c.copy_in.ensures
