-- `logprogram::turning::take_item` meets its contract: at most 511 lines follow, and nothing overflows. Assumes nothing.
use mathlib.Core.Path.{ap}
use Prim.Native.Nat.{◌≤◌}
use native.Mathlib.Omega.{arith}
use Rattle.logeffects.specs.Book.{Memory, memory}
use Rattle.logeffects.specs.declared.Applied.{Applied}
use Rattle.logeffects.proofs.Rows.{rows_few}
use Rattle.logprogram.proofs.turning.take_item.Goals as goal
use Rattle.logprogram.proofs.turning.take_item.Goals.{After-apply-done}

few : (c : After-apply-done) → c.apply-done.result.rows ≤ 511
few c =
    let s = c.args in
    rw (ap (λ (t : Applied × Memory). t.0.rows) c.apply-done.ensures)
    (rows_few s.mark.book s.item (memory s.store.now s.sums.now s.recording.now s.r.now s.mean.now s.room.now s.tags.now))

pub write_lines-length-requires : goal.write_lines-length-requires
write_lines-length-requires c =
    let rows = few (goal.at.write_lines-length-requires c).After-apply-done in
    let same = c.apply-done.auto in
    (omega (arith, rows, c.requires.size_bound, same.r), omega (arith, rows, c.requires.size_bound, same.mean), omega (arith, c.requires.size_bound))
