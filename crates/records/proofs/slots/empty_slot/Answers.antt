-- `records::slots::empty_slot` meets its contract. Assumes nothing.
use mathlib.Core.Path.{ap, ◌∙◌}
use Prim.Native.Nat.{◌+◌, ◌-◌, ◌*◌}
use borrow.Rule.Slice.PartMut.{mid_of}
use lib.IntN.{pos, ◌-ℤ◌}
use Rattle.sums.specs.Lists.{at, table, put}
use Rattle.sums.proofs.Tables.{length-table, table_ext}
use Rattle.sums.proofs.Parts.{part_length, part_put, part_at}
use Rattle.records.proofs.slots.empty_slot.Goals as goal

pub returns : goal.returns
returns c =
    let n = c.args.period in
    let k = c.args.s * n in
    let store = c.args.store.now in
    let sums = c.args.sums.now in
    let zeros = table n (λ _. pos 0) in (
      part_put k n store c.requires.s_bound.2 zeros _ (length-table n (λ _. pos 0)) c.fill_front.ensures,
      c.take_out.ensures
          ∙ ap (λ v. put v sums)
          (ap (λ m. table m (λ j. at sums j -ℤ at (mid_of k (k + n - k) store) j)) (part_length k n store c.requires.s_bound.2)
          ∙ table_ext n (λ j l. ap (λ z. at sums j -ℤ z) (part_at k n store j l))),
    )
