-- `meter::tables::write_record` meets its contract: each table is the record's own over the lent one's front. Assumes nothing.
use Rattle.std.proofs.Common.{arith}
use lib.Seq.{length-take-le}
use Rattle.meter.proofs.Copying.{copied}
use Rattle.meter.proofs.tables.write_record.Goals as goal

pub copy_from_slice-requires : goal.copy_from_slice-requires
copy_from_slice-requires c = omega (arith, length-take-le 366 c.args.days.now c.requires.0)

pub copy_from_slice-requires-2 : goal.copy_from_slice-requires-2
copy_from_slice-requires-2 c = omega (arith, length-take-le 64 c.args.slots.now c.requires.1)

pub copy_from_slice-requires-3 : goal.copy_from_slice-requires-3
copy_from_slice-requires-3 c = omega (arith, length-take-le 64 c.args.periods.now c.requires.2)

pub returns : goal.returns
returns c =
    let a = c.args in (
      copied 366 a.c.days a.days.now (omega arith) c.copy_from_slice.ensures.after,
      copied 64 a.c.slots a.slots.now (omega arith) c.copy_from_slice-2.ensures.after,
      copied 64 a.c.periods a.periods.now (omega arith) c.copy_from_slice-3.ensures.after,
    )
