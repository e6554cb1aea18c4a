-- `records::stored::block_holds` meets its contract: slot by slot, `ReadSo`. Assumes nothing.
use mathlib.Core.Path.{◌≡◌}
use lib.ListN.{length}
use Rattle.records.proofs.Reading.{ReadSo}
use Rattle.records.proofs.stored.block_holds.Given as goal

abbrev pub invariant-loop-s : goal.invariant-loop-s
invariant-loop-s l = (length l.found ≡ length l.initial.found) × ReadSo l.c.slots l.c.periods l.period l.store l.from l.count l.s l.found
