-- `records::stored::store_holds` meets its contract: the places before `from` hold together. Assumes nothing.
use Prim.Native.Nat.{◌≤◌}
use Rattle.records.specs.Blocks.{Block}
use Rattle.records.proofs.stored.store_holds.Given as goal

abbrev pub invariant-loop-from : goal.invariant-loop-from
invariant-loop-from l = (l.from ≤ l.period) × Block l.c.slots l.c.periods l.c.capacity l.period l.store l.sums 0 l.from
