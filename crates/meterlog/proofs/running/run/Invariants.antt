-- `meterlog::running::run` meets its contract: the bytes at hand lie in the buffer, the offset is that of at most five bytes a turn, and the
-- program goes on where turns from the beginning lead. Assumes nothing.
use mathlib.Core.Path.{◌≡◌}
use mathlib.Core.Bool.{true}
use Prim.Native.Nat.{◌*◌, ◌≤◌}
use Rattle.logeffects.specs.Book.{memory}
use Rattle.meterlog.specs.Buffer.{midway, Inside}
use Rattle.meterlog.proofs.Steps.{Held}
use Rattle.meterlog.proofs.running.run.Given as goal

abbrev pub invariant-loop-turn : goal.invariant-loop-turn
invariant-loop-turn g l = Inside l.p l.bytes × (l.p.mark.offset ≤ 5 * l._turn) × (l.p.mark.going ≡ true)
    × Held l._turn (midway l.p l.bytes (memory l.store l.sums l.recording l.r l.mean l.room l.tags)) l.p.failed
