-- `meterlog::running::run` meets its contract: the bytes at hand lie in the buffer, the offset is that of at most five bytes a turn, and the
-- program goes on where turns from the beginning lead. Assumes nothing.
use mathlib.Core.Path.{◌≡◌, ap}
use mathlib.Core.Bool.{true, false}
use native.Mathlib.Numerals.{add-one}
use native.Mathlib.Omega.{arith}
use Rattle.logprogram.specs.Program.{Place}
use Rattle.logprogram.specs.Reads.{most_turns}
use Rattle.meterlog.proofs.Steps.{offset_after, held_first, held_step, held_stopped, held_last}
use Rattle.meterlog.proofs.running.run.Goals as goal

pub loop-turn-init : goal.loop-turn-init
loop-turn-init g c = (
  record { forth = omega arith; inside = omega arith },
  omega (arith, ap (λ (p : Place). p.offset) c.first_mark.ensures),
  ap (λ (p : Place). p.going) c.first_mark.ensures,
  held_first _ c.first_mark.result c.requires.tags_value c.first_mark.ensures,
)

pub loop-turn-preserved : goal.loop-turn-preserved
loop-turn-preserved g c =
    let q = c.step-p.ensures in
    let l = c.loop-turn.invariant in
    let o : c.step-p.result.mark.going ≡ true = grind arith in (
      q.inside_2,
      omega (arith, offset_after q.stepped, l.1),
      o,
      rw add-one (held_step l.3 l.2 q.stepped o),
    )

pub returns-then-not-p-clause-ended : goal.returns-then-not-p-clause-ended
returns-then-not-p-clause-ended g c =
    let l = c.loop-turn.invariant in
    let o : c.step-p.result.mark.going ≡ false = grind arith in
    held_stopped l.3 l.2 c.step-p.ensures.stepped o

pub returns-clause-ended : goal.returns-clause-ended
returns-clause-ended g c = let z : c.loop-turn._turn ≡ most_turns = omega arith in held_last (rw z at c.loop-turn.invariant.3)
