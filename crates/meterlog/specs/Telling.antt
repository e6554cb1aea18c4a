-- What is said on standard error once the log program has stopped. Assumes nothing.
use Rattle.std.specs.Prelude.{cond, ◌&&◌, ℕ, ◌-◌, eqb, Option, Some, None}
use Rattle.logitems.specs.Phases.{may_end, goes_on}
use Rattle.logitems.specs.declared.Phase.{Phase}
use Rattle.meterlog.specs.declared.Progress.{Progress}
use Rattle.meterlog.specs.declared.Failed.{Failed}
use Rattle.meterlog.specs.declared.Failed.TheVariants.{Writing, Reading}
use Rattle.meterlog.specs.declared.Word.{Word}
use Rattle.meterlog.specs.declared.Word.TheVariants as word

-- the program stopped by itself, in this phase, with so many bytes read and not taken: after a refused start or edition, at the end of the log, or at something
-- bad
abbrev pub word_at : Phase → ℕ → Word
word_at p left = cond (goes_on p) (cond (eqb left 0 && may_end p) word.Silence word.BadLog) word.RefusedStart

-- a failed write is told where it happens, and a failed read makes the log bad
abbrev pub unless_failed : Option Failed → Word → Word
unless_failed None w = w
unless_failed (Some Writing) w = word.Silence
unless_failed (Some Reading) w = word.BadLog

abbrev pub word_for : Progress → Word
word_for p = cond p.mark.going word.Silence (unless_failed p.failed (word_at p.mark.book.phase (p.to - p.from)))
