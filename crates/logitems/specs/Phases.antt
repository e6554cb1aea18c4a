-- Document 01, "The log program", and document 02, requests 1 and 9: where the log stands between items, which kinds may stand there, whether the input may end there, and where each
-- item leads. Assumes nothing.
use Rattle.std.specs.Prelude.{Bool, true, false, ◌&&◌, ◌||◌, ℕ, ◌+◌, eqb, ltb}
use Rattle.sums.specs.Refusals.{answered}
use Rattle.nights.specs.Nights.{night_length}
use Rattle.nights.specs.declared.Night.{Night}
use Rattle.logitems.specs.Kinds.{kind_start, kind_open, kind_sample, kind_enter, kind_withdraw, kind_ask, kind_capture, kind_edition}
use Rattle.logitems.specs.declared.Phase.{Phase}
use Rattle.logitems.specs.declared.Phase.TheVariants as phase

-- ---- where a kind may stand

-- open, of one period or of several, withdraw and ask only outside a day; an edition only directly after the start
abbrev pub stands_outside : Bool → ℕ → Bool
stands_outside begun kind = eqb kind kind_open || eqb kind kind_withdraw || eqb kind kind_ask || eqb kind kind_capture || begun && eqb kind kind_edition

-- samples and enter only in an open day, of n samples so far, and no sample beyond its limit
abbrev pub stands_inside : ℕ → ℕ → ℕ → Bool
stands_inside kind n limit = eqb kind kind_enter || eqb kind kind_sample && ltb n limit

-- the first item is a start and no other is
abbrev pub may_stand : Phase → ℕ → ℕ → Bool
may_stand phase.Unbegun P kind = eqb kind kind_start
may_stand (phase.Between begun) P kind = stands_outside begun kind
may_stand (phase.Open day night n) P kind = stands_inside kind n (night_length P night)
may_stand phase.Stopped P kind = false

-- ---- where the log ends

-- the input may end outside a day, once begun
abbrev pub may_end : Phase → Bool
may_end phase.Unbegun = false
may_end (phase.Between begun) = true
may_end (phase.Open day night n) = false
may_end phase.Stopped = true

-- a refused start stops, and so does a refused edition
abbrev pub goes_on : Phase → Bool
goes_on phase.Unbegun = true
goes_on (phase.Between begun) = true
goes_on (phase.Open day night n) = true
goes_on phase.Stopped = false

-- ---- where each item leads

abbrev pub first_phase : Phase
first_phase = phase.Unbegun

-- outside a day, and not directly after the start: where withdraw and ask lead
abbrev pub after_other : Phase
after_other = phase.Between false

-- a start and an edition, by the answer: a refused one stops
abbrev pub after_answer : Bool → ℕ → Phase
after_answer begun answer = answered answer (λ _. phase.Stopped) (phase.Between begun)

abbrev pub after_start : ℕ → Phase
after_start answer = after_answer true answer

abbrev pub after_edition : ℕ → Phase
after_edition answer = after_answer false answer

-- a day is opened, with no sample
abbrev pub after_open : ℕ → Night → Phase
after_open day night = phase.Open day night 0

-- one sample more
abbrev pub after_sample : ℕ → Night → ℕ → Phase
after_sample day night n = phase.Open day night (n + 1)

-- enter closes the day
abbrev pub after_enter : Phase
after_enter = after_other
