-- Document 01, "The campaign", and document 02, requests 1 and 9: the record of a campaign, and when it holds together with the store and the sums that the caller lends.
-- Assumes nothing.
use Rattle.std.specs.Prelude.{List, Bool, cond, not, ◌&&◌, ◌||◌, ℕ, ◌+◌, ◌-◌, ◌*◌, eqb, ltb, leb, ℤ, pos, length, get_or, set, replicate}
use Rattle.sums.specs.Sum.{sum, total}
use Rattle.sums.specs.Lists.{at, every, many}
use Rattle.sums.specs.Equal.{eq_z}
use Rattle.samples.specs.Samples.{within}
use Rattle.register.specs.Register.{P}
use Rattle.register.specs.Calls.{taps_answer}
use Rattle.rounding.specs.Rounding.{is_edition}
use Rattle.records.specs.declared.Campaign.{Campaign}

-- ---- a day is unseen, standing, overloaded, dead or withdrawn

abbrev pub unseen : ℕ
unseen = 0

abbrev pub standing : ℕ
standing = 1

abbrev pub overloaded : ℕ
overloaded = 2

abbrev pub dead : ℕ
dead = 3

abbrev pub withdrawn : ℕ
withdrawn = 4

-- the state of day d, 1 to 366
abbrev pub state : Campaign → ℕ → ℕ
state c d = get_or c.days (d - 1) unseen

abbrev pub stands : Campaign → ℕ → Bool
stands c d = eqb (state c d) standing

-- how many days are in a state
abbrev pub days_in : Campaign → ℕ → ℕ
days_in c q = many 366 (λ i. eqb (state c (i + 1)) q)

-- ---- slots

-- the day in slot s, 0 where it is free
abbrev pub slot : Campaign → ℕ → ℕ
slot c s = get_or c.slots s 0

abbrev pub free : Campaign → ℕ → Bool
free c s = eqb (slot c s) 0

-- how many periods its day's night had, 0 where it is free; and those of all days standing
abbrev pub periods : Campaign → ℕ → ℕ
periods c s = get_or c.periods s 0

abbrev pub periods_standing : Campaign → ℕ
periods_standing c = total c.capacity (periods c)

-- where slot s lies in the store, and its sample at place j
abbrev pub base : Campaign → ℕ → ℕ
base c s = s * P c.order

abbrev pub sample : Campaign → List ℤ → ℕ → ℕ → ℤ
sample c store s j = at store (base c s + j)

-- the total of the used slots at place j
abbrev pub used_total : Campaign → List ℤ → ℕ → ℤ
used_total c store j = sum c.capacity (λ s. cond (free c s) (pos 0) (sample c store s j))

-- ---- the record anew, and refiled

-- every day unseen, every slot free
abbrev pub fresh : ℕ → ℕ → ℕ → ℕ → Campaign
fresh N taps C E =
    record {
      order = N;
      taps = taps;
      capacity = C;
      edition = E;
      days = replicate 366 unseen;
      slots = replicate 64 0;
      periods = replicate 64 0;
    }

-- day d in the state q
abbrev pub marked : Campaign → ℕ → ℕ → Campaign
marked c d q =
    record {
      order = c.order;
      taps = c.taps;
      capacity = c.capacity;
      edition = c.edition;
      days = set c.days (d - 1) q;
      slots = c.slots;
      periods = c.periods;
    }

-- and slot s with the day t, of m periods
abbrev pub filed : Campaign → ℕ → ℕ → ℕ → ℕ → ℕ → Campaign
filed c d q s t m =
    record {
      order = c.order;
      taps = c.taps;
      capacity = c.capacity;
      edition = c.edition;
      days = set c.days (d - 1) q;
      slots = set c.slots s t;
      periods = set c.periods s m;
    }

-- ---- a record holds together when

-- taps are accepted for the order
abbrev pub taps_hold : Campaign → Bool
taps_hold c = eqb (taps_answer c.order c.taps) 0

-- C is in range
abbrev pub slots_hold : Campaign → Bool
slots_hold c = leb 1 c.capacity && leb c.capacity 64

-- the edition is 1 or 2
abbrev pub edition_holds : Campaign → Bool
edition_holds c = is_edition c.edition

-- every day state is one of the five
abbrev pub states_hold : Campaign → Bool
states_hold c = every 366 (λ i. leb (state c (i + 1)) withdrawn)

-- slots past C are free
abbrev pub past_free : Campaign → Bool
past_free c = every 64 (λ s. ltb s c.capacity || free c s)

-- the lent store and sums are long enough
abbrev pub room_holds : Campaign → List ℤ → List ℤ → Bool
room_holds c store sums = leb (c.capacity * P c.order) (length store) && leb (P c.order) (length sums)

-- each used slot names a standing day
abbrev pub slots_stand : Campaign → Bool
slots_stand c = every c.capacity (λ s. free c s || (leb (slot c s) 366 && stands c (slot c s)))

-- each standing day has exactly one slot
abbrev pub one_slot : Campaign → Bool
one_slot c = every 366 (λ i. not (stands c (i + 1)) || eqb (many c.capacity (λ s. eqb (slot c s) (i + 1))) 1)

-- a used slot has 1 to 16 periods, every other of the 64 none
abbrev pub periods_hold : Campaign → Bool
periods_hold c = every 64 (λ s. cond (free c s) (eqb (periods c s) 0) (leb 1 (periods c s) && leb (periods c s) 16))

-- used slots hold what so many samples strictly between the rails may add up to
abbrev pub used_within : Campaign → List ℤ → Bool
used_within c store = every c.capacity (λ s. free c s || every (P c.order) (λ j. within (periods c s) (sample c store s j)))

-- free slots hold zeros
abbrev pub free_zero : Campaign → List ℤ → Bool
free_zero c store = every c.capacity (λ s. not (free c s) || every (P c.order) (λ j. eq_z (sample c store s j) (pos 0)))

-- each sum is the total of the used slots at its place
abbrev pub sums_hold : Campaign → List ℤ → List ℤ → Bool
sums_hold c store sums = every (P c.order) (λ j. eq_z (at sums j) (used_total c store j))

unfoldable pub together : Campaign → List ℤ → List ℤ → Bool
together c store sums =
    taps_hold c
    && slots_hold c
    && edition_holds c
    && states_hold c
    && past_free c
    && room_holds c store sums
    && slots_stand c
    && one_slot c
    && periods_hold c
    && used_within c store
    && free_zero c store
    && sums_hold c store sums

-- 15: record does not hold together
abbrev pub apart : Campaign → List ℤ → List ℤ → Bool
apart c store sums = not (together c store sums)
