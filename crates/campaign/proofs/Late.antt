-- Document 02, request 8: an entry of a night that starts late answers the same number, and accepted it gives the day the same state. Assumes nothing.
use mathlib.Core.Path.{◌≡◌, refl, sym, ap, ◌∙◌}
use mathlib.Core.Bool.{◌&&◌}
use mathlib.Core.List.{List, [], ◌∷◌}
use Prim.Native.Nat.{ℕ}
use lib.Dec.{eqb}
use lib.IntN.{ℤ}
use lib.ListN.{length}
use Rattle.sums.specs.Refusals.{first}
use Rattle.sums.specs.Turned.{late}
use Rattle.sums.proofs.First.{Passed, passes}
use Rattle.register.specs.Register.{P}
use Rattle.finding.specs.Finding.{finding}
use Rattle.nights.specs.Nights.{night_length}
use Rattle.nights.specs.declared.Night.{Night}
use Rattle.judging.proofs.Late.{as_long, first-late, found_in_late}
use Rattle.records.specs.Record.{standing, stands, days_in}
use Rattle.records.specs.declared.Campaign.{Campaign}
use Rattle.records.proofs.Refiling.{Day}
use Rattle.campaign.specs.Calls.{day_checks, settled_of, full_checks, keeps, state_of, enter_all, enter_outcome, verdict_number}
use Rattle.campaign.proofs.EntryCases.{entry_first}
use Rattle.campaign.proofs.Passing.{in_day}

module _ (c : Campaign) (store sums : List ℤ) (day : ℕ) (night : Night) where
  abbrev number : List ℤ → ℕ
  number z = verdict_number (enter_outcome c store sums day night z).0.entry.verdict

  -- an accepted night has a day of the year, and is as long as it must be
  module _ (y : List ℤ) (e : number y ≡ 0) where
    passed : Passed (enter_all c store sums day night y)
    passed = passes (enter_all c store sums day night y) tt (sym (entry_first c store sums day night y) ∙ e)

    pub entered_day : Day day
    entered_day = in_day day passed.1.0

    pub entered_long : length y ≡ night_length (P c.order) night
    entered_long = as_long c.order night y passed.1.1.1.0

  module _ (d : ℕ) (y : List ℤ) where
    -- the recording that starts d places late
    abbrev behind_time : List ℤ
    behind_time = late (P c.order) d y

    pub entry-late : number behind_time ≡ number y
    entry-late =
        entry_first c store sums day night behind_time
        ∙ first-late c.order d night y (day_checks c store sums day) ((11, stands c day) ∷ full_checks c night behind_time) ((11, stands c day) ∷ full_checks c night y)
        (λ long. ap (λ b. first ((11, stands c day) ∷ (12, b && eqb (days_in c standing) c.capacity) ∷ []))
        (found_in_late c.order d night y keeps (λ p q. refl) long))
        ∙ sym (entry_first c store sums day night y)

    pub state-late : number y ≡ 0 → state_of (finding (settled_of c night behind_time)) ≡ state_of (finding (settled_of c night y))
    state-late e = found_in_late c.order d night y state_of (λ p q. refl) (entered_long y e)
