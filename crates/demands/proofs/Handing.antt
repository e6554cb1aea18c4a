-- The record through the tables of a C caller: what a call hands back, written to them and read again, is the same, and they stay as long. Assumes
-- nothing.
use mathlib.Core.Path.{◌≡◌, sym, ap, ap₂, ◌∙◌}
use mathlib.Core.List.{List}
use Prim.Native.Nat.{ℕ, ◌≤◌}
use native.Mathlib.Omega.{arith}
use lib.ListN.{length, take, drop}
use lib.Seq.{length-take-le, take_at}
use Rattle.sums.specs.Lists.{put}
use Rattle.sums.proofs.Tables.{length-put}
use Rattle.records.specs.declared.Campaign.{Campaign}
use Rattle.campaign.proofs.Handed.{Handed}
use Rattle.meter.specs.Doors.{record_of}

take_put : {A : Type 0} (n : ℕ) (vs l : List A) → length vs ≡ n → take n (put vs l) ≡ vs
unfolding put
take_put n vs l e = take_at vs (drop (length vs) l) n e

abbrev campaign_of : ℕ → ℕ → ℕ → ℕ → List ℕ → List ℕ → List ℕ → Campaign
campaign_of N taps C E days slots periods = record { order = N; taps = taps; capacity = C; edition = E; days = days; slots = slots; periods = periods }

-- tables long enough
pub record Long (ds ts ps : List ℕ) : Type 0 where
  pub days : 366 ≤ length ds
  pub slots : 64 ≤ length ts
  pub periods : 64 ≤ length ps

module _ (N taps C E : ℕ) (days slots periods : List ℕ) (l : Long days slots periods) (c : Campaign) (h : Handed (record_of N taps C E days slots periods) c) where
  pub days_long : length c.days ≡ 366
  days_long = h.days ∙ length-take-le 366 days l.days

  pub slots_long : length c.slots ≡ 64
  slots_long = h.slots ∙ length-take-le 64 slots l.slots

  pub periods_long : length c.periods ≡ 64
  periods_long = h.periods ∙ length-take-le 64 periods l.periods

  -- written to the tables and read again
  pub back_in : record_of N taps C E (put c.days days) (put c.slots slots) (put c.periods periods) ≡ c
  back_in =
      ap₂ (λ d t. campaign_of N taps C E d t (take 64 (put c.periods periods))) (take_put 366 c.days days days_long) (take_put 64 c.slots slots slots_long)
      ∙ ap (campaign_of N taps C E c.days c.slots) (take_put 64 c.periods periods periods_long)
      ∙ ap (λ n. campaign_of n taps C E c.days c.slots c.periods) (sym h.order)
      ∙ ap (λ t. campaign_of c.order t C E c.days c.slots c.periods) (sym h.taps)
      ∙ ap (λ s. campaign_of c.order c.taps s E c.days c.slots c.periods) (sym h.capacity)
      ∙ ap (λ e. campaign_of c.order c.taps c.capacity e c.days c.slots c.periods) (sym h.edition)

  pub still_long : Long (put c.days days) (put c.slots slots) (put c.periods periods)
  still_long =
      record {
        days = omega (arith, l.days, length-put c.days days (omega (arith, days_long, l.days)));
        slots = omega (arith, l.slots, length-put c.slots slots (omega (arith, slots_long, l.slots)));
        periods = omega (arith, l.periods, length-put c.periods periods (omega (arith, periods_long, l.periods)));
      }
