-- `meter::campaigns::meter_withdraw` meets its contract. Assumes nothing.
use mathlib.Core.Path.{◌≡◌, sym, ap, ◌∙◌}
use mathlib.Core.Bool.{true, false}
use mathlib.Core.List.{List}
use Prim.Native.Nat.{ℕ}
use lib.IntN.{ℤ}
use Rattle.sums.specs.Lists.{put}
use Rattle.records.specs.declared.Campaign.{Campaign}
use Rattle.campaign.specs.Calls.{Withdrawn}
use Rattle.campaign.specs.Calls.{withdraw_outcome}
use Rattle.meter.specs.Doors.{tables_short, record_of, withdrawn_out, withdraw_door}
use Rattle.meter.proofs.Opening.{shut, through}
use Rattle.meter.proofs.campaigns.meter_withdraw.Goals as goal
use Rattle.meter.proofs.campaigns.meter_withdraw.Goals.{Else-tables_short}

module _ (N taps C E : ℕ) (days slots periods : List ℕ) (store sums : List ℤ) (d : ℕ) where
  refused : tables_short days slots periods ≡ true → (15, days, slots, periods, store, sums) ≡ withdraw_door N taps C E days slots periods store sums d
  unfolding withdraw_door
  refused h = shut days slots periods _ _ h

  opened : tables_short days slots periods ≡ false → {c : Campaign} {e : Withdrawn} {s u : List ℤ} {days' slots' periods' : List ℕ}
      → c ≡ record_of N taps C E days slots periods → (e, s, u) ≡ withdraw_outcome c store sums d
      → (days' ≡ put e.campaign.days days) × (slots' ≡ put e.campaign.slots slots) × (periods' ≡ put e.campaign.periods periods)
      → (e.answer, days', slots', periods', s, u) ≡ withdraw_door N taps C E days slots periods store sums d
  unfolding withdraw_door
  opened h {e = e} {s = s} {u = u} k o (f, g, i) =
      through days slots periods _ (withdrawn_out days slots periods) {o = (e, s, u)} h (rw (f, g, i)) (o ∙ ap (λ c. withdraw_outcome c store sums d) k)

-- past the check
wide : (c : Else-tables_short) → tables_short c.args.days.now c.args.slots.now c.args.periods.now ≡ false
wide c = sym c.tables_short.ensures ∙ c.if-tables_short.false

pub returns-then-tables_short : goal.returns-then-tables_short
returns-then-tables_short c =
    let a = c.args in
    rw c.number.ensures (refused a.order a.taps a.capacity a.edition a.days.now a.slots.now a.periods.now a.store.now a.sums.now a.day
    (sym c.tables_short.ensures ∙ c.if-tables_short.true))

pub returns : goal.returns
returns c =
    let a = c.args in
    rw c.told.ensures (opened a.order a.taps a.capacity a.edition a.days.now a.slots.now a.periods.now a.store.now a.sums.now a.day
    (wide (goal.at.returns c).Else-tables_short) c.read_record-c.ensures c.withdraw-withdrawn.ensures c.write_record.ensures)
