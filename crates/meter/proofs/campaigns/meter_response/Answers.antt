-- `meter::campaigns::meter_response` meets its contract. Assumes nothing.
use mathlib.Core.Path.{◌≡◌, refl, sym, ap, ◌∙◌}
use mathlib.Core.Bool.{true, false}
use mathlib.Core.List.{List}
use Prim.Native.Nat.{ℕ}
use lib.IntN.{ℤ}
use Rattle.records.specs.declared.Campaign.{Campaign}
use Rattle.trend.specs.Calls.{response_outcome}
use Rattle.meter.specs.Doors.{tables_short, record_of, response_door}
use Rattle.meter.proofs.Opening.{shut, through}
use Rattle.meter.proofs.campaigns.meter_response.Goals as goal
use Rattle.meter.proofs.campaigns.meter_response.Goals.{Else-tables_short}

module _ (N taps C E : ℕ) (days slots periods : List ℕ) (store sums r mean room : List ℤ) (tags : List ℕ) where
  refused : tables_short days slots periods ≡ true → (15, r, mean, room, tags) ≡ response_door N taps C E days slots periods store sums r mean room tags
  unfolding response_door
  refused h = shut days slots periods _ _ h

  opened : tables_short days slots periods ≡ false → {c : Campaign} {x : ℕ × List ℤ × List ℤ × List ℤ × List ℕ}
      → c ≡ record_of N taps C E days slots periods → x ≡ response_outcome c store sums r mean room tags
      → x ≡ response_door N taps C E days slots periods store sums r mean room tags
  unfolding response_door
  opened h k o = through days slots periods _ (λ x. x) h refl (o ∙ ap (λ c. response_outcome c store sums r mean room tags) k)

-- past the check
wide : (c : Else-tables_short) → tables_short c.args.days.now c.args.slots.now c.args.periods.now ≡ false
wide c = sym c.tables_short.ensures ∙ c.if-tables_short.false

pub returns-then-tables_short : goal.returns-then-tables_short
returns-then-tables_short c =
    let a = c.args in
    rw c.number.ensures (refused a.order a.taps a.capacity a.edition a.days.now a.slots.now a.periods.now a.store.now a.sums.now a.r.now a.mean.now a.room.now a.tags.now
    (sym c.tables_short.ensures ∙ c.if-tables_short.true))

pub returns : goal.returns
returns c =
    let a = c.args in
    rw c.told.ensures (opened a.order a.taps a.capacity a.edition a.days.now a.slots.now a.periods.now a.store.now a.sums.now a.r.now a.mean.now a.room.now a.tags.now
    (wide (goal.at.returns c).Else-tables_short) c.read_record-c.ensures c.response.ensures)
