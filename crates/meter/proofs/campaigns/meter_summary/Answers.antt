-- `meter::campaigns::meter_summary` meets its contract. Assumes nothing.
use mathlib.Core.Path.{◌≡◌, sym, ap, ◌∙◌}
use mathlib.Core.Bool.{true, false}
use mathlib.Core.List.{List}
use Prim.Native.Nat.{ℕ}
use lib.IntN.{ℤ}
use Rattle.sums.specs.Refusals.{meant}
use Rattle.records.specs.declared.Campaign.{Campaign}
use Rattle.trend.specs.declared.Levels.{Levels}
use Rattle.trend.specs.declared.Summary.{Summary}
use Rattle.trend.specs.Calls.{summary_outcome, summary_means}
use Rattle.meter.specs.Doors.{tables_short, record_of, summed_out, summary_door}
use Rattle.meter.proofs.Opening.{shut, through}
use Rattle.meter.proofs.campaigns.meter_summary.Goals as goal
use Rattle.meter.proofs.campaigns.meter_summary.Goals.{Else-tables_short, Start}

module _ (N taps C E : ℕ) (days slots periods : List ℕ) (store sums room : List ℤ) (tags : List ℕ) (stood : ℕ) (was : Levels) where
  refused : tables_short days slots periods ≡ true → (15, room, tags, stood, was) ≡ summary_door N taps C E days slots periods store sums room tags stood was
  unfolding summary_door
  refused h = shut days slots periods _ _ h

  opened : tables_short days slots periods ≡ false → {c : Campaign} {s : Summary} {room' : List ℤ} {tags' : List ℕ} {r n : ℕ} {l : Levels}
      → c ≡ record_of N taps C E days slots periods → (s, room', tags') ≡ summary_outcome c store sums room tags
      → (r, (n, l)) ≡ meant (stood, was) (summary_means s)
      → (r, room', tags', n, l) ≡ summary_door N taps C E days slots periods store sums room tags stood was
  unfolding summary_door
  opened h {s = s} {room' = room'} {tags' = tags'} e o f =
      through days slots periods _ (summed_out stood was) {o = (s, room', tags')} h (ap (λ t. (t.0, room', tags', t.1.0, t.1.1)) f) (o ∙ ap (λ c. summary_outcome c store sums room tags) e)

abbrev levels : (c : Start) → Levels
levels c = let a = c.args in record { highest = a.highest.now; lowest = a.lowest.now; peak = a.peak.now }

-- past the check
wide : (c : Else-tables_short) → tables_short c.args.days.now c.args.slots.now c.args.periods.now ≡ false
wide c = sym c.tables_short.ensures ∙ c.if-tables_short.false

pub returns-then-tables_short : goal.returns-then-tables_short
returns-then-tables_short c =
    let a = c.args in
    rw c.number.ensures (refused a.order a.taps a.capacity a.edition a.days.now a.slots.now a.periods.now a.store.now a.sums.now a.room.now a.tags.now a.stands.now (levels (goal.at.returns-then-tables_short c).Start)
    (sym c.tables_short.ensures ∙ c.if-tables_short.true))

pub returns : goal.returns
returns c =
    let a = c.args in
    opened a.order a.taps a.capacity a.edition a.days.now a.slots.now a.periods.now a.store.now a.sums.now a.room.now a.tags.now a.stands.now (levels (goal.at.returns c).Start)
    (wide (goal.at.returns c).Else-tables_short) c.read_record-c.ensures c.summary-found.ensures c.write_summary.ensures
