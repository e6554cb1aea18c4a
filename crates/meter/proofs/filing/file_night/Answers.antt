-- `meter::filing::file_night` meets its contract. Assumes nothing.
use mathlib.Core.Path.{◌≡◌, sym, ap, ◌∙◌}
use mathlib.Core.Bool.{true, false}
use mathlib.Core.List.{List}
use Prim.Native.Nat.{ℕ}
use lib.IntN.{ℤ}
use Rattle.sums.specs.Lists.{put}
use Rattle.sums.specs.Refusals.{meant}
use Rattle.nights.specs.declared.Night.{Night}
use Rattle.records.specs.declared.Campaign.{Campaign}
use Rattle.campaign.specs.declared.Entered.{Entered}
use Rattle.campaign.specs.Calls.{Shown}
use Rattle.campaign.specs.Calls.{file_outcome, shown_to, verdict_means}
use Rattle.meter.specs.Doors.{tables_short, record_of, entered_out, file_door}
use Rattle.meter.proofs.Opening.{shut, through}
use Rattle.meter.proofs.filing.file_night.Goals as goal
use Rattle.meter.proofs.filing.file_night.Goals.{Else-tables_short}

module _ (N taps C E : ℕ) (days slots periods : List ℕ) (store sums : List ℤ) (d : ℕ) (night : Night) (y : List ℤ) (x : Shown) (state value : ℕ) where
  refused : tables_short days slots periods ≡ true
      → (15, days, slots, periods, store, sums, state, value) ≡ file_door N taps C E days slots periods store sums d night y x state value
  unfolding file_door
  refused h = shut days slots periods _ _ h

  opened : tables_short days slots periods ≡ false → {c : Campaign} {e : Entered} {s u : List ℤ} {r q v : ℕ} {days' slots' periods' : List ℕ}
      → c ≡ record_of N taps C E days slots periods → (e, s, u) ≡ file_outcome c store sums d night y (shown_to c night y x)
      → (days' ≡ put e.campaign.days days) × (slots' ≡ put e.campaign.slots slots) × (periods' ≡ put e.campaign.periods periods)
      → (r, (q, v)) ≡ meant (state, value) (verdict_means e.entry.verdict)
      → (r, days', slots', periods', s, u, q, v) ≡ file_door N taps C E days slots periods store sums d night y x state value
  unfolding file_door
  opened h {e = e} {s = s} {u = u} k o (f, g, i) a =
      through days slots periods _ (entered_out days slots periods state value) {o = (e, s, u)} h (rw (f, g, i) (ap (λ t. (t.0, put e.campaign.days days, put e.campaign.slots slots, put e.campaign.periods periods, s, u, t.1.0, t.1.1)) a)) (o ∙ ap (λ c. file_outcome c store sums d night y (shown_to c night y x)) k)

-- past the check
wide : (c : Else-tables_short) → tables_short c.args.days.now c.args.slots.now c.args.periods.now ≡ false
wide c = sym c.tables_short.ensures ∙ c.if-tables_short.false

pub returns-then-tables_short : goal.returns-then-tables_short
returns-then-tables_short c =
    let a = c.args in
    rw c.number.ensures (refused a.order a.taps a.capacity a.edition a.days.now a.slots.now a.periods.now a.store.now a.sums.now a.day a.night a.y.now a.shown a.state.now a.value.now
    (sym c.tables_short.ensures ∙ c.if-tables_short.true))

pub returns : goal.returns
returns c =
    let a = c.args in
    opened a.order a.taps a.capacity a.edition a.days.now a.slots.now a.periods.now a.store.now a.sums.now a.day a.night a.y.now a.shown a.state.now a.value.now
    (wide (goal.at.returns c).Else-tables_short) c.read_record-c.ensures c.file_shown-entered.ensures c.write_record.ensures c.write_verdict.ensures
