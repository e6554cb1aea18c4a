-- `meter::campaigns::meter_counts` meets its contract. Assumes nothing.
use mathlib.Core.Path.{◌≡◌, sym, ap, ◌∙◌}
use mathlib.Core.Bool.{true, false}
use mathlib.Core.List.{List}
use Prim.Native.Nat.{ℕ}
use lib.IntN.{ℤ}
use Rattle.std.specs.Prelude.{Result}
use Rattle.sums.specs.Refusals.{meant}
use Rattle.records.specs.declared.Campaign.{Campaign}
use Rattle.trend.specs.declared.Tally.{Tally}
use Rattle.refusals.specs.Causes.{means}
use Rattle.trend.specs.Calls.{counts_outcome}
use Rattle.meter.specs.Doors.{tables_short, record_of, counted_out, counts_door}
use Rattle.meter.proofs.Opening.{shut, through}
use Rattle.meter.proofs.campaigns.meter_counts.Goals as goal
use Rattle.meter.proofs.campaigns.meter_counts.Goals.{Else-tables_short, Start}

module _ (N taps C E : ℕ) (days slots periods : List ℕ) (store sums : List ℤ) (was : Tally) where
  refused : tables_short days slots periods ≡ true → (15, was) ≡ counts_door N taps C E days slots periods store sums was
  unfolding counts_door
  refused h = shut days slots periods _ _ h

  opened : tables_short days slots periods ≡ false → {c : Campaign} {k : Result Tally ℕ} {r : ℕ} {t : Tally}
      → c ≡ record_of N taps C E days slots periods → k ≡ counts_outcome c store sums → (r, t) ≡ meant was (means k)
      → (r, t) ≡ counts_door N taps C E days slots periods store sums was
  unfolding counts_door
  opened h {k = k} e o f = through days slots periods _ (counted_out was) {o = k} h f (o ∙ ap (λ c. counts_outcome c store sums) e)

abbrev tally : (c : Start) → Tally
tally c =
    let a = c.args in
    record { unseen = a.unseen.now; standing = a.standing.now; overloaded = a.overloaded.now; dead = a.dead.now; withdrawn = a.withdrawn.now }

-- past the check
wide : (c : Else-tables_short) → tables_short c.args.days.now c.args.slots.now c.args.periods.now ≡ false
wide c = sym c.tables_short.ensures ∙ c.if-tables_short.false

pub returns-then-tables_short : goal.returns-then-tables_short
returns-then-tables_short c =
    let a = c.args in
    rw c.number.ensures (refused a.order a.taps a.capacity a.edition a.days.now a.slots.now a.periods.now a.store.now a.sums.now (tally (goal.at.returns-then-tables_short c).Start)
    (sym c.tables_short.ensures ∙ c.if-tables_short.true))

pub returns : goal.returns
returns c =
    let a = c.args in
    opened a.order a.taps a.capacity a.edition a.days.now a.slots.now a.periods.now a.store.now a.sums.now (tally (goal.at.returns c).Start)
    (wide (goal.at.returns c).Else-tables_short) c.read_record-c.ensures c.counts-counted.ensures c.write_counts.ensures
