-- `meter::campaigns::meter_start` meets its contract. Assumes nothing.
use mathlib.Core.Path.{◌≡◌, refl, sym, ap, ◌∙◌}
use mathlib.Core.Bool.{true, false}
use mathlib.Core.List.{List, []}
use Prim.Native.Nat.{ℕ}
use lib.IntN.{ℤ}
use Rattle.sums.specs.Lists.{put}
use Rattle.sums.specs.Refusals.{first}
use Rattle.sums.proofs.First.{refused_with}
use Rattle.refusals.specs.declared.Answer.{Answer}
use Rattle.register.specs.Calls.{told, answer_of}
use Rattle.register.proofs.HowShort.{period-told}
use Rattle.records.specs.declared.Campaign.{Campaign}
use Rattle.campaign.specs.Calls.{Started}
use Rattle.campaign.specs.Calls.{start_checks, start_outcome}
use Rattle.campaign.proofs.Passing.{start_tells}
use Rattle.meter.specs.Doors.{tables_short, record_of, start_door_checks, start_door}
use Rattle.meter.proofs.Telling.{handed_on}
use Rattle.meter.proofs.Starting.{started_out, short_refused, short_some, start_opened}
use Rattle.meter.proofs.campaigns.meter_start.Goals as goal
use Rattle.meter.proofs.campaigns.meter_start.Goals.{Else-tables_short}

module _ (N taps C E : ℕ) (days slots periods : List ℕ) (store sums : List ℤ) where
  refused : {a : Answer} → tables_short days slots periods ≡ true → a ≡ answer_of N taps (first (start_checks N taps C E [] []))
      → (a.number, days, slots, periods, store, sums) ≡ start_door N taps C E days slots periods store sums
  unfolding start_door
  refused {a} h e =
      let q = ap (λ (a : Answer). a.number) e ∙ short_refused N taps C E days slots periods store sums h in
      sym (refused_with (λ n. (n, days, slots, periods, store, sums)) _ (start_door_checks N taps C E days slots periods store sums) a.number q (λ z. short_some N taps C E days slots periods store sums h (sym q ∙ z)))

  opened : tables_short days slots periods ≡ false → {c : Campaign} {e : Started} {s u : List ℤ} {days' slots' periods' : List ℕ}
      → c ≡ record_of N taps C E days slots periods → (e, s, u) ≡ start_outcome c N taps C E store sums
      → (days' ≡ put e.campaign.days days) × (slots' ≡ put e.campaign.slots slots) × (periods' ≡ put e.campaign.periods periods)
      → ((e.answer.number, days', slots', periods', s, u) ≡ start_door N taps C E days slots periods store sums) × (e.answer.period ≡ told N taps e.answer.number 0)
  opened h {c = c} {e = e} {s = s} {u = u} k o (f, g, i) = (
    rw (f, g, i) (ap (started_out days slots periods) (o ∙ ap (λ c. start_outcome c N taps C E store sums) k) ∙ sym (start_opened N taps C E days slots periods store sums h)),
    period-told N taps (ap (λ (o : Started × List ℤ × List ℤ). o.0.answer) o ∙ start_tells c N taps C E store sums),
  )

-- an outcome of the door with another number
abbrev with : ℕ → ℕ × List ℕ × List ℕ × List ℕ × List ℤ × List ℤ → ℕ × List ℕ × List ℕ × List ℕ × List ℤ × List ℤ
with n o = (n, o.1, o.2, o.3, o.4, o.5)

-- past the check
wide : (c : Else-tables_short) → tables_short c.args.days.now c.args.slots.now c.args.periods.now ≡ false
wide c = sym c.tables_short.ensures ∙ c.if-tables_short.false

pub returns-then-tables_short : goal.returns-then-tables_short
returns-then-tables_short c =
    let a = c.args in
    handed_on a.order a.taps a.period.now with refl (
      refused a.order a.taps a.capacity a.edition a.days.now a.slots.now a.periods.now a.store.now a.sums.now
          (sym c.tables_short.ensures ∙ c.if-tables_short.true) c.check_start.ensures,
      period-told a.order a.taps c.check_start.ensures,
    )
    c.write_answer.ensures

pub returns : goal.returns
returns c =
    let a = c.args in
    handed_on a.order a.taps a.period.now with refl
    (opened a.order a.taps a.capacity a.edition a.days.now a.slots.now a.periods.now a.store.now a.sums.now
    (wide (goal.at.returns c).Else-tables_short) c.read_record-c.ensures c.start-started.ensures c.write_record.ensures)
    c.write_answer-2.ensures
