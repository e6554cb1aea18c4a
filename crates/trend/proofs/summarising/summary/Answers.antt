-- `trend::summarising::summary` meets its contract. Assumes nothing.
use mathlib.Core.Path.{◌≡◌, refl, sym, ap, ap₂, ◌∙◌}
use mathlib.Core.Bool.{cond}
use mathlib.Core.List.{List}
use Prim.Native.Nat.{ℕ, ◌+◌}
use native.Mathlib.Omega.{arith}
use borrow.Author.Tests.{eq-eqb, ne_eqb}
use lib.Dec.{eqb}
use lib.IntN.{ℤ, nat_abs}
use Rattle.sums.specs.Refusals.{first}
use Rattle.sums.proofs.First.{refused_with, accepted_with}
use Rattle.refusals.specs.Causes.{number}
use Rattle.refusals.proofs.Causes.{never_0}
use Rattle.register.specs.Register.{P}
use Rattle.samples.specs.Samples.{cleared_wide, cleared_tags}
use Rattle.records.specs.Record.{standing, days_in}
use Rattle.records.specs.declared.Campaign.{Campaign}
use Rattle.records.proofs.Totals.{sum_small}
use Rattle.trend.specs.Calls.{summary_checks, worked, divisor, level, levels_of, extremes_of, summary_outcome}
use Rattle.trend.specs.declared.Extremes.{Extremes}
use Rattle.trend.specs.declared.Levels.{Levels}
use Rattle.trend.specs.declared.Summary.{Summary}
use Rattle.trend.specs.declared.Summary.TheVariants as summary
use Rattle.trend.proofs.Bounds.{divisor-some, divisor_small, extremes_small}
use Rattle.trend.proofs.Passing.{Measures, measures}
use Rattle.trend.proofs.summarising.summary.Goals as goal
use Rattle.trend.proofs.summarising.summary.Goals.{After-days_in, After-measure-extremes, Else-days_in-eq0, In_default}

module _ (c : Campaign) (store sums room : List ℤ) (tags : List ℕ) (n : ℕ) (e : n ≡ first (summary_checks c store sums room tags)) where
  -- what is handed back where a day stands, and where none does
  made : Summary × List ℤ × List ℕ
  made = (summary.Measured (levels_of (P c.order) (worked c sums) (divisor c)), cleared_wide (P c.order + 1) room, cleared_tags (P c.order) tags)

  refused : (n ≡ 0 → ⊥) → (summary.Refused n, room, tags) ≡ summary_outcome c store sums room tags
  unfolding summary_outcome
  refused h = sym (refused_with _ _ (summary_checks c store sums room tags) n e h)

  passed : n ≡ 0 → cond (eqb (days_in c standing) 0) (summary.Nothing, room, tags) made ≡ summary_outcome c store sums room tags
  unfolding summary_outcome made
  passed z = sym (accepted_with _ _ (summary_checks c store sums room tags) n e z)

  nothing : n ≡ 0 → days_in c standing ≡ 0 → (summary.Nothing, room, tags) ≡ summary_outcome c store sums room tags
  nothing z d = sym (ap (λ b. cond b (summary.Nothing, room, tags) made) (eq-eqb (days_in c standing) 0 d)) ∙ passed z

  measured : n ≡ 0 → (days_in c standing ≡ 0 → ⊥) → {l : Levels} {v : List ℤ} {w : List ℕ} → l ≡ levels_of (P c.order) (worked c sums) (divisor c)
      → v ≡ cleared_wide (P c.order + 1) room → w ≡ cleared_tags (P c.order) tags
      → ◌≡◌ {A = Summary × List ℤ × List ℕ} (summary.Measured l, v, w) (summary_outcome c store sums room tags)
  unfolding made
  measured z d p q r =
      rw (p, q, r) (sym (ap (λ b. cond b (summary.Nothing, room, tags) made) (ne_eqb (days_in c standing) 0 d)) ∙ passed z)

-- each extreme over the same number
abbrev over : Extremes → ℕ → Levels
over e d = record { highest = level e.highest d; lowest = level e.lowest d; peak = level e.peak d }

-- past the checks
ready : (c : In_default) → let a = c.args in Measures a.c a.store.now a.sums.now a.room.now a.tags.now
ready c = let a = c.args in measures a.c a.store.now a.sums.now a.room.now a.tags.now (sym c.in_default.ensures)

standing-are : (c : After-days_in) → c.days_in.result ≡ days_in c.args.c standing
standing-are c = c.days_in.ensures

-- what was measured is of the record's order and taps
worked-by : (c : After-measure-extremes) → let a = c.args in
    (c.measure-extremes.result ≡ extremes_of (P a.c.order) (worked a.c a.sums.now))
    × (c.measure-extremes.new.room ≡ cleared_wide (P a.c.order + 1) a.room.now)
    × (c.measure-extremes.new.tags ≡ cleared_tags (P a.c.order) a.tags.now)
worked-by c = rw (c.new.ensures.order, c.new.ensures.taps) at c.measure-extremes.ensures

some : (c : Else-days_in-eq0) → days_in c.args.c standing ≡ 0 → ⊥
some c z = c.if-days_in-eq0.false (c.days_in.ensures ∙ z)

pub returns-in-Err : goal.returns-in-Err
returns-in-Err c =
    let a = c.args in
    let d = c.in-Err.refusal in
    ap (λ n. (summary.Refused n, a.room.now, a.tags.now)) c.number.ensures
    ∙ refused a.c a.store.now a.sums.now a.room.now a.tags.now (number d) c.in-Err.ensures (never_0 d)

pub returns-then-days_in-eq0 : goal.returns-then-days_in-eq0
returns-then-days_in-eq0 c =
    let a = c.args in
    nothing a.c a.store.now a.sums.now a.room.now a.tags.now 0 c.in_default.ensures refl (sym (standing-are (goal.at.returns-then-days_in-eq0 c).After-days_in) ∙ c.if-days_in-eq0.true)

pub divisor_of-divisor-requires : goal.divisor_of-divisor-requires
divisor_of-divisor-requires c =
    let f = (ready (goal.at.divisor_of-divisor-requires c).In_default).whole.filed in
    (f.accepted.shaped.most, f.most, divisor_small _ f)

pub returns : goal.returns
returns c =
    let a = c.args in
    let m = worked-by (goal.at.returns c).After-measure-extremes in
    measured a.c a.store.now a.sums.now a.room.now a.tags.now 0 c.in_default.ensures refl (some (goal.at.returns c).Else-days_in-eq0)
    (c.levels_of.ensures ∙ ap₂ over m.0 c.divisor_of-divisor.ensures) m.1 m.2

pub new-requires : goal.new-requires
new-requires c = (ready (goal.at.new-requires c).In_default).whole.filed.accepted

pub measure-extremes-requires-clause-y_value : goal.measure-extremes-requires-clause-y_value
measure-extremes-requires-clause-y_value c =
    let a = c.args in
    let r = ready (goal.at.measure-extremes-requires-clause-y_value c).In_default in rw c.new.ensures.order (sum_small a.c a.store.now a.sums.now r.whole)

pub measure-extremes-requires-clause-register_in_bounds : goal.measure-extremes-requires-clause-register_in_bounds
measure-extremes-requires-clause-register_in_bounds c =
    let a = c.args in
    let r = ready (goal.at.measure-extremes-requires-clause-register_in_bounds c).In_default in rw c.new.ensures.order (r.whole.sums_long, r.room_long, r.tags_long)

pub levels_of-requires-clause-highest_bound : goal.levels_of-requires-clause-highest_bound
levels_of-requires-clause-highest_bound c =
    let a = c.args in
    let r = ready (goal.at.levels_of-requires-clause-highest_bound c).In_default in
    let s = extremes_small a.c a.store.now a.sums.now r.whole in
    let e = (worked-by (goal.at.levels_of-requires-clause-highest_bound c).After-measure-extremes).0 in ((
      omega (arith, ap (λ x. nat_abs x.highest) e, s.0),
      omega (arith, ap (λ x. nat_abs x.lowest) e, s.1),
      omega (arith, ap (λ x. nat_abs x.peak) e, s.2),
    ))

pub levels_of-requires-clause-d_nonzero : goal.levels_of-requires-clause-d_nonzero
levels_of-requires-clause-d_nonzero c =
    let a = c.args in
    let r = ready (goal.at.levels_of-requires-clause-d_nonzero c).In_default in
    ((omega (arith, c.divisor_of-divisor.ensures, divisor-some a.c r.whole.filed (some (goal.at.levels_of-requires-clause-d_nonzero c).Else-days_in-eq0)), omega (arith, c.divisor_of-divisor.ensures, divisor_small a.c r.whole.filed)))
