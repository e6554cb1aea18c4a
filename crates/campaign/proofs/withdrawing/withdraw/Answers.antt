-- `campaign::withdrawing::withdraw` meets its contract. Assumes nothing.
use mathlib.Core.Path.{◌≡◌, refl, sym}
use mathlib.Core.List.{List}
use Prim.Native.Nat.{ℕ, ◌+◌, ◌*◌, ◌<◌}
use native.Mathlib.Omega.{arith}
use lib.IntN.{ℤ, pos, ◌-ℤ◌}
use Rattle.sums.specs.Lists.{at, table, put, put_at}
use Rattle.sums.specs.Refusals.{first}
use Rattle.sums.proofs.First.{refused_with, accepted_with}
use Rattle.refusals.specs.Causes.{number}
use Rattle.refusals.proofs.Causes.{never_0}
use Rattle.register.specs.Register.{P}
use Rattle.records.specs.Record.{withdrawn, filed}
use Rattle.campaign.specs.Calls.{slot_of_day, withdraw_checks, withdraw_outcome}
use Rattle.records.specs.declared.Campaign.{Campaign}
use Rattle.campaign.specs.Calls.{Withdrawn}
use Rattle.campaign.proofs.Passing.{withdraws, period_small, slot_fits, sums_small}
use Rattle.campaign.proofs.withdrawing.withdraw.Goals as goal
use Rattle.campaign.proofs.withdrawing.withdraw.Goals.{After-find-s}

module _ (c : Campaign) (store sums : List ℤ) (d n : ℕ) (e : n ≡ first (withdraw_checks c store sums d)) where
  refused : (n ≡ 0 → ⊥) → (record { answer = n; campaign = c }, store, sums) ≡ withdraw_outcome c store sums d
  unfolding withdraw_outcome
  refused h = sym (refused_with _ _ (withdraw_checks c store sums d) n e h)

  accepted : n ≡ 0 → (k p : ℕ) → k ≡ slot_of_day c d → p ≡ P c.order → {r : Campaign} {s u : List ℤ} → r ≡ filed c d withdrawn k 0 0
      → s ≡ put_at (k * p) (table p (λ _. pos 0)) store → u ≡ put (table p (λ j. at sums j -ℤ at store (k * p + j))) sums
      → ◌≡◌ {A = Withdrawn × List ℤ × List ℤ} (record { answer = 0; campaign = r }, s, u) (withdraw_outcome c store sums d)
  unfolding withdraw_outcome
  accepted z k p f g a b t = rw (a, b, t, f, g) (sym (accepted_with _ _ (withdraw_checks c store sums d) n e z))

-- past the checks the slot lies in the record
slot-inside : (c : After-find-s) → c.find-s.result < c.args.c.capacity
slot-inside c = let a = c.args in rw c.find-s.ensures (withdraws a.c a.store.now a.sums.now a.d (sym c.in_default.ensures)).inside

pub returns-in-Err : goal.returns-in-Err
returns-in-Err c = let a = c.args in let d = c.in-Err.refusal in refused a.c a.store.now a.sums.now a.d (number d) c.in-Err.ensures (never_0 d)

pub find-s-requires-clause-capacity_bound : goal.find-s-requires-clause-capacity_bound
find-s-requires-clause-capacity_bound c = let a = c.args in (withdraws a.c a.store.now a.sums.now a.d (sym c.in_default.ensures)).whole.filed.most

pub full_period-requires : goal.full_period-requires
full_period-requires c = let a = c.args in (withdraws a.c a.store.now a.sums.now a.d (sym c.in_default.ensures)).whole.filed.accepted.shaped.most

pub empty_slot-requires-clause-s_bound : goal.empty_slot-requires-clause-s_bound
empty_slot-requires-clause-s_bound c =
    let a = c.args in
    let r = withdraws a.c a.store.now a.sums.now a.d (sym c.in_default.ensures) in
    let k = slot-inside (goal.at.empty_slot-requires-clause-s_bound c).After-find-s in
    rw c.full_period.ensures (omega (arith, k, r.whole.filed.most), period_small r.whole, slot_fits r.whole _ k)

pub empty_slot-requires-clause-period_in_bounds : goal.empty_slot-requires-clause-period_in_bounds
empty_slot-requires-clause-period_in_bounds c =
    let a = c.args in
    let r = withdraws a.c a.store.now a.sums.now a.d (sym c.in_default.ensures) in
    rw c.full_period.ensures (r.whole.sums_long, sums_small r.whole)

pub file-requires : goal.file-requires
file-requires c =
    let a = c.args in
    let r = withdraws a.c a.store.now a.sums.now a.d (sym c.in_default.ensures) in
    (r.day.first, r.day.last, omega (arith, slot-inside (goal.at.file-requires c).After-find-s, r.whole.filed.most))

pub returns : goal.returns
returns c =
    let a = c.args in
    accepted a.c a.store.now a.sums.now a.d 0 c.in_default.ensures refl c.find-s.result c.full_period.result
    c.find-s.ensures c.full_period.ensures c.file.ensures c.empty_slot.ensures.0 c.empty_slot.ensures.1
