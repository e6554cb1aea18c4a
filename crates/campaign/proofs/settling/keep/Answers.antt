-- `campaign::settling::keep` meets its contract. Assumes nothing.
use mathlib.Core.Path.{◌≡◌, ap, ◌∙◌}
use Prim.Native.Nat.{◌-◌, ◌*◌, ◌<◌}
use native.Mathlib.Omega.{arith}
use lib.ListN.{length, take, drop}
use borrow.Author.Rules.{part_to_end}
use Rattle.nights.specs.Nights.{lead}
use Rattle.register.specs.Register.{P}
use Rattle.records.specs.Record.{standing, days_in}
use Rattle.campaign.specs.Calls.{settled_of}
use Rattle.judging.proofs.Heard.{judged_long, judged_small}
use Rattle.campaign.proofs.Passing.{Enters, enters, period_small, slot_fits, sums_small, lowest-free}
use Rattle.campaign.proofs.settling.keep.Goals as goal
use Rattle.campaign.proofs.settling.keep.Goals.{After-days_in, After-find-s, After-periods_of-m, After-run_in-from, Else-days_in-c, Start}

ready : (c : Start) → let a = c.args in Enters a.c a.store.now a.sums.now a.d a.night a.y.now
ready c = let a = c.args in enters a.c a.store.now a.sums.now a.d a.night a.y.now c.requires

standing-are : (c : After-days_in) → c.days_in.result ≡ days_in c.args.c standing
standing-are c = c.days_in.ensures

few : (c : Else-days_in-c) → let r = c.args.c in days_in r standing ≡ r.capacity → ⊥
few c e = c.if-days_in-c.false (standing-are c.before ∙ e)

slot-inside : (c : After-find-s) → c.find-s.result < c.args.c.capacity
slot-inside c = rw c.find-s.ensures (lowest-free _ (ready c.before.before.before.before.before.before).whole.filed (few c.before.before.before)).0

-- the night's numbers, as the code has them
run-in-is : (c : After-run_in-from) → let a = c.args in c.run_in-from.result ≡ lead a.night * P a.c.order
run-in-is c = c.run_in-from.ensures ∙ ap (λ n. lead c.args.night * n) c.full_period-period.ensures

-- what is lent are the samples after the run_in
judged-is : (c : After-periods_of-m) → let a = c.args in let k = c.run_in-from.result in
    take (length a.y.now - k) (drop k a.y.now) ≡ settled_of a.c a.night a.y.now
judged-is c =
    let y = c.args.y.now in
    part_to_end y c.run_in-from.result ∙ ap (λ k. drop k y) (run-in-is c.before)

pub full_period-period-requires : goal.full_period-period-requires
full_period-period-requires c = (ready (goal.at.full_period-period-requires c).Start).whole.filed.accepted.shaped.most

pub run_in-from-requires : goal.run_in-from-requires
run_in-from-requires c = omega (arith, c.full_period-period.ensures, period_small (ready (goal.at.run_in-from-requires c).Start).whole)

pub file-requires : goal.file-requires
file-requires c = let r = ready (goal.at.file-requires c).Start in (r.day.first, r.day.last, omega (arith, slot-inside (goal.at.file-requires c).After-find-s, r.whole.filed.most))

pub find-s-requires-clause-capacity_bound : goal.find-s-requires-clause-capacity_bound
find-s-requires-clause-capacity_bound c = ((ready (goal.at.find-s-requires-clause-capacity_bound c).Start).whole.filed.most)

pub fill_slot-requires-clause-s_bound : goal.fill_slot-requires-clause-s_bound
fill_slot-requires-clause-s_bound c =
    let r = ready (goal.at.fill_slot-requires-clause-s_bound c).Start in
    let k = slot-inside (goal.at.fill_slot-requires-clause-s_bound c).After-find-s in
    rw c.full_period-period.ensures (omega (arith, k, r.whole.filed.most), period_small r.whole, slot_fits r.whole _ k)

pub fill_slot-requires-clause-le_m : goal.fill_slot-requires-clause-le_m
fill_slot-requires-clause-le_m c =
    let r = ready (goal.at.fill_slot-requires-clause-le_m c).Start in
    rw (c.full_period-period.ensures, c.periods_of-m.ensures, judged-is (goal.at.fill_slot-requires-clause-le_m c).After-periods_of-m) (r.heard.least, r.heard.most, judged_long r.heard, judged_small r.heard)

pub fill_slot-requires-clause-period_in_bounds : goal.fill_slot-requires-clause-period_in_bounds
fill_slot-requires-clause-period_in_bounds c =
    let r = ready (goal.at.fill_slot-requires-clause-period_in_bounds c).Start in
    rw c.full_period-period.ensures (r.whole.sums_long, sums_small r.whole)
