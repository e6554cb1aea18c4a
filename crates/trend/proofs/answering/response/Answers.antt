-- `trend::answering::response` meets its contract. Assumes nothing.
use mathlib.Core.Path.{◌≡◌, refl, sym, ap, ap₂, ◌∙◌}
use mathlib.Core.List.{List}
use Prim.Native.Nat.{ℕ, ◌+◌}
use native.Mathlib.Omega.{arith}
use lib.IntN.{ℤ, pos}
use Rattle.sums.specs.Lists.{at, table, put}
use Rattle.sums.specs.Refusals.{first}
use Rattle.sums.proofs.First.{refused_with, accepted_with}
use Rattle.sums.proofs.Tables.{at-put, table_ext}
use Rattle.refusals.specs.Causes.{number}
use Rattle.refusals.proofs.Causes.{never_0, exits}
use Rattle.register.specs.Register.{P}
use Rattle.samples.specs.Samples.{sample_out, cleared_wide, cleared_tags}
use Rattle.rounding.specs.Rounding.{rounded}
use Rattle.records.specs.declared.Campaign.{Campaign}
use Rattle.records.proofs.Totals.{sum_small}
use Rattle.trend.specs.Calls.{response_checks, worked, mean_at, response_outcome}
use Rattle.trend.proofs.Bounds.{divisor-some, divisor_small, mean_fits}
use Rattle.trend.proofs.Passing.{Answers, answers}
use Rattle.trend.proofs.answering.response.Goals as goal
use Rattle.trend.proofs.answering.response.Goals.{After-write_means, After-turn_sums, After-period-period, In_ok-check_response}

module _ (c : Campaign) (store sums r mean room : List ℤ) (tags : List ℕ) (n : ℕ) (e : n ≡ first (response_checks c store sums r mean room tags)) where
  refused : (n ≡ 0 → ⊥) → (n, r, mean, room, tags) ≡ response_outcome c store sums r mean room tags
  unfolding response_outcome
  refused h = sym (refused_with _ _ (response_checks c store sums r mean room tags) n e h)

  accepted : n ≡ 0 → {u v w : List ℤ} {x : List ℕ} → u ≡ put (table (P c.order) (worked c sums)) r
      → v ≡ put (table (P c.order) (mean_at c sums)) mean → w ≡ cleared_wide (P c.order + 1) room → x ≡ cleared_tags (P c.order) tags
      → ◌≡◌ {A = ℕ × List ℤ × List ℤ × List ℤ × List ℕ} (0, u, v, w, x) (response_outcome c store sums r mean room tags)
  unfolding response_outcome
  accepted z f g h k = rw (f, g, h, k) (sym (accepted_with _ _ (response_checks c store sums r mean room tags) n e z))

-- past the checks
ready : (c : In_ok-check_response) → let a = c.args in Answers a.c a.store.now a.sums.now a.r.now a.mean.now a.room.now a.tags.now
ready c = let a = c.args in answers a.c a.store.now a.sums.now a.r.now a.mean.now a.room.now a.tags.now (sym c.in_ok-check_response.ensures)

-- the period, and what was worked, are of the record's order and taps
period-is : (c : After-period-period) → c.period-period.result ≡ P c.args.c.order
period-is c = rw c.new-register.ensures.order at c.period-period.ensures

turned : (c : After-turn_sums) → let a = c.args in
    (c.turn_sums.new.out ≡ put (table (P a.c.order) (worked a.c a.sums.now)) a.r.now)
    × (c.turn_sums.new.room ≡ cleared_wide (P a.c.order + 1) a.room.now)
    × (c.turn_sums.new.tags ≡ cleared_tags (P a.c.order) a.tags.now)
turned c = rw (c.new-register.ensures.order, c.new-register.ensures.taps) at c.turn_sums.ensures

-- the means are of what was worked
mean-is : (c : After-write_means) → let a = c.args in
    c.period-period.result ≡ P a.c.order → c.turn_sums.new.out ≡ put (table (P a.c.order) (worked a.c a.sums.now)) a.r.now
    → c.write_means.new.out ≡ put (table (P a.c.order) (mean_at a.c a.sums.now)) a.mean.now
mean-is c p t =
    let d = c.divisor_of-divisor in
    let a = c.args in
    c.write_means.ensures
    ∙ ap (λ v. put v a.mean.now)
    (ap (λ m. table m (λ k. rounded a.c.edition (at c.turn_sums.new.out k) d.result)) p
    ∙ table_ext (P a.c.order) (λ k l. ap₂ (rounded a.c.edition) (ap (λ v. at v k) t ∙ at-put (P a.c.order) (worked a.c a.sums.now) a.r.now k (pos 0) l) d.ensures))

pub returns-in_err-check_response : goal.returns-in_err-check_response
returns-in_err-check_response c =
    let a = c.args in
    let d = c.in_err-check_response.field-0.0 in
    rw (exits c.from_residual.result d c.from_residual.ensures.1)
    (refused a.c a.store.now a.sums.now a.r.now a.mean.now a.room.now a.tags.now (number d) c.in_err-check_response.ensures (never_0 d))

pub new-register-requires : goal.new-register-requires
new-register-requires c = (ready c).whole.filed.accepted

pub divisor_of-divisor-requires : goal.divisor_of-divisor-requires
divisor_of-divisor-requires c =
    let f = (ready (goal.at.divisor_of-divisor-requires c).In_ok-check_response).whole.filed in
    (f.accepted.shaped.most, f.most, divisor_small _ f)

pub returns : goal.returns
returns c =
    let a = c.args in
    let p = period-is (goal.at.returns c).After-period-period in
    let t = turned (goal.at.returns c).After-turn_sums in
    accepted a.c a.store.now a.sums.now a.r.now a.mean.now a.room.now a.tags.now 0 c.in_ok-check_response.ensures refl t.0 (mean-is (goal.at.returns c).After-write_means p t.0) t.1 t.2

pub turn_sums-requires-clause-y_value : goal.turn_sums-requires-clause-y_value
turn_sums-requires-clause-y_value c =
    let a = c.args in
    let r = ready (goal.at.turn_sums-requires-clause-y_value c).In_ok-check_response in rw c.new-register.ensures.order (sum_small a.c a.store.now a.sums.now r.whole)

pub turn_sums-requires-clause-register_in_bounds : goal.turn_sums-requires-clause-register_in_bounds
turn_sums-requires-clause-register_in_bounds c =
    let a = c.args in
    let r = ready (goal.at.turn_sums-requires-clause-register_in_bounds c).In_ok-check_response in rw c.new-register.ensures.order (r.whole.sums_long, r.r_long, r.room_long, r.tags_long)

pub write_means-requires-clause-period_in_bounds : goal.write_means-requires-clause-period_in_bounds
write_means-requires-clause-period_in_bounds c =
    let a = c.args in
    let r = ready (goal.at.write_means-requires-clause-period_in_bounds c).In_ok-check_response in
    let p = period-is (goal.at.write_means-requires-clause-period_in_bounds c).After-period-period in
    ((omega (arith, p, c.turn_sums.auto.out, r.r_long), omega (arith, p, r.mean_long), omega (arith, c.divisor_of-divisor.ensures, divisor-some a.c r.whole.filed r.some)))

pub write_means-requires-clause-by_index : goal.write_means-requires-clause-by_index
write_means-requires-clause-by_index c =
    let a = c.args in
    let r = ready (goal.at.write_means-requires-clause-by_index c).In_ok-check_response in
    let p = period-is (goal.at.write_means-requires-clause-by_index c).After-period-period in
    let t = turned (goal.at.write_means-requires-clause-by_index c).After-turn_sums in
    (λ k l.
    ap₂ (λ z n. sample_out (rounded a.c.edition z n)) (ap (λ v. at v k) t.0 ∙ at-put (P a.c.order) (worked a.c a.sums.now) a.r.now k (pos 0) (omega (arith, p))) c.divisor_of-divisor.ensures ∙ mean_fits a.c a.store.now a.sums.now r.whole r.some k)
