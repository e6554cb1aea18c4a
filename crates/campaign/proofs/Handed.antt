-- The record that a filing or a withdrawal hands back, accepted or refused, is of the same campaign: its order, taps, capacity and edition stay, and its
-- tables are as long. An accepted start's is in the edition chosen. Assumes nothing.
use mathlib.Core.Path.{◌≡◌, refl, sym, ap}
use mathlib.Core.Bool.{cond}
use mathlib.Core.List.{List}
use Prim.Native.Nat.{ℕ, zero, suc, ◌*◌}
use borrow.Author.Tests.{ne_eqb}
use lib.Dec.{eqb}
use lib.IntN.{ℤ}
use lib.ListN.{length, length-set}
use Rattle.sums.specs.Refusals.{first, answered}
use Rattle.sums.proofs.First.{outcome_cases}
use Rattle.register.specs.Register.{P}
use Rattle.register.specs.Calls.{answer_of}
use Rattle.samples.specs.Samples.{cleared_wide}
use Rattle.nights.specs.declared.Night.{Night}
use Rattle.judging.specs.declared.Judged.{Judged}
use Rattle.records.specs.Record.{overloaded, dead, fresh, marked}
use Rattle.records.specs.declared.Campaign.{Campaign}
use Rattle.campaign.specs.Calls.{start_checks, start_outcome, file_outcome, withdraw_checks, withdraw_outcome}
use Rattle.campaign.specs.Calls.{Started}
use Rattle.campaign.specs.Calls.{Withdrawn}
use Rattle.campaign.proofs.EntryCases.{by_cases}

pub record Handed (c c' : Campaign) : Type 0 where
  pub order : c'.order ≡ c.order
  pub taps : c'.taps ≡ c.taps
  pub capacity : c'.capacity ≡ c.capacity
  pub edition : c'.edition ≡ c.edition
  pub days : length c'.days ≡ length c.days
  pub slots : length c'.slots ≡ length c.slots
  pub periods : length c'.periods ≡ length c.periods

handed-same : (c : Campaign) → Handed c c
handed-same c = record { order = refl; taps = refl; capacity = refl; edition = refl; days = refl; slots = refl; periods = refl }

pub file_handed : (c : Campaign) (store sums : List ℤ) (d : ℕ) (night : Night) (y : List ℤ) (v : Judged) → Handed c (file_outcome c store sums d night y v).0.campaign
file_handed c store sums d night y v =
    by_cases c store sums d night y v (λ o. Handed c o.0.campaign)
    (record {
      refused = λ n _ _. handed-same c;
      loud = λ _ p _. marks overloaded;
      still = λ _ _. marks dead;
      full = λ _ _ _. handed-same c;
      kept = λ _ _ _.
          record { order = refl; taps = refl; capacity = refl; edition = refl; days = length-set c.days _ _; slots = length-set c.slots _ _; periods = length-set c.periods _ _ };
    })
  where
    marks : (q : ℕ) → Handed c (marked c d q)
    marks q = record { order = refl; taps = refl; capacity = refl; edition = refl; days = length-set c.days _ _; slots = refl; periods = refl }

pub withdraw_handed : (c : Campaign) (store sums : List ℤ) (d : ℕ) → Handed c (withdraw_outcome c store sums d).0.campaign
unfolding withdraw_outcome
withdraw_handed c store sums d =
    go (first (withdraw_checks c store sums d)) _ (record { order = refl; taps = refl; capacity = refl; edition = refl; days = length-set c.days _ _; slots = length-set c.slots _ _; periods = length-set c.periods _ _ })
  where
    go : (n : ℕ) (k : Withdrawn × List ℤ × List ℤ) → Handed c k.0.campaign → Handed c (answered n (λ n. (record { answer = n; campaign = c }, store, sums)) k).0.campaign
    go zero k z = z
    go (suc n) k z = handed-same c

-- ---- a start's edition is the one chosen, where it is accepted

pub start_edition : (c : Campaign) (N taps C E : ℕ) (store sums : List ℤ)
    → let o = start_outcome c N taps C E store sums in o.0.campaign.edition ≡ cond (eqb o.0.answer.number 0) E c.edition
unfolding start_outcome
start_edition c N taps C E store sums =
    outcome_cases {A = Started × List ℤ × List ℤ} (start_checks N taps C E store sums) tt
    (λ n. (record { answer = answer_of N taps n; campaign = c }, store, sums))
    (record { answer = answer_of N taps 0; campaign = fresh N taps C E }, cleared_wide (C * P N) store, cleared_wide (P N) sums)
    (λ o. o.0.campaign.edition ≡ cond (eqb o.0.answer.number 0) E c.edition)
    (λ n h _. sym (ap (λ b. cond b E c.edition) (ne_eqb n 0 h))) (λ _. refl)
