-- Where the record holds together no call answers 15, and a response with room enough and a day standing is accepted. Assumes nothing.
use mathlib.Core.Path.{◌≡◌, sym, ap, ◌∙◌}
use mathlib.Core.Bool.{Bool, true, false, cond, not}
use mathlib.Core.List.{List, [], ◌∷◌}
use Prim.Native.Nat.{ℕ, ◌+◌, ◌*◌, ◌≤◌}
use native.Mathlib.Omega.{arith}
use borrow.Author.Tests.{ne_eqb}
use lib.Dec.{T, eqb}
use lib.IntN.{ℤ}
use lib.ListN.{length}
use Rattle.std.specs.Prelude.{Result, Ok, Err}
use Rattle.refusals.specs.Causes.{result_number}
use Rattle.trend.specs.declared.Tally.{Tally}
use Rattle.sums.specs.Lists.{table, put}
use Rattle.sums.specs.Refusals.{first}
use Rattle.sums.proofs.First.{lacks, not_first, accepts, outcome_cases}
use Rattle.register.specs.Register.{P}
use Rattle.register.specs.Calls.{answer_of}
use Rattle.samples.specs.Samples.{cleared_wide, cleared_tags}
use Rattle.records.specs.Record.{standing, days_in, together, fresh}
use Rattle.judging.specs.Judging.{judge_checks}
use Rattle.judging.proofs.Judgements.{judge_first}
use Rattle.campaign.specs.Calls.{start_checks, file_all, shown_to, withdraw_checks, withdrawn_outcome, start_outcome, withdraw_outcome}
use Rattle.campaign.proofs.EntryCases.{file_first}
use Rattle.trend.specs.Calls.{response_checks, summary_checks, tally, counts_outcome, response_outcome, summary_outcome, worked, mean_at, levels_of, divisor, summary_number}
use Rattle.trend.proofs.Enough.{answer_enough}
use Rattle.history.specs.Run.{World, Call, start, judge, file, withdraw, counts, response, summary, answer}
use Rattle.records.specs.declared.Campaign.{Campaign}
use Rattle.campaign.specs.Calls.{Started}
use Rattle.campaign.specs.Calls.{Withdrawn}
use Rattle.trend.specs.declared.Summary.{Summary}
use Rattle.trend.specs.declared.Summary.TheVariants as summed

-- what an accepted response, and a summary of standing days, hand back
abbrev pub responded : Campaign → List ℤ → List ℤ → List ℤ → List ℤ → List ℕ → ℕ × List ℤ × List ℤ × List ℤ × List ℕ
responded c sums r mean room tags = (
  0,
  put (table (P c.order) (worked c sums)) r,
  put (table (P c.order) (mean_at c sums)) mean,
  cleared_wide (P c.order + 1) room,
  cleared_tags (P c.order) tags,
)

abbrev measured : Campaign → List ℤ → List ℤ → List ℕ → Summary × List ℤ × List ℕ
measured c sums room tags = (
  summed.Measured (levels_of (P c.order) (worked c sums) (divisor c)),
  cleared_wide (P c.order + 1) room,
  cleared_tags (P c.order) tags,
)

-- the first check is passed, and no other has the number 15
abbrev tail : List (ℕ × Bool) → List (ℕ × Bool)
tail [] = []
tail (check ∷ checks) = checks

abbrev head : List (ℕ × Bool) → Bool
head [] = false
head (check ∷ checks) = check.1

not_fifteen : (checks : List (ℕ × Bool)) → head checks ≡ false → T (lacks 15 (tail checks)) → first checks ≡ 15 → ⊥
not_fifteen [] e t h = omega arith
not_fifteen (check ∷ checks) e t h = not_first 15 checks t (sym (ap (λ x. cond x check.0 (first checks)) e) ∙ h)

module _ (w : World) (t : together w.campaign w.store w.sums ≡ true) where
  pub never_fifteen : (call : Call) → answer w call ≡ 15 → ⊥
  unfolding start_outcome withdraw_outcome counts_outcome response_outcome summary_outcome
  never_fifteen (start N taps C E) =
      outcome_cases {A = Started × List ℤ × List ℤ} (start_checks N taps C E w.store w.sums) tt
      (λ n. (record { answer = answer_of N taps n; campaign = w.campaign }, w.store, w.sums))
      (record { answer = answer_of N taps 0; campaign = fresh N taps C E }, cleared_wide (C * P N) w.store, cleared_wide (P N) w.sums) (λ o. o.0.answer.number ≡ 15 → ⊥)
      (λ n _ h g. not_first 15 (start_checks N taps C E w.store w.sums) tt (h ∙ g)) (λ _ g. omega arith)
  never_fifteen (judge N taps night y) = λ h. not_first 15 (judge_checks N taps night y) tt (sym (judge_first N taps night y) ∙ h)
  never_fifteen (file d night y s) =
      let v = shown_to w.campaign night y s in
      λ h. not_fifteen (file_all w.campaign w.store w.sums d night y v) (ap not t) tt (sym (file_first w.campaign w.store w.sums d night y v) ∙ h)
  never_fifteen (withdraw d) =
      outcome_cases {A = Withdrawn × List ℤ × List ℤ} (withdraw_checks w.campaign w.store w.sums d) tt
      (λ n. (record { answer = n; campaign = w.campaign }, w.store, w.sums)) (withdrawn_outcome w.campaign w.store w.sums d) (λ o. o.0.answer ≡ 15 → ⊥)
      (λ n _ h g. not_fifteen (withdraw_checks w.campaign w.store w.sums d) (ap not t) tt (h ∙ g)) (λ _ g. omega arith)
  never_fifteen counts =
      outcome_cases {A = Result Tally ℕ} ((15, not (together w.campaign w.store w.sums)) ∷ []) tt Err (Ok (tally w.campaign))
      (λ o. result_number o ≡ 15 → ⊥) (λ n _ h g. not_fifteen ((15, not (together w.campaign w.store w.sums)) ∷ []) (ap not t) tt (h ∙ g)) (λ _ g. omega arith)
  never_fifteen (response r mean room tags) =
      outcome_cases {A = ℕ × List ℤ × List ℤ × List ℤ × List ℕ} (response_checks w.campaign w.store w.sums r mean room tags) tt (λ n. (n, r, mean, room, tags))
      (responded w.campaign w.sums r mean room tags) (λ o. o.0 ≡ 15 → ⊥)
      (λ n _ h g. not_fifteen (response_checks w.campaign w.store w.sums r mean room tags) (ap not t) tt (h ∙ g)) (λ _ g. omega arith)
  never_fifteen (summary room tags) =
      outcome_cases {A = Summary × List ℤ × List ℕ} (summary_checks w.campaign w.store w.sums room tags) tt (λ n. (summed.Refused n, room, tags))
      (cond (eqb (days_in w.campaign standing) 0) (summed.Nothing, room, tags) (measured w.campaign w.sums room tags))
      (λ o. summary_number o.0 ≡ 15 → ⊥)
      (λ n _ h g. not_fifteen (summary_checks w.campaign w.store w.sums room tags) (ap not t) tt (h ∙ g)) (λ _. either (eqb (days_in w.campaign standing) 0))
    where
      either : (b : Bool) → summary_number (cond b (summed.Nothing, room, tags) (measured w.campaign w.sums room tags)).0 ≡ 15 → ⊥
      either true g = omega arith
      either false g = omega arith

-- ---- a response with room enough

pub record RoomFor (N : ℕ) (r mean room : List ℤ) (tags : List ℕ) : Type 0 where
  pub r_long : P N ≤ length r
  pub mean_long : P N ≤ length mean
  pub room_long : P N + 1 ≤ length room
  pub tags_long : P N ≤ length tags

pub answers : (c : Campaign) (store sums r mean room : List ℤ) (tags : List ℕ) → together c store sums ≡ true → RoomFor c.order r mean room tags
    → (days_in c standing ≡ 0 → ⊥) → response_outcome c store sums r mean room tags ≡ responded c sums r mean room tags
unfolding response_outcome
answers c store sums r mean room tags t long n =
    rw (accepts (response_checks c store sums r mean room tags) (
      ap not t,
      (
        answer_enough (P c.order) (length r) (length mean) (length room) (length tags) long.r_long long.mean_long long.room_long long.tags_long,
        (ne_eqb (days_in c standing) 0 n, tt),
      ),
    ))
