-- A start that passes 1, 2, 3, 4, 9 and 17 is accepted where the memory lent is the program's: it never meets 6. Its line tells the answer of its own
-- checks, with the period that goes with it. Assumes nothing.
use mathlib.Core.Path.{◌≡◌, refl, sym, ap}
use mathlib.Core.Bool.{false, ◌||◌}
use mathlib.Core.List.{List}
use Prim.Native.Nat.{ℕ, zero, suc, ◌*◌, ◌≤◌}
use native.Mathlib.Nat.{mul-le-mul}
use native.Mathlib.Omega.{arith}
use borrow.Author.Tests.{le-ltb, ltb-false}
use lib.Dec.{ltb}
use lib.IntN.{ℤ}
use lib.ListN.{length}
use lib.Pow.{pow_mono}
use Rattle.sums.specs.Refusals.{first, answered}
use Rattle.sums.proofs.First.{passes, accepts, or-false, accepted_with}
use Rattle.register.specs.Register.{P}
use Rattle.register.specs.Calls.{taps_checks, taps_answer, answer_of}
use Rattle.rounding.specs.Rounding.{away_from_zero}
use Rattle.records.specs.declared.Campaign.{Campaign}
use Rattle.campaign.specs.Calls.{start_checks, start_outcome}
use Rattle.campaign.specs.Calls.{Started}
use Rattle.campaign.proofs.Passing.{only_edition}
use Rattle.logeffects.specs.Book.{too_large, log_start_checks, over, started_by, began_outcome}
use Rattle.report.specs.declared.Line.TheVariants as line

module _ (c : Campaign) (N taps C : ℕ) (store sums : List ℤ) (room : 4088 ≤ length store) (places : 511 ≤ length sums) where
  enough : too_large N C ≡ false → ltb (length store) (C * P N) || ltb (length sums) (P N) ≡ false
  enough e =
      let o = or-false (ltb 9 N) (ltb 8 C) e in
      let p : P N ≤ 511 = omega (arith, pow_mono (ltb-false 9 N o.0)) in
      let m : C * P N ≤ 8 * 511 = mul-le-mul (ltb-false 8 C o.1) p in
      simp (le-ltb (length store) (C * P N) (omega arith), le-ltb (length sums) (P N) (omega arith))

  pub accepted : first (log_start_checks N taps C) ≡ 0 → (start_outcome c N taps C away_from_zero store sums).0.answer ≡ answer_of N taps 0
  unfolding start_outcome taps_answer
  accepted z =
      let p = passes (log_start_checks N taps C) tt z in
      let q = p.1.1.1.1 in
      let taken = accepts (taps_checks N taps) (p.0, (p.1.0, (p.1.1.0, (p.1.1.1.0, tt)))) in
      ap (λ (o : Started × List ℤ × List ℤ). o.0.answer)
      (accepted_with _ _ (start_checks N taps C away_from_zero store sums) 0
      (sym (only_edition N taps C away_from_zero store sums taken q.0 (enough q.1.0))) refl)

  by_answer : (k : ℕ) → first (log_start_checks N taps C) ≡ k
      → (answered k (λ n. (started_by (record { answer = answer_of N taps n; campaign = c }), store, sums))
      (over started_by (start_outcome c N taps C away_from_zero store sums))).0.line
      ≡ line.Started (answer_of N taps k)
  by_answer zero e = ap line.Started (accepted e)
  by_answer (suc k) e = refl

  pub never_six : (began_outcome c N taps C store sums).0.line ≡ line.Started (answer_of N taps (first (log_start_checks N taps C)))
  unfolding began_outcome
  never_six = by_answer (first (log_start_checks N taps C)) refl
