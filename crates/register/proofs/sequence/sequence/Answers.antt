-- `register::sequence::sequence` meets its contract: the taps check decides 1 to 4, and what it leaves is the room. Assumes nothing.
use borrow.Author.Tests.{lt-ltb, le-ltb}
use mathlib.Core.Path.{◌≡◌, refl, sym, ap, ◌∙◌}
use mathlib.Core.List.{List, [], ◌∷◌}
use Prim.Native.Nat.{ℕ}
use native.Mathlib.Omega.{arith}
use lib.ListN.{length}
use Rattle.sums.specs.Lists.{table, put}
use Rattle.sums.specs.Refusals.{outcome}
use Rattle.sums.proofs.First.{refused_early, passed_early}
use Rattle.refusals.proofs.Causes.{never_0, exits}
use Rattle.register.specs.Register.{P, bit}
use Rattle.register.specs.Calls.{taps_checks, too_short, taps_answer, sequence_outcome}
use Rattle.register.proofs.HowShort.{period-told}
use Rattle.register.proofs.Answered.{took, refused_by}
use Rattle.register.proofs.sequence.sequence.Goals as goal

-- the outcome, by the taps check's answer
module _ (N taps : ℕ) (out : List ℕ) (r : ℕ) (e : r ≡ taps_answer N taps) where
  refused : (r ≡ 0 → ⊥) → sequence_outcome N taps out ≡ (r, out)
  unfolding sequence_outcome taps_answer
  refused h =
      refused_early (λ n. (n, out)) (0, put (table (P N) (bit N taps)) out) (taps_checks N taps) ((6, too_short N (length out)) ∷ []) r e h

  passed : r ≡ 0 → sequence_outcome N taps out ≡ outcome ((6, too_short N (length out)) ∷ []) (λ n. (n, out)) (0, put (table (P N) (bit N taps)) out)
  unfolding sequence_outcome taps_answer
  passed z =
      passed_early (λ n. (n, out)) (0, put (table (P N) (bit N taps)) out) (taps_checks N taps) ((6, too_short N (length out)) ∷ []) r tt e z

pub returns-in_err-period : goal.returns-in_err-period
returns-in_err-period c =
    let a = c.args in
    let d = c.in_err-period.field-0.0 in
    rw (exits c.from_residual.result d c.from_residual.ensures.1)
    (sym (refused a.order a.taps a.out.now _ (refused_by a.order a.taps d c.in_err-period.ensures) (never_0 d)), period-told a.order a.taps c.in_err-period.ensures)

pub returns-then-out-count : goal.returns-then-out-count
returns-then-out-count c =
    let a = c.args in
    let t = took a.order a.taps c.in_ok-period.ensures in
    (sym (passed a.order a.taps a.out.now _ (sym t.passed) refl ∙ simp (lt-ltb (length a.out.now) (P a.order) (omega (arith, t.full)))), refl)

pub returns : goal.returns
returns c =
    let a = c.args in
    let t = took a.order a.taps c.in_ok-period.ensures in (
      ap (λ l. (0, l)) (c.write_bits.ensures ∙ ap (λ n. put (table n (bit a.order a.taps)) a.out.now) t.full)
          ∙ sym (passed a.order a.taps a.out.now _ (sym t.passed) refl ∙ simp (le-ltb (length a.out.now) (P a.order) (omega (arith, t.full)))),
      t.whole,
    )

pub write_bits-requires-clause-order_bound : goal.write_bits-requires-clause-order_bound
write_bits-requires-clause-order_bound c = (took c.args.order c.args.taps c.in_ok-period.ensures).accepted.shaped.most
