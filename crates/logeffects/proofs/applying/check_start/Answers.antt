-- `logeffects::applying::check_start` meets its contract: each return rewrites with the tests that led there. Assumes nothing.
use mathlib.Core.Path.{◌≡◌, refl, sym, ap, ◌∙◌}
use mathlib.Core.Bool.{Bool}
use mathlib.Core.List.{[], ◌∷◌}
use Prim.Native.Nat.{ℕ}
use Rattle.sums.specs.Refusals.{first}
use Rattle.sums.proofs.First.{refused_first, passed_first}
use Rattle.refusals.specs.Causes.{number}
use Rattle.refusals.specs.declared.Refusal.{Refusal}
use Rattle.refusals.proofs.Causes.{never_0, exits}
use Rattle.register.specs.Calls.{taps_checks, answer_of, taps_answer}
use Rattle.register.proofs.Answered.{took, refused_by}
use Rattle.campaign.specs.Calls.{slots_out}
use Rattle.logeffects.specs.Book.{too_large, log_start_checks}
use Rattle.logeffects.proofs.applying.check_start.Goals as goal

-- the answer past the taps check, by what the two tests say
says : (N taps C : ℕ) {o s : Bool} → taps_answer N taps ≡ 0 → o ≡ slots_out C → s ≡ too_large N C
    → first ((9, o) ∷ (17, s) ∷ []) ≡ first (log_start_checks N taps C)
unfolding taps_answer
says N taps C z p q =
    rw (p, q) (sym (passed_first (taps_checks N taps) ((9, slots_out C) ∷ (17, too_large N C) ∷ []) tt z))

refused : (N taps C : ℕ) (d : Refusal) → number d ≡ taps_answer N taps → number d ≡ first (log_start_checks N taps C)
unfolding taps_answer
refused N taps C d n = n ∙ sym (refused_first (taps_checks N taps) ((9, slots_out C) ∷ (17, too_large N C) ∷ []) (λ z. never_0 d (n ∙ z)))

pub returns-in_err-period : goal.returns-in_err-period
returns-in_err-period c =
    let a = c.args in
    let d = c.in_err-period.field-0.0 in
    let n = refused_by a.order a.taps d c.in_err-period.ensures in
    rw (exits c.from_residual.result d c.from_residual.ensures.1)
    (c.in_err-period.ensures ∙ ap (answer_of a.order a.taps) (sym n ∙ refused a.order a.taps a.capacity d n))

pub returns-then-outside : goal.returns-then-outside
returns-then-outside c =
    let a = c.args in
    ap (answer_of a.order a.taps) (says a.order a.taps a.capacity (took a.order a.taps c.in_ok-period.ensures).passed (sym c.if-outside.true ∙ c.outside.ensures) refl)

pub returns-then-too_large : goal.returns-then-too_large
returns-then-too_large c =
    let a = c.args in
    ap (answer_of a.order a.taps)
    (says a.order a.taps a.capacity (took a.order a.taps c.in_ok-period.ensures).passed (sym c.if-outside.false ∙ c.outside.ensures) (sym c.if-too_large.true ∙ c.too_large.ensures))

pub returns : goal.returns
returns c =
    let a = c.args in
    let t = took a.order a.taps c.in_ok-period.ensures in
    c.in_ok-period.ensures
    ∙ ap (answer_of a.order a.taps) (t.passed ∙ says a.order a.taps a.capacity t.passed (sym c.if-outside.false ∙ c.outside.ensures) (sym c.if-too_large.false ∙ c.too_large.ensures))
