-- `campaign::starting::check_start` meets its contract: each return rewrites with the tests that led there. Assumes nothing.
use mathlib.Core.Path.{◌≡◌, refl, sym, ap, ◌∙◌}
use mathlib.Core.Bool.{Bool, false, not, ◌||◌}
use mathlib.Core.List.{List, [], ◌∷◌, ◌++◌}
use Prim.Native.Nat.{ℕ, ◌*◌, ◌≤◌}
use native.Mathlib.Omega.{arith}
use borrow.Author.Tests.{ltb-false}
use lib.Dec.{ltb}
use Rattle.sums.specs.Refusals.{first}
use Rattle.sums.proofs.First.{refused_first, passed_first, or-false}
use Rattle.refusals.specs.Causes.{number}
use Rattle.refusals.specs.declared.Refusal.{Refusal}
use Rattle.refusals.proofs.Causes.{never_0, exits}
use Rattle.register.specs.Register.{P}
use Rattle.register.specs.Calls.{taps_checks, answer_of, taps_answer}
use Rattle.register.proofs.Answered.{took, refused_by}
use Rattle.register.proofs.Word.{small}
use Rattle.campaign.specs.Calls.{slots_out, edition_out}
use Rattle.campaign.proofs.starting.check_start.Goals as goal
use Rattle.campaign.proofs.starting.check_start.Goals.{After-memory_short, Else-not-is_edition, Else-outside}

-- what is asked past the taps check
abbrev rest : ℕ → ℕ → ℕ → ℕ → ℕ → List (ℕ × Bool)
rest N C E store sums = (9, slots_out C) ∷ (24, edition_out E) ∷ (6, ltb store (C * P N) || ltb sums (P N)) ∷ []

-- the answer there, by what the three tests say
says : (N taps C E store sums : ℕ) {o i s : Bool} → taps_answer N taps ≡ 0 → o ≡ slots_out C → i ≡ edition_out E → s ≡ ltb store (C * P N) || ltb sums (P N)
    → first ((9, o) ∷ (24, i) ∷ (6, s) ∷ []) ≡ first (taps_checks N taps ++ rest N C E store sums)
unfolding taps_answer
says N taps C E store sums z p q t =
    rw (p, q, t) (sym (passed_first (taps_checks N taps) (rest N C E store sums) tt z))

-- past the second test
within : (c : Else-outside) → false ≡ slots_out c.args.capacity
within c = sym c.if-outside.false ∙ c.outside.ensures

few : (c : Else-outside) → c.args.capacity ≤ 64
few c = let C = c.args.capacity in ltb-false 64 C (or-false (ltb C 1) (ltb 64 C) (sym (within c))).1

-- past the third test
known : (c : Else-not-is_edition) → false ≡ edition_out c.args.edition
known c = ap not (sym (c.if-not-is_edition.false) ∙ c.is_edition.ensures)

-- where the memory is short or not
last : (c : After-memory_short) {s : Bool} → c.memory_short.result ≡ s → let a = c.args in
    first ((9, false) ∷ (24, false) ∷ (6, s) ∷ []) ≡ first (taps_checks a.order a.taps ++ rest a.order a.capacity a.edition a.store a.sums)
last c e =
    let a = c.args in
    let t = took a.order a.taps c.in_ok-period.ensures in
    says a.order a.taps a.capacity a.edition a.store a.sums t.passed (within c.before.before.before) (known c.before) (sym e ∙ rw t.full at c.memory_short.ensures)

refused : (N taps C E store sums : ℕ) (d : Refusal) → number d ≡ taps_answer N taps → number d ≡ first (taps_checks N taps ++ rest N C E store sums)
unfolding taps_answer
refused N taps C E store sums d n = n ∙ sym (refused_first (taps_checks N taps) (rest N C E store sums) (λ z. never_0 d (n ∙ z)))

pub returns-in_err-period : goal.returns-in_err-period
returns-in_err-period c =
    let a = c.args in
    let d = c.in_err-period.field-0.0 in
    let n = refused_by a.order a.taps d c.in_err-period.ensures in
    rw (exits c.from_residual.result d c.from_residual.ensures.1)
    (c.in_err-period.ensures ∙ ap (answer_of a.order a.taps) (sym n ∙ refused a.order a.taps a.capacity a.edition a.store a.sums d n))

pub returns-then-outside : goal.returns-then-outside
returns-then-outside c =
    let a = c.args in
    let t = took a.order a.taps c.in_ok-period.ensures in
    ap (answer_of a.order a.taps) (says a.order a.taps a.capacity a.edition a.store a.sums t.passed (sym c.if-outside.true ∙ c.outside.ensures) refl refl)

pub returns-then-not-is_edition : goal.returns-then-not-is_edition
returns-then-not-is_edition c =
    let a = c.args in
    let t = took a.order a.taps c.in_ok-period.ensures in
    ap (answer_of a.order a.taps)
    (says a.order a.taps a.capacity a.edition a.store a.sums t.passed (within (goal.at.returns-then-not-is_edition c).Else-outside) (ap not (sym (c.if-not-is_edition.true) ∙ c.is_edition.ensures)) refl)

pub memory_short-requires : goal.memory_short-requires
memory_short-requires c =
    let t = took c.args.order c.args.taps c.in_ok-period.ensures in
    (few (goal.at.memory_short-requires c).Else-outside, omega (arith, t.full, small t.accepted.shaped.most))

pub returns-then-memory_short : goal.returns-then-memory_short
returns-then-memory_short c = let a = c.args in ap (answer_of a.order a.taps) (last (goal.at.returns-then-memory_short c).After-memory_short c.if-memory_short.true)

pub returns : goal.returns
returns c =
    let a = c.args in
    let t = took a.order a.taps c.in_ok-period.ensures in
    c.in_ok-period.ensures ∙ ap (answer_of a.order a.taps) (t.passed ∙ last (goal.at.returns c).After-memory_short c.if-memory_short.false)
