-- The answer of the first five checks, and what a call knows once they are passed. Assumes nothing.
use mathlib.Core.Path.{◌≡◌, sym, ap, ◌∙◌}
use mathlib.Core.Bool.{cond}
use mathlib.Core.List.{List, [], ◌∷◌}
use borrow.Author.Tests.{eqb-true, eq-eqb, ne_eqb, not-false}
use Prim.Native.Nat.{ℕ}
use lib.Dec.{eqb}
use lib.IntN.{ℤ}
use lib.ListN.{length}
use Rattle.sums.specs.Refusals.{first}
use Rattle.sums.proofs.First.{refused_first, passed_first, passes, accepts}
use Rattle.samples.specs.Samples.{length_off}
use Rattle.std.specs.Prelude.{Ok}
use Rattle.refusals.specs.Causes.{said}
use Rattle.refusals.specs.declared.Answer.{Answer}
use Rattle.register.specs.Register.{P, period, Accepted}
use Rattle.register.specs.Calls.{taps_checks, answer_of, taps_answer}
use Rattle.register.proofs.HowShort.{period-told}
use Rattle.register.proofs.Judged.{accepted_exactly, maximal_period}
use Rattle.response.specs.Calls.{given_checks}

-- ---- 1 to 5, by the taps check's answer

module _ (N taps : ℕ) (y : List ℤ) {r : ℕ} (e : r ≡ taps_answer N taps) where
  pub given_refused : (r ≡ 0 → ⊥) → r ≡ first (given_checks N taps y)
  unfolding taps_answer
  given_refused n = e ∙ sym (refused_first (taps_checks N taps) ((5, length_off (P N) y) ∷ []) (λ z. n (e ∙ z)))

  module _ (z : r ≡ 0) where
    told : first (given_checks N taps y) ≡ cond (length_off (P N) y) 5 0
    unfolding taps_answer
    told = passed_first (taps_checks N taps) ((5, length_off (P N) y) ∷ []) tt (sym e ∙ z)

    pub given_five : (length y ≡ P N → ⊥) → 5 ≡ first (given_checks N taps y)
    given_five n = sym (told ∙ simp (ne_eqb (length y) (P N) n))

    pub given-none : length y ≡ P N → 0 ≡ first (given_checks N taps y)
    given-none l = sym (told ∙ simp (eq-eqb (length y) (P N) l))

-- what it is to have passed them
pub given-passed : (N taps : ℕ) (y : List ℤ) → first (given_checks N taps y) ≡ 0 → Accepted N taps × (length y ≡ P N)
unfolding taps_answer
given-passed N taps y z =
    let p = passes (given_checks N taps y) tt z in (
      (accepted_exactly N taps).0 (accepts (taps_checks N taps) (p.0, (p.1.0, (p.1.1.0, (p.1.1.1.0, tt))))),
      eqb-true (length y) (P N) (not-false (eqb (length y) (P N)) p.1.1.1.1.0),
    )

-- what a call knows once these have been passed, with the period p
pub record Given (N taps : ℕ) (y : List ℤ) (p : ℕ) : Type 0 where
  pub none : first (given_checks N taps y) ≡ 0
  pub accepted : Accepted N taps
  pub long : length y ≡ P N
  pub full : p ≡ P N
  pub whole : p ≡ period N taps

pub given : (N taps : ℕ) (y : List ℤ) {p : ℕ} → said (Ok p) ≡ answer_of N taps (first (given_checks N taps y)) → Given N taps y p
given N taps y e =
    let z = sym (ap (λ (a : Answer). a.number) e) in
    let g = given-passed N taps y z in
    let q = period-told N taps e in
    record { none = z; accepted = g.0; long = g.1; full = q ∙ (maximal_period N taps g.0.shaped.tapped).1 g.0.maximal; whole = q }
