-- What a filing comes to, by cases; so its number as one list of checks, and exactly when each verdict is given: 23 just where the verdict handed in is not what
-- judging gives, and never at an entry. Assumes nothing.
use mathlib.Core.Path.{◌≡◌, refl, sym, ap, ap₂, ◌∙◌}
use mathlib.Core.Logic.{◌↔◌}
use mathlib.Core.Bool.{Bool, true, false, not, ◌&&◌}
use mathlib.Core.List.{List, [], ◌∷◌}
use Prim.Native.Nat.{ℕ}
use native.Mathlib.Omega.{arith}
use borrow.Author.Tests.{eq-eqb, ne_eqb, eqb-true, eqb-false, not-false}
use lib.Dec.{eqb}
use lib.IntN.{ℤ}
use Rattle.sums.specs.Refusals.{first, outcome}
use Rattle.sums.proofs.First.{Passed, passes, accepts, refused_first, passed_first, exactly, passed_over, outcome_cases}
use Rattle.finding.specs.Finding.{finding}
use Rattle.finding.specs.declared.Finding.{Finding}
use Rattle.finding.specs.declared.Finding.TheVariants as found
use Rattle.nights.specs.Nights.{periods_of}
use Rattle.nights.specs.declared.Night.{Night}
use Rattle.records.specs.Record.{standing, days_in}
use Rattle.records.specs.declared.Campaign.{Campaign}
use Rattle.judging.specs.Judging.{judged_of, case_of, same}
use Rattle.judging.specs.declared.Judged.{Judged}
use Rattle.judging.specs.declared.Judged.TheVariants as judged
use Rattle.judging.proofs.Judgements.{same_exactly, differ_exactly, same_itself}
use Rattle.campaign.proofs.Passing.{judged_found}
use Rattle.campaign.specs.Calls.{enter_checks, judged_for, file_checks, settled_of, term_of, entered, kept_outcome, found_outcome, file_outcome, enter_outcome, verdict_of, keeps, full_checks, file_all, enter_all, verdict_number}
use Rattle.campaign.specs.declared.Entered.{Entered}
use Rattle.campaign.specs.declared.Verdict.{Verdict}
use Rattle.campaign.specs.declared.Verdict.TheVariants as verdict

-- the finding that a verdict was made of; a refusal was made of none, so any will do
abbrev finding_of : Verdict → Finding
finding_of (verdict.Kept s) = found.Kept
finding_of (verdict.Overloaded p) = found.Overloaded p
finding_of verdict.Dead = found.Dead
finding_of (verdict.Refused n) = found.Kept

-- a filed verdict as judging shows it: kept has no slot
abbrev pub unslotted : Verdict → Judged
unslotted (verdict.Kept s) = judged.Kept
unslotted (verdict.Overloaded p) = judged.Overloaded p
unslotted verdict.Dead = judged.Dead
unslotted (verdict.Refused n) = judged.Refused n

abbrev number : Entered × List ℤ × List ℤ → ℕ
number o = verdict_number o.0.entry.verdict

module _ (c : Campaign) (store sums : List ℤ) (d : ℕ) (night : Night) (y : List ℤ) (v : Judged) where
  -- what is judged of it, how many periods it has, and their sum
  abbrev here : Finding
  here = finding (settled_of c night y)

  abbrev m : ℕ
  m = periods_of night

  abbrev z : List ℤ
  z = term_of c night y

  -- a refused filing: all is handed back
  abbrev pub back : ℕ → Entered × List ℤ × List ℤ
  back n = (entered c d (verdict.Refused n), store, sums)

  -- a call's outcome has a property that each case has: refused, overloaded, dead, refused with 12, kept
  pub record Cases (Q : Entered × List ℤ × List ℤ → Type 0) : Type 0 where
    pub refused : (n : ℕ) → (n ≡ 0 → ⊥) → first (file_checks c store sums d night y v) ≡ n → Q (back n)
    pub loud : Passed (file_checks c store sums d night y v) → (p : ℕ) → here ≡ found.Overloaded p → Q (found_outcome (found.Overloaded p) c store sums d m z)
    pub still : Passed (file_checks c store sums d night y v) → here ≡ found.Dead → Q (found_outcome found.Dead c store sums d m z)
    pub full : Passed (file_checks c store sums d night y v) → here ≡ found.Kept → days_in c standing ≡ c.capacity → Q (back 12)
    pub kept : Passed (file_checks c store sums d night y v) → here ≡ found.Kept → (days_in c standing ≡ c.capacity → ⊥) → Q (kept_outcome c store sums d m z)

  pub by_cases : (Q : Entered × List ℤ × List ℤ → Type 0) → Cases Q → Q (file_outcome c store sums d night y v)
  unfolding file_outcome
  by_cases Q k =
      outcome_cases (file_checks c store sums d night y v) tt back (found_outcome here c store sums d m z) Q k.refused (λ p. by_finding p here refl)
    where
      by_full : Passed (file_checks c store sums d night y v) → here ≡ found.Kept → (b : Bool) → eqb (days_in c standing) c.capacity ≡ b
          → Q (outcome ((12, b) ∷ []) back (kept_outcome c store sums d m z))
      by_full p e true h = k.full p e (eqb-true (days_in c standing) c.capacity h)
      by_full p e false h = k.kept p e (eqb-false (days_in c standing) c.capacity h)

      by_finding : Passed (file_checks c store sums d night y v) → (f : Finding) → here ≡ f → Q (found_outcome f c store sums d m z)
      by_finding p (found.Overloaded q) e = k.loud p q e
      by_finding p found.Dead e = k.still p e
      by_finding p found.Kept e = by_full p e (eqb (days_in c standing) c.capacity) refl

  -- past the checks before the verdict only 12 is left
  late : Passed (file_checks c store sums d night y v) → {f : Finding} → here ≡ f → {b : Bool} → eqb (days_in c standing) c.capacity ≡ b
      → first (file_all c store sums d night y v) ≡ first ((12, keeps f && b) ∷ [])
  late p e h =
      passed_first (file_checks c store sums d night y v) (full_checks c night y) tt (accepts (file_checks c store sums d night y v) p)
      ∙ ap₂ (λ f b. first ((12, keeps f && b) ∷ [])) e h

  -- its number is that of the first check that holds, 12 among them
  pub file_first : number (file_outcome c store sums d night y v) ≡ first (file_all c store sums d night y v)
  file_first =
      by_cases (λ o. number o ≡ first (file_all c store sums d night y v))
      (record {
        refused = λ n h e. sym (refused_first (file_checks c store sums d night y v) (full_checks c night y) (λ z. h (sym e ∙ z)) ∙ e);
        loud = λ p q e. sym (late p e refl);
        still = λ p e. sym (late p e refl);
        full = λ p e h. sym (late p e (eq-eqb (days_in c standing) c.capacity h));
        kept = λ p e h. sym (late p e (ne_eqb (days_in c standing) c.capacity h));
      })

  -- refused, it hands back what came in
  pub file_refused : (number (file_outcome c store sums d night y v) ≡ 0 → ⊥) → file_outcome c store sums d night y v ≡ back (number (file_outcome c store sums d night y v))
  file_refused =
      by_cases (λ o. (number o ≡ 0 → ⊥) → o ≡ back (number o))
      (record {
        refused = λ n h e _. refl;
        loud = λ p q e h. absurd (h refl);
        still = λ p e h. absurd (h refl);
        full = λ p e f h. refl;
        kept = λ p e f h. absurd (h refl);
      })

  -- ---- 23

  -- just where no check before it refuses and the verdict handed in is not what judging gives
  pub twenty_three : (number (file_outcome c store sums d night y v) ≡ 23) ↔ ((first (enter_checks c store sums d night y) ≡ 0) × (v ≡ judged_for c night y → ⊥))
  twenty_three =
      exactly (number (file_outcome c store sums d night y v)) 23 (enter_checks c store sums d night y) (not (same v (judged_for c night y))) (full_checks c night y)
      file_first tt tt tt (differ_exactly v (judged_for c night y))

  -- and then all is handed back
  pub other : first (enter_checks c store sums d night y) ≡ 0 → (v ≡ judged_for c night y → ⊥) → file_outcome c store sums d night y v ≡ back 23
  other z n = let e = twenty_three.1 (z, n) in file_refused (λ h. omega (arith, e, h)) ∙ ap back e

  -- ---- which verdict, and exactly when

  -- accepted, it has the verdict of its finding
  pub accepted_verdict : number (file_outcome c store sums d night y v) ≡ 0 → (file_outcome c store sums d night y v).0.entry.verdict ≡ verdict_of c here
  accepted_verdict =
      by_cases (λ o. number o ≡ 0 → o.0.entry.verdict ≡ verdict_of c here)
      (record {
        refused = λ n h e z. absurd (h z);
        loud = λ p q e _. sym (ap (verdict_of c) e);
        still = λ p e _. sym (ap (verdict_of c) e);
        full = λ p e h z. absurd (omega arith);
        kept = λ p e h _. sym (ap (verdict_of c) e);
      })

  -- and it has that of a finding exactly where no check refuses it and its recording is found to be this
  pub verdict_exactly : (f : Finding)
      → ((file_outcome c store sums d night y v).0.entry.verdict ≡ verdict_of c f) ↔ ((first (file_all c store sums d night y v) ≡ 0) × (here ≡ f))
  verdict_exactly f = (
    λ q. let z = ap verdict_number q ∙ accepts_with f in (sym file_first ∙ z, sym (behind here) ∙ ap finding_of (sym (accepted_verdict z) ∙ q) ∙ behind f),
    λ h. accepted_verdict (file_first ∙ h.0) ∙ ap (verdict_of c) h.1,
  )
    where
      accepts_with : (g : Finding) → verdict_number (verdict_of c g) ≡ 0
      accepts_with (found.Overloaded p) = refl
      accepts_with found.Dead = refl
      accepts_with found.Kept = refl

      behind : (g : Finding) → finding_of (verdict_of c g) ≡ g
      behind (found.Overloaded p) = refl
      behind found.Dead = refl
      behind found.Kept = refl

  -- ---- what is shown is what is filed

  -- an accepted filing has the verdict that it was handed, with a slot where it is kept
  pub as_shown : number (file_outcome c store sums d night y v) ≡ 0 → unslotted (file_outcome c store sums d night y v).0.entry.verdict ≡ v
  as_shown z = ap unslotted (accepted_verdict z) ∙ plain here ∙ sym (judged_found c store sums d night y early) ∙ sym right
    where
      p : Passed (file_all c store sums d night y v)
      p = passes (file_all c store sums d night y v) tt (sym file_first ∙ z)

      early : first (enter_checks c store sums d night y) ≡ 0
      early = accepts (enter_checks c store sums d night y) (p.0, (p.1.0, (p.1.1.0, (p.1.1.1.0, (p.1.1.1.1.0, (p.1.1.1.1.1.0, tt))))))

      right : v ≡ judged_for c night y
      right = (same_exactly v (judged_for c night y)).0 (not-false _ p.1.1.1.1.1.1.0)

      plain : (g : Finding) → unslotted (verdict_of c g) ≡ judged_of g
      plain (found.Overloaded q) = refl
      plain found.Dead = refl
      plain found.Kept = refl

-- ---- a refusal that is handed in, and an entry

module _ (c : Campaign) (store sums : List ℤ) (d : ℕ) (night : Night) (y : List ℤ) where
  -- judging refuses no night that may be filed
  pub refusal_shown : (n : ℕ) → first (enter_checks c store sums d night y) ≡ 0
      → file_outcome c store sums d night y (judged.Refused n) ≡ (entered c d (verdict.Refused 23), store, sums)
  refusal_shown n z =
      other c store sums d night y (judged.Refused n) z (λ e. no_refusal (finding (settled_of c night y)) (sym (e ∙ judged_found c store sums d night y z)))
    where
      no_refusal : (g : Finding) → judged_of g ≡ judged.Refused n → ⊥
      no_refusal (found.Overloaded p) e = let z : ◌≡◌ {A = ℕ} 1 3 = ap case_of e in omega arith
      no_refusal found.Dead e = let z : ◌≡◌ {A = ℕ} 2 3 = ap case_of e in omega arith
      no_refusal found.Kept e = let z : ◌≡◌ {A = ℕ} 0 3 = ap case_of e in omega arith

  -- its own verdict is the right one, so that 23 is passed over
  own : (number (enter_outcome c store sums d night y) ≡ 23 → ⊥)
      × (number (enter_outcome c store sums d night y) ≡ first (enter_all c store sums d night y))
  own =
      passed_over (number (enter_outcome c store sums d night y)) 23 (enter_checks c store sums d night y) (not (same (judged_for c night y) (judged_for c night y))) (full_checks c night y)
      (file_first c store sums d night y (judged_for c night y)) tt (same_itself (judged_for c night y))

  pub entry_first : verdict_number (enter_outcome c store sums d night y).0.entry.verdict ≡ first (enter_all c store sums d night y)
  entry_first = own.1

  pub entry_verdict : (f : Finding)
      → ((enter_outcome c store sums d night y).0.entry.verdict ≡ verdict_of c f) ↔ ((first (enter_all c store sums d night y) ≡ 0) × (finding (settled_of c night y) ≡ f))
  entry_verdict f =
      let q = verdict_exactly c store sums d night y (judged_for c night y) f in
      let e = sym entry_first ∙ file_first c store sums d night y (judged_for c night y) in
      (λ h. (e ∙ (q.0 h).0, (q.0 h).1), λ h. q.1 (sym e ∙ h.0, h.1))

  pub entry_never_23 : verdict_number (enter_outcome c store sums d night y).0.entry.verdict ≡ 23 → ⊥
  entry_never_23 = own.0
