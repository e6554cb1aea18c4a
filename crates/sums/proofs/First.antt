-- The first refusal of a list of checks, where the list is put together of two: "Sequence: 1, 2, 3, 4, 6" is the taps check's list and
-- one more; and where it is a given number. Assumes nothing.
use mathlib.Core.Path.{◌≡◌, refl, sym, ap, ◌∙◌, subst}
use mathlib.Core.Logic.{◌↔◌, ◌⊎◌, inl, inr, ⊎_elim}
use mathlib.Core.List.{List, [], ◌∷◌, ◌++◌}
use mathlib.Core.Bool.{Bool, true, false, cond, not, ◌&&◌, ◌||◌}
use Prim.Native.Nat.{ℕ, zero, suc, ◌<◌}
use native.Mathlib.Omega.{arith}
use borrow.Author.Tests.{eqb-false, lt-ltb, ltb-true}
use lib.Dec.{T, eqb, ltb}
use Rattle.sums.specs.Refusals.{first, answered, outcome}

-- no check has the number 0, which means accepted
abbrev pub numbered : List (ℕ × Bool) → Bool
numbered [] = true
numbered ((zero, test) ∷ checks) = false
numbered ((suc n, test) ∷ checks) = numbered checks

-- a list of checks that has not the number n, nor 0
abbrev pub lacks : ℕ → List (ℕ × Bool) → Bool
lacks n [] = not (eqb 0 n)
lacks n (check ∷ checks) = not (eqb check.0 n) && lacks n checks

negated : (x : Bool) → T (not x) → x ≡ false
negated false t = refl
negated true t = absurd t

pub T-both : (a b : Bool) → T (a && b) → T a × T b
T-both true b t = (tt, t)
T-both false b t = absurd t

pub not_first : (n : ℕ) (checks : List (ℕ × Bool)) → T (lacks n checks) → first checks ≡ n → ⊥
not_first n [] t e = eqb-false 0 n (negated (eqb 0 n) t) e
not_first n (check ∷ checks) t e =
    let p = T-both (not (eqb check.0 n)) (lacks n checks) t in
    go check.1 p.0 (λ g. not_first n checks p.1 g) e
  where
    go : (b : Bool) → T (not (eqb check.0 n)) → (first checks ≡ n → ⊥) → cond b check.0 (first checks) ≡ n → ⊥
    go true p r e = eqb-false check.0 n (negated (eqb check.0 n) p) e
    go false p r e = r e

-- refused by the first list: the second is not looked at
pub refused_first : (a b : List (ℕ × Bool)) → (first a ≡ 0 → ⊥) → first (a ++ b) ≡ first a
refused_first [] b h = absurd (h refl)
refused_first ((n, true) ∷ a) b h = refl
refused_first ((n, false) ∷ a) b h = refused_first a b h

-- passed by the first list: the second decides
pub passed_first : (a b : List (ℕ × Bool)) → T (numbered a) → first a ≡ 0 → first (a ++ b) ≡ first b
passed_first [] b t h = refl
passed_first ((zero, true) ∷ a) b t h = absurd t
passed_first ((suc n, true) ∷ a) b t h = absurd (omega arith)
passed_first ((zero, false) ∷ a) b t h = absurd t
passed_first ((suc n, false) ∷ a) b t h = passed_first a b t h

-- what comes behind a check counts only where that check's test does not hold
pub behind : (early : List (ℕ × Bool)) (n : ℕ) (test : Bool) (a b : List (ℕ × Bool)) → (test ≡ false → first a ≡ first b)
    → first (early ++ (n, test) ∷ a) ≡ first (early ++ (n, test) ∷ b)
behind [] n true a b h = refl
behind [] n false a b h = h refl
behind ((m, true) ∷ early) n test a b h = refl
behind ((m, false) ∷ early) n test a b h = behind early n test a b h

-- accepted is to have passed each check
abbrev pub Passed : List (ℕ × Bool) → Type 0
Passed [] = Unit
Passed (check ∷ checks) = (check.1 ≡ false) × Passed checks

pub passes : (checks : List (ℕ × Bool)) → T (numbered checks) → first checks ≡ 0 → Passed checks
passes [] t h = tt
passes ((zero, test) ∷ checks) t h = absurd t
passes ((suc n, true) ∷ checks) t h = absurd (omega arith)
passes ((suc n, false) ∷ checks) t h = (refl, passes checks t h)

pub accepts : (checks : List (ℕ × Bool)) → Passed checks → first checks ≡ 0
accepts [] p = refl
accepts (check ∷ checks) p = ap (λ b. cond b check.0 (first checks)) p.0 ∙ accepts checks p.1

pub or-false : (a b : Bool) → a || b ≡ false → (a ≡ false) × (b ≡ false)
or-false false b h = (refl, h)
or-false true b h = absurd (subst T h tt)

pub or_exactly : {A B : Type 0} (a b : Bool) → (a ≡ true) ↔ A → (b ≡ true) ↔ B → (a || b ≡ true) ↔ (A ⊎ B)
or_exactly true b f g = (λ _. inl (f.0 refl), λ _. refl)
or_exactly false b f g = (λ e. inr (g.0 e), ⊎_elim (λ x. absurd (subst T (sym (f.1 x)) tt)) g.1)

pub ltb_exactly : (m n : ℕ) → (ltb m n ≡ true) ↔ (m < n)
ltb_exactly m n = (ltb-true m n, lt-ltb m n)

-- ---- one check among others

-- a call that answers the first of its checks answers n exactly where those before it pass and its own test says so
pub exactly : {Holds : Type 0} (answer n : ℕ) (early : List (ℕ × Bool)) (test : Bool) (late : List (ℕ × Bool)) → answer ≡ first (early ++ (n, test) ∷ late)
    → T (numbered early) → T (lacks n early) → T (lacks n late) → (test ≡ true) ↔ Holds → (answer ≡ n) ↔ ((first early ≡ 0) × Holds)
exactly answer n early test late told t before behind says = (
  λ e. let p = passed (first early) refl (sym told ∙ e) in (p, says.0 (holds test (sym (passed_first early ((n, test) ∷ late) t p) ∙ sym told ∙ e))),
  λ p. told ∙ passed_first early ((n, test) ∷ late) t p.0 ∙ ap (λ x. cond x n (first late)) (says.1 p.1),
)
  where
    passed : (m : ℕ) → first early ≡ m → first (early ++ (n, test) ∷ late) ≡ n → first early ≡ 0
    passed zero e h = e
    passed (suc m) e h = absurd (not_first n early before (sym (refused_first early ((n, test) ∷ late) (λ z. omega (arith, e, z))) ∙ h))

    holds : (x : Bool) → cond x n (first late) ≡ n → x ≡ true
    holds true h = refl
    holds false h = absurd (not_first n late behind h)

-- where its own test does not hold, it answers what the others say, and so never n
pub passed_over : (answer n : ℕ) (early : List (ℕ × Bool)) (test : Bool) (late : List (ℕ × Bool)) → answer ≡ first (early ++ (n, test) ∷ late)
    → T (lacks n (early ++ late)) → test ≡ false → (answer ≡ n → ⊥) × (answer ≡ first (early ++ late))
passed_over answer n early test late told others e =
    let same = told ∙ without early in (λ h. not_first n (early ++ late) others (sym same ∙ h), same)
  where
    without : (checks : List (ℕ × Bool)) → first (checks ++ (n, test) ∷ late) ≡ first (checks ++ late)
    without [] = ap (λ x. cond x n (first late)) e
    without ((m, true) ∷ checks) = refl
    without ((m, false) ∷ checks) = without checks

-- ---- what a call comes to, by cases

pub outcome_cases : {A : Type 0} (checks : List (ℕ × Bool)) → T (numbered checks) → (refused : ℕ → A) (accepted : A) (Q : A → Type 0)
    → ((n : ℕ) → (n ≡ 0 → ⊥) → first checks ≡ n → Q (refused n)) → (Passed checks → Q accepted) → Q (outcome checks refused accepted)
outcome_cases checks t refused accepted Q r a = go (first checks) refl
  where
    go : (n : ℕ) → first checks ≡ n → Q (answered n refused accepted)
    go zero e = a (passes checks t e)
    go (suc n) e = r (suc n) (λ z. omega arith) e

-- ---- what a call comes to, by its answer so far

module _ {A : Type 0} (refused : ℕ → A) (accepted : A) where
  pub answered_refused : (n : ℕ) → (n ≡ 0 → ⊥) → answered n refused accepted ≡ refused n
  answered_refused zero h = absurd (h refl)
  answered_refused (suc n) h = refl

  -- r is the first checks' answer, and no 0
  pub refused_early : (a b : List (ℕ × Bool)) (r : ℕ) → r ≡ first a → (r ≡ 0 → ⊥) → outcome (a ++ b) refused accepted ≡ refused r
  refused_early a b r e h =
      ap (λ n. answered n refused accepted) (refused_first a b (λ z. h (e ∙ z)) ∙ sym e) ∙ answered_refused r h

  -- r is the first checks' answer, and 0
  pub passed_early : (a b : List (ℕ × Bool)) (r : ℕ) → T (numbered a) → r ≡ first a → r ≡ 0 → outcome (a ++ b) refused accepted ≡ outcome b refused accepted
  passed_early a b r t e z = ap (λ n. answered n refused accepted) (passed_first a b t (sym e ∙ z))

  -- r is the answer, and no 0
  pub refused_with : (checks : List (ℕ × Bool)) (r : ℕ) → r ≡ first checks → (r ≡ 0 → ⊥) → outcome checks refused accepted ≡ refused r
  refused_with checks r e h = ap (λ n. answered n refused accepted) (sym e) ∙ answered_refused r h

  -- r is the answer, and 0
  pub accepted_with : (checks : List (ℕ × Bool)) (r : ℕ) → r ≡ first checks → r ≡ 0 → outcome checks refused accepted ≡ accepted
  accepted_with checks r e z = ap (λ n. answered n refused accepted) (sym e ∙ z)

-- ---- the number that a call answers

-- what is read off an outcome, by that number alone
pub read_off : {A B : Type 0} (checks : List (ℕ × Bool)) (read : A → B) (of : ℕ → B) (back : ℕ → A) (accepted : A)
    → ((n : ℕ) → read (back n) ≡ of n) → read accepted ≡ of 0 → read (outcome checks back accepted) ≡ of (first checks)
read_off checks read of back accepted refused none = go (first checks)
  where
    go : (n : ℕ) → read (answered n back accepted) ≡ of n
    go zero = none
    go (suc n) = refused (suc n)

-- what is accepted in either of two cases
pub either_0 : {A : Type 0} (number : A → ℕ) (b : Bool) (x y : A) → number x ≡ 0 → number y ≡ 0 → number (cond b x y) ≡ 0
either_0 number true x y e g = e
either_0 number false x y e g = g

-- a refusal tells its number, and what is accepted tells 0
module _ {A : Type 0} (checks : List (ℕ × Bool)) (number : A → ℕ) (back : ℕ → A) (accepted : A) (told : (n : ℕ) → number (back n) ≡ n) where
  pub answers_first : number accepted ≡ 0 → number (outcome checks back accepted) ≡ first checks
  answers_first none = read_off checks number (λ n. n) back accepted told none

  pub refused_same : number accepted ≡ 0 → (number (outcome checks back accepted) ≡ 0 → ⊥) → outcome checks back accepted ≡ back (number (outcome checks back accepted))
  refused_same none = go (first checks)
    where
      go : (n : ℕ) → (number (answered n back accepted) ≡ 0 → ⊥) → answered n back accepted ≡ back (number (answered n back accepted))
      go zero h = absurd (h none)
      go (suc n) h = ap back (sym (told (suc n)))

  pub accepted_is : number (outcome checks back accepted) ≡ 0 → outcome checks back accepted ≡ accepted
  accepted_is = go (first checks)
    where
      go : (n : ℕ) → number (answered n back accepted) ≡ 0 → answered n back accepted ≡ accepted
      go zero e = refl
      go (suc n) e = absurd (omega (arith, told (suc n)))
