-- A verdict that crosses to C as its state and its value, and comes back: what judging wrote says the same verdict when it is handed to filing, and a pair that
-- judging never writes says none. Assumes nothing.
use mathlib.Core.Path.{◌≡◌, refl, sym, ap, ap₂}
use mathlib.Core.Bool.{Bool, true, false, cond, not}
use Prim.Native.Nat.{ℕ}
use borrow.Author.Tests.{eqb-true}
use lib.Dec.{eqb}
use Rattle.finding.specs.declared.Finding.{Finding}
use Rattle.finding.specs.declared.Finding.TheVariants as found
use Rattle.judging.specs.Judging.{judged_of, judged_number}
use Rattle.judging.specs.declared.Judged.{Judged}
use Rattle.judging.specs.declared.Judged.TheVariants as judged
use Rattle.records.specs.Record.{standing, overloaded, dead}
use Rattle.meter.specs.Doors.{judged_means, pair_says}

pub means_number : (v : Judged) → (judged_means v).0 ≡ judged_number v
means_number judged.Kept = refl
means_number (judged.Overloaded p) = refl
means_number judged.Dead = refl
means_number (judged.Refused n) = refl

-- the pair of each accepted verdict
abbrev pub pair_of : Finding → ℕ × ℕ
pair_of (found.Overloaded p) = (overloaded, p)
pair_of found.Dead = (dead, 0)
pair_of found.Kept = (standing, 0)

-- judging writes it, whatever the two numbers held
pub writes_pair : (f : Finding) (was : ℕ × ℕ) → (judged_means (judged_of f)).1 was ≡ pair_of f
writes_pair (found.Overloaded p) was = refl
writes_pair found.Dead was = refl
writes_pair found.Kept was = refl

pub comes_back : (f : Finding) → pair_says (pair_of f).0 (pair_of f).1 ≡ judged_of f
comes_back (found.Overloaded p) = refl
comes_back found.Dead = refl
comes_back found.Kept = refl

-- any other pair says no verdict
pub no_verdict : (q v : ℕ) → ((f : Finding) → pair_of f ≡ (q, v) → ⊥) → pair_says q v ≡ judged.Refused 23
no_verdict q v none = go (eqb q overloaded) refl (eqb v 0) refl (eqb q standing) refl (eqb q dead) refl
  where
    go : (a : Bool) → eqb q overloaded ≡ a → (b : Bool) → eqb v 0 ≡ b → (s : Bool) → eqb q standing ≡ s → (t : Bool) → eqb q dead ≡ t
        → cond a (judged.Overloaded v) (cond (not b) (judged.Refused 23) (cond s judged.Kept (cond t judged.Dead (judged.Refused 23)))) ≡ judged.Refused 23
    go true e b f s g t h = absurd (none (found.Overloaded v) (ap (λ n. (n, v)) (sym (eqb-true q overloaded e))))
    go false e false f s g t h = refl
    go false e true f true g t h = absurd (none found.Kept (ap₂ (λ n k. (n, k)) (sym (eqb-true q standing g)) (sym (eqb-true v 0 f))))
    go false e true f false g true h = absurd (none found.Dead (ap₂ (λ n k. (n, k)) (sym (eqb-true q dead h)) (sym (eqb-true v 0 f))))
    go false e true f false g false h = refl
