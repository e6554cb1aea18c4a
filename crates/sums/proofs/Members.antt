-- The numbers of a list: those that share an arm of a match, and what is computed of all of them and holds of each. Assumes nothing.
use mathlib.Core.Path.{◌≡◌, refl, sym, ap, ap₂, subst}
use mathlib.Core.Bool.{Bool, true, false, ◌||◌, ◌&&◌}
use mathlib.Core.List.{List, [], ◌∷◌}
use mathlib.Core.Logic.{⊎_elim, inl, inr}
use Prim.Native.Nat.{ℕ}
use borrow.Author.Tests.{eq-eqb, ne_eqb}
use lib.Dec.{T, eqb, eqb→eq}
use types.Run.{OneOf}
use Rattle.sums.specs.Lists.{among}
use Rattle.sums.proofs.Everywhere.{or_right}
use Rattle.sums.proofs.First.{T-both}

-- ---- one of them, and none

one_of : (k : ℕ) (ks : List ℕ) (n : ℕ) → OneOf (k ∷ ks) n → among n (k ∷ ks) ≡ true
one_of k [] n e = ap (λ b. b || false) (eq-eqb n k e)
one_of k (m ∷ ks) n o = ⊎_elim (λ e. ap (λ b. b || among n (m ∷ ks)) (eq-eqb n k e)) (λ r. or_right (eqb n k) _ (one_of m ks n r)) o

none_of : (k : ℕ) (ks : List ℕ) (n : ℕ) → (OneOf (k ∷ ks) n → ⊥) → among n (k ∷ ks) ≡ false
none_of k [] n h = ap (λ b. b || false) (ne_eqb n k h)
none_of k (m ∷ ks) n h = ap₂ ◌||◌ (ne_eqb n k (λ e. h (inl e))) (none_of m ks n (λ r. h (inr r)))

pub among_one : (l : List ℕ) (n : ℕ) → OneOf l n → among n l ≡ true
among_one [] n o = absurd o
among_one (k ∷ ks) n o = one_of k ks n o

pub among_none : (l : List ℕ) (n : ℕ) → (OneOf l n → ⊥) → among n l ≡ false
among_none [] n h = refl
among_none (k ∷ ks) n h = none_of k ks n h

-- ---- all of them, and each

abbrev pub all : (ℕ → Bool) → List ℕ → Bool
all test [] = true
all test (k ∷ ks) = test k && all test ks

pub all_each : (test : ℕ → Bool) (l : List ℕ) → T (all test l) → (n : ℕ) → among n l ≡ true → T (test n)
all_each test [] t n m = absurd (subst T (sym m) tt)
all_each test (k ∷ ks) t n m = go (eqb n k) refl (all_each test ks (T-both (test k) (all test ks) t).1 n) m
  where
    go : (b : Bool) → eqb n k ≡ b → (among n ks ≡ true → T (test n)) → b || among n ks ≡ true → T (test n)
    go true e later m = rw (eqb→eq n k (subst T (sym e) tt)) (T-both (test k) (all test ks) t).0
    go false e later m = later m
