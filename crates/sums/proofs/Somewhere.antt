-- A test that holds at no place, and one that holds at some. Assumes nothing.
use mathlib.Core.Path.{◌≡◌, refl, sym, ap, ap₂, ◌∙◌}
use mathlib.Core.Bool.{Bool, true, false, ◌||◌}
use Prim.Native.Nat.{ℕ, zero, suc, ◌<◌}
use native.Mathlib.Decide.{ℕ_discrete, dec_lt}
use native.Mathlib.Omega.{arith}
use borrow.Author.Tests.{lt-ltb, le-ltb}
use lib.Dec.{ltb}
use Rattle.sums.specs.Lists.{seek, some}
use Rattle.sums.proofs.Everywhere.{or-none}
use Rattle.sums.proofs.First.{or-false}
use Rattle.sums.proofs.Seek.{seek-first}

or-true : (a : Bool) → a || true ≡ true
or-true true = refl
or-true false = refl

-- only the places below n count
pub some_ext : (n : ℕ) {f g : ℕ → Bool} → ((i : ℕ) → i < n → f i ≡ g i) → some n f ≡ some n g
unfolding some
some_ext zero h = refl
some_ext (suc n) h = ap₂ ◌||◌ (some_ext n (λ i l. h i (omega arith))) (h n (omega arith))

module _ (test : ℕ → Bool) where
  pub none_of : (n : ℕ) → some n test ≡ false → (i : ℕ) → i < n → test i ≡ false
  unfolding some
  none_of zero h i l = absurd (omega arith)
  none_of (suc n) h i l =
      let two = or-false (some n test) (test n) h in
      elim (ℕ_discrete i n) [ yes e ↦ ap test e ∙ two.1 | no e ↦ none_of n two.0 i (omega arith) ]

  pub some-none : (n : ℕ) → ((i : ℕ) → i < n → test i ≡ false) → some n test ≡ false
  unfolding some
  some-none zero h = refl
  some-none (suc n) h = ap₂ ◌||◌ (some-none n (λ i l. h i (omega arith))) (h n (omega arith))

  pub some_at : (n i : ℕ) → i < n → test i ≡ true → some n test ≡ true
  unfolding some
  some_at zero i l t = absurd (omega arith)
  some_at (suc n) i l t = elim (ℕ_discrete i n) [
    | yes e ↦ ap (λ b. some n test || b) (ap test (sym e) ∙ t) ∙ or-true (some n test)
    | no e ↦ ap (λ b. b || test n) (some_at n i (omega arith) t)
  ]

  -- one place more, at which it does not hold
  pub some_more : (n : ℕ) → test n ≡ false → some (suc n) test ≡ some n test
  unfolding some
  some_more n t = ap (λ b. some n test || b) t ∙ or-none (some n test)

  pub some_past : (n : ℕ) → test n ≡ false → some n test ≡ false → some (suc n) test ≡ false
  some_past n t h = some_more n t ∙ h

  -- a place is found just where there is one
  pub seek-some : (n : ℕ) → ltb (seek test n 0) n ≡ some n test
  seek-some n =
      let f = seek-first test n 0 in
      elim (dec_lt (seek test n 0) n) [
        | yes l ↦ lt-ltb (seek test n 0) n l ∙ sym (some_at n (seek test n 0) l (f.here (omega arith)))
        | no l ↦ le-ltb (seek test n 0) n (omega arith) ∙ sym (some-none n (λ i k. f.before i (omega arith) (omega arith)))
      ]
