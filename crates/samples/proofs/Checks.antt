-- The answer so far decides an outcome, whatever is handed back: the checks of what a measuring call is handed, then 6, 7 and those that the call adds.
-- Assumes nothing.
use mathlib.Core.Path.{◌≡◌, ◌∙◌}
use mathlib.Core.Bool.{Bool, true, false}
use mathlib.Core.List.{List, ◌∷◌}
use Prim.Native.Nat.{ℕ}
use lib.Dec.{T}
use lib.IntN.{ℤ}
use lib.ListN.{length}
use Rattle.sums.specs.Lists.{at}
use Rattle.sums.specs.Refusals.{first, outcome}
use Rattle.sums.proofs.First.{numbered, refused_early, passed_early}
use Rattle.samples.specs.Samples.{some_out, sample_checks}

module _ {A : Type 0} (kept : ℕ → A) (made : A) (given : List (ℕ × Bool)) (y : List ℤ) (short : Bool) (more : List (ℕ × Bool)) {r : ℕ} (e : r ≡ first given) where
  rest : List (ℕ × Bool)
  rest = (6, short) ∷ (7, some_out (length y) (at y)) ∷ more

  pub refused : (r ≡ 0 → ⊥) → outcome (sample_checks given y short more) kept made ≡ kept r
  unfolding rest
  refused n = refused_early kept made given rest r e n

  module _ (t : T (numbered given)) (z : r ≡ 0) where
    passed : outcome (sample_checks given y short more) kept made ≡ outcome rest kept made
    unfolding rest
    passed = passed_early kept made given rest r t e z

    pub six : short ≡ true → outcome (sample_checks given y short more) kept made ≡ kept 6
    unfolding rest
    six s = passed ∙ simp s

    module _ (s : short ≡ false) where
      pub seven : some_out (length y) (at y) ≡ true → outcome (sample_checks given y short more) kept made ≡ kept 7
      unfolding rest
      seven o = passed ∙ simp (s, o)

      pub left : some_out (length y) (at y) ≡ false → outcome (sample_checks given y short more) kept made ≡ outcome more kept made
      unfolding rest
      left o = passed ∙ simp (s, o)
