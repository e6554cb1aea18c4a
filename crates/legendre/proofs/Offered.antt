-- A period offered is one of the list, and short; and what it is to have passed the checks 25, 5, 6 and 7. Assumes nothing.
use mathlib.Core.Path.{◌≡◌, ap, ◌∙◌}
use mathlib.Core.Logic.{◌↔◌}
use mathlib.Core.Bool.{true, ◌&&◌}
use mathlib.Core.List.{List}
use Prim.Native.Nat.{ℕ, ◌≤◌, ◌<◌}
use native.Mathlib.Omega.{arith}
use borrow.Author.Tests.{eqb-true, ltb-false, not-false}
use lib.Dec.{eqb, ltb, ltb→lt}
use lib.IntN.{ℤ}
use lib.ListN.{length}
use mir.Val.{has_key}
use types.Run.{OneOf, hit}
use Rattle.sums.specs.Refusals.{first}
use Rattle.sums.proofs.First.{T-both, passes, accepts}
use Rattle.sums.proofs.Members.{among_one, all_each}
use Rattle.legendre.specs.Legendre.{periods, offered}
use Rattle.legendre.specs.Calls.{given_checks, measuring_checks}
use Rattle.legendre.specs.Working.{Passed}

pub one_of : (p : ℕ) → (offered p ≡ true) ↔ OneOf periods p
unfolding offered
one_of p = (λ e. hit periods p (all_each (has_key periods) periods tt p e), among_one periods p)

pub short : (p : ℕ) → offered p ≡ true → (0 < p) × (p ≤ 127)
unfolding offered
short p e =
    let t = T-both (ltb 0 p) (ltb p 128) (all_each (λ n. ltb 0 n && ltb n 128) periods tt p e) in
    (ltb→lt 0 p t.0, omega (arith, ltb→lt p 128 t.1))

-- 25 and 5 are passed
pub given-passed : (p : ℕ) (y : List ℤ) → first (given_checks p y) ≡ 0 → (offered p ≡ true) × (length y ≡ p)
given-passed p y z =
    let c = passes (given_checks p y) tt z in
    (not-false (offered p) c.0, eqb-true (length y) p (not-false (eqb (length y) p) c.1.0))

-- 25, 5, 6 and 7 are
pub all_passed : (p : ℕ) (y : List ℤ) (places : ℕ) → first (measuring_checks p y places) ≡ 0 → Passed y × (length y ≡ p) × (p ≤ places)
all_passed p y places z =
    let c = passes (measuring_checks p y places) tt z in
    let g = given-passed p y (accepts (given_checks p y) (c.0, (c.1.0, tt))) in (
      record { period = ap offered g.1 ∙ g.0; in_range = c.1.1.1.0 },
      g.1,
      ltb-false places p c.1.1.0,
    )
