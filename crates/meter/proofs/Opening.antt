-- The check that stands before each door but the start's: shut where a table is short, open where all are long enough. Long tables of which
-- the record's front is put back are as they were. Assumes nothing.
use mathlib.Core.Path.{◌≡◌, sym, ap, ap₂, ◌∙◌}
use mathlib.Core.List.{List}
use mathlib.Core.Bool.{true, false, cond, ◌||◌}
use Prim.Native.Nat.{ℕ, ◌≤◌}
use lib.Dec.{ltb}
use lib.ListN.{length, take}
use borrow.Author.Tests.{ltb-false}
use Rattle.sums.specs.Lists.{put}
use Rattle.sums.specs.Refusals.{answered}
use Rattle.sums.proofs.First.{or-false}
use Rattle.meter.specs.Doors.{tables_short, behind}
use Rattle.meter.proofs.Copying.{put_back}

module _ {A : Type 0} (days slots periods : List ℕ) (refused : ℕ → A) (opened : A) where
  pub shut : tables_short days slots periods ≡ true → refused 15 ≡ behind days slots periods refused opened
  shut h = ap (λ b. answered (cond b 15 0) refused opened) (sym h)

  pub opens : tables_short days slots periods ≡ false → opened ≡ behind days slots periods refused opened
  opens h = ap (λ b. answered (cond b 15 0) refused opened) (sym h)

-- what the call came to, on the way out
pub through : {A B : Type 0} (days slots periods : List ℕ) (refused : ℕ → A) (out : B → A) {x : A} {o p : B} → tables_short days slots periods ≡ false → x ≡ out o → o ≡ p → x ≡ behind days slots periods refused (out p)
through days slots periods refused out {p = p} h e q = e ∙ ap out q ∙ opens days slots periods refused (out p) h

pub long : (days slots periods : List ℕ) → tables_short days slots periods ≡ false → (366 ≤ length days) × (64 ≤ length slots) × (64 ≤ length periods)
long days slots periods h =
    let two = or-false (ltb (length days) 366) (ltb (length slots) 64 || ltb (length periods) 64) h in
    let more = or-false (ltb (length slots) 64) (ltb (length periods) 64) two.1 in
    (ltb-false (length days) 366 two.0, ltb-false (length slots) 64 more.0, ltb-false (length periods) 64 more.1)

pub put_backs : {A : Type 0} (days slots periods : List ℕ) → (366 ≤ length days) × (64 ≤ length slots) × (64 ≤ length periods) → (f : List ℕ → List ℕ → List ℕ → A)
    → f (put (take 366 days) days) (put (take 64 slots) slots) (put (take 64 periods) periods) ≡ f days slots periods
put_backs days slots periods l f =
    ap₂ (λ d t. f d t (put (take 64 periods) periods)) (put_back 366 days l.0) (put_back 64 slots l.1) ∙ ap (f days slots) (put_back 64 periods l.2)
