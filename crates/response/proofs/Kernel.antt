-- One kernel, one law: numbers laid out at the places of a walk and weighed there are the numbers weighed by their places. So the laid room
-- is as loud as the numbers. Assumes nothing.
use mathlib.Core.Path.{◌≡◌, refl, sym, ap, ◌∙◌}
use mathlib.Core.List.{List}
use Prim.Native.Nat.{ℕ, suc}
use lib.IntN.{ℤ, pos, nat_abs, ◌+ℤ◌, ◌*ℤ◌, +ℤ_idl, *ℤ-zero}
use Rattle.sums.specs.Sum.{sum, total}
use Rattle.sums.specs.Lists.{at}
use Rattle.sums.proofs.Perm.{Visits, sum-visits}
use Rattle.sums.proofs.Sum.{sum_ext, sum_front, pos-total}
use Rattle.response.specs.Route.{Laid}

module _ {P : ℕ} {place : ℕ → ℕ} {y : ℕ → ℤ} {was v : List ℤ} (walk : Visits P place) (laid : Laid P place y was v) where
  -- any function of a place and of the number there, if it is 0 at place 0
  gathered : (f : ℕ → ℤ → ℤ) → f 0 (pos 0) ≡ pos 0 → sum (suc P) (λ w. f w (at v w)) ≡ sum P (λ j. f (place j) (y j))
  gathered f none =
      sum_front P (λ w. f w (at v w))
      ∙ ap (λ z. z +ℤ sum P (λ i. f (suc i) (at v (suc i)))) (ap (f 0) laid.empty ∙ none)
      ∙ +ℤ_idl (sum P (λ i. f (suc i) (at v (suc i))))
      ∙ sym (sum-visits P place walk (λ w. f w (at v w)))
      ∙ sum_ext P (λ j h. ap (f (place j)) (laid.each j h))

  pub weighed : (s : ℕ → ℤ) → sum (suc P) (λ w. s w *ℤ at v w) ≡ sum P (λ j. s (place j) *ℤ y j)
  weighed s = gathered (λ w z. s w *ℤ z) (*ℤ-zero (s 0))

  pub as_loud : total (suc P) (λ w. nat_abs (at v w)) ≡ total P (λ j. nat_abs (y j))
  as_loud =
      ap nat_abs
      (pos-total (suc P) (λ w. nat_abs (at v w))
      ∙ gathered (λ w z. pos (nat_abs z)) refl
      ∙ sym (pos-total P (λ j. nat_abs (y j))))
