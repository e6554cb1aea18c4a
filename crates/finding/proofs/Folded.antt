-- The largest sample of a recording is what a running maximum of all comes to, and the smallest what a running minimum does. Assumes nothing.
use mathlib.Core.Path.{◌≡◌, refl, sym, subst, ◌∙◌}
use mathlib.Core.Logic.{◌⊎◌, inl, inr}
use mathlib.Core.Bool.{true}
use mathlib.Core.List.{List}
use Prim.Native.Nat.{ℕ, ◌<◌}
use native.Mathlib.Omega.{arith}
use lib.Dec.{T}
use lib.IntN.{ℤ, pos, ◌-ℤ◌}
use lib.ListN.{length}
use lib.Signed.{le_z, ◌≤ℤ◌}
use Rattle.std.proofs.Common.{fold}
use Rattle.std.proofs.lemmas.Int.{ints, fold-int_max_bounds, fold-int_max_reached, fold-int_min_bounds, fold-int_min_reached}
use Rattle.std.proofs.lemmas.List.{get_or_default}
use Rattle.std.specs.Int.{int_max, int_min}
use Rattle.std.specs.List.{Contains}
use Rattle.sums.specs.Lists.{at}
use Rattle.sums.specs.Largest.{largest_at, largest, smallest}
use Rattle.sums.proofs.Largest.{largest-within, largest_is, smallest_is}

tested : {a b : ℤ} → le_z a b ≡ true → a ≤ℤ b
tested e = record { le = subst T (sym e) tt }

-- a number of the list is one at a place
placed : (y : List ℤ) (r : ℤ) → 0 < length y → (r ≡ at y 0) ⊎ Contains y r → (k : ℕ) × (k < length y) × (r ≡ at y k)
placed y r some (inl e) = (0, some, e)
placed y r some (inr (k, l, e)) = (k, l, sym e ∙ get_or_default y k r (pos 0) l)

pub largest_folded : (y : List ℤ) → 0 < length y → fold int_max (at y 0) y ≡ largest (length y) (at y)
largest_folded y some =
    let m = fold int_max (at y 0) y in
    let (k, l, e) = placed y m some (fold-int_max_reached (at y 0) y m refl) in
    let above : m ≤ℤ largest (length y) (at y) = rw e (tested (largest_is (at y) (length y) some k l)) in
    let below : largest (length y) (at y) ≤ℤ m =
    (fold-int_max_bounds (at y 0) y m refl).1 (largest_at (length y) (at y)) (pos 0) (largest-within (at y) (length y) some) in
    omega (arith, ints)

pub smallest_folded : (y : List ℤ) → 0 < length y → fold int_min (at y 0) y ≡ smallest (length y) (at y)
smallest_folded y some =
    let m = fold int_min (at y 0) y in
    let minus : ℕ → ℤ = λ k. pos 0 -ℤ at y k in
    let (k, l, e) = placed y m some (fold-int_min_reached (at y 0) y m refl) in
    let below : smallest (length y) (at y) ≤ℤ m = rw e (tested (smallest_is (at y) (length y) some k l)) in
    let above : m ≤ℤ smallest (length y) (at y) =
    (fold-int_min_bounds (at y 0) y m refl).1 (largest_at (length y) minus) (pos 0) (largest-within minus (length y) some) in
    omega (arith, ints)
