-- The loudness of a list is that of its parts, and bounds every number of its transform. Assumes nothing.
use mathlib.Core.Path.{◌≡◌, refl, sym, ap, ◌∙◌}
use mathlib.Core.List.{List, [], ◌∷◌, ◌++◌}
use Prim.Native.Nat.{ℕ, ◌+◌, ◌^◌, ◌≤◌}
use native.Mathlib.Nat.{le_trans, le_of_eq}
use native.Mathlib.Omega.{arith}
use lib.ListN.{length, take, drop, take-append-drop}
use lib.IntN.{ℤ, nat_abs, ◌*ℤ◌}
use Rattle.sums.specs.Sum.{total, sign}
use Rattle.sums.specs.Lists.{at}
use Rattle.sums.proofs.Sign.{nat_abs-sign-*}
use Rattle.sums.proofs.Sum.{total_front, total_ext, nat_abs-total}
use Rattle.hadamard.specs.Transform.{common, transformed, loudness}

-- ---- by elements and by parts

loudness_nil : loudness [] ≡ 0
unfolding loudness total
loudness_nil = refl

loudness_cons : (x : ℤ) (v : List ℤ) → loudness (x ∷ v) ≡ nat_abs x + loudness v
unfolding loudness
loudness_cons x v = total_front (length v) (λ i. nat_abs (at (x ∷ v) i))

pub loudness-append : (p q : List ℤ) → loudness (p ++ q) ≡ loudness p + loudness q
loudness-append [] q = omega (arith, loudness_nil)
loudness-append (x ∷ p) q = omega (arith, loudness_cons x (p ++ q), loudness_cons x p, loudness-append p q)

pub loudness_parts : (h : ℕ) (v : List ℤ) → loudness v ≡ loudness (take h v) + loudness (drop h v)
loudness_parts h v = ap loudness (sym (take-append-drop h v)) ∙ loudness-append (take h v) (drop h v)

-- ---- the transform

pub transformed-at_most : (n : ℕ) (v : List ℤ) (u : ℕ) → length v ≡ 2 ^ n → nat_abs (transformed n v u) ≤ loudness v
unfolding transformed loudness
transformed-at_most n v u len =
    le_trans (nat_abs-total (2 ^ n) (λ w. sign (common n u w) *ℤ at v w))
    (le_of_eq (total_ext (2 ^ n) (λ w h. nat_abs-sign-* (common n u w) (at v w)) ∙ ap (λ k. total k (λ w. nat_abs (at v w))) (sym len)))
