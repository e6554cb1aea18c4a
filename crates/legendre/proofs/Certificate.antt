-- Of each period offered, computed: (p + 1) / 2 bits are ones, and so many places differ from the sequence turned by any number of places; and the ones stand
-- where the squares of 0 to (p-1)/2 do, counted back from the end, each of them once. Assumes nothing.
use mathlib.Core.List.{List, [], ◌∷◌, ◌++◌}
use mathlib.Core.Bool.{Bool, true, false, ◌&&◌}
use Prim.Native.Nat.{ℕ, zero, suc, ◌+◌, ◌-◌, ◌*◌, ◌%◌}
use lib.Dec.{T, eqb}
use Rattle.sums.specs.Sum.{total}
use Rattle.sums.specs.Lists.{some, every, many, table}
use Rattle.sums.proofs.Members.{all}
use Rattle.legendre.specs.Legendre.{periods, bit}
use Rattle.legendre.specs.Working.{half}

-- ---- flat

-- at how many places two lists of bits differ
abbrev pub differ : List ℕ → List ℕ → ℕ
differ [] ys = 0
differ (x ∷ xs) [] = 0
differ (x ∷ xs) (y ∷ ys) = (x + y) % 2 + differ xs ys

-- whether l differs at h / 2 places from ys without its first 1, 2, … n
abbrev pub turns : ℕ → ℕ → List ℕ → List ℕ → Bool
turns h zero l ys = true
turns h (suc n) l [] = false
turns h (suc n) l (y ∷ ys) = eqb (2 * differ l ys) h && turns h n l ys

abbrev pub turns_flat : ℕ → List ℕ → Bool
turns_flat p l = turns (p + 1) (p - 1) l (l ++ l)

abbrev pub flat_at : ℕ → Bool
flat_at p = eqb (2 * total p (bit p)) (p + 1) && turns_flat p (table p (bit p))

pub computed : T (all flat_at periods)
unfolding bit table some total
computed = tt

-- ---- where the ones stand

-- the square of i, counted back from the end of the period
abbrev pub backed : ℕ → ℕ → ℕ
backed p i = (p - i * i % p) % p

abbrev pub ones_at : ℕ → Bool
ones_at p = every p (λ n. eqb (many (half p) (λ i. eqb n (backed p i))) (bit p n))

pub ones_computed : T (all ones_at periods)
unfolding bit some every many total
ones_computed = tt
