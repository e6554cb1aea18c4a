-- Lists by their places: what a lent slice holds. Assumes nothing.
use Rattle.std.specs.Prelude.{ℕ, zero, suc, List, [], ◌∷◌, ◌++◌, Bool, true, false, cond, ◌||◌, ◌&&◌, eqb, ℤ, pos, length, get_or, take, drop}
use Rattle.sums.specs.Sum.{total}

-- the number of y at place j, and 0 past its end
abbrev pub at : List ℤ → ℕ → ℤ
at y j = get_or y j (pos 0)

-- f 0, …, f (n - 1)
unfoldable pub table : {A : Type 0} → ℕ → (ℕ → A) → List A
table zero f = []
table (suc n) f = f 0 ∷ table n (λ i. f (suc i))

-- vs in the place of the first of l: a longer l keeps its tail
unfoldable pub put : {A : Type 0} → List A → List A → List A
put vs l = vs ++ drop (length vs) l

-- the first of the n places from k on at which the test holds, and k + n where it holds at none
unfoldable pub seek : (ℕ → Bool) → ℕ → ℕ → ℕ
seek test zero k = k
seek test (suc n) k = cond (test k) k (seek test n (suc k))

-- whether the test holds at some of the first n places
unfoldable pub some : ℕ → (ℕ → Bool) → Bool
some zero test = false
some (suc n) test = some n test || test n

-- whether it holds at all of them
unfoldable pub every : ℕ → (ℕ → Bool) → Bool
every zero test = true
every (suc n) test = every n test && test n

-- at how many of them it holds
unfoldable pub many : ℕ → (ℕ → Bool) → ℕ
many n test = total n (λ i. cond (test i) 1 0)

-- whether a number is one of a list's
abbrev pub among : ℕ → List ℕ → Bool
among n [] = false
among n (k ∷ ks) = eqb n k || among n ks

-- vs in the place of what l has from place k on
unfoldable pub put_at : {A : Type 0} → ℕ → List A → List A → List A
put_at k vs l = take k l ++ put vs (drop k l)
