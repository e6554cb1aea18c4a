-- Holding together at the places from a to a + n: what the functions that read the store in blocks answer. Assumes nothing.
use Rattle.std.specs.Prelude.{◌≡◌, true, cond, List, ℕ, ◌+◌, ◌*◌, ◌≤◌, ◌<◌, eqb, ℤ, pos, get_or}
use Rattle.sums.specs.Sum.{sum}
use Rattle.sums.specs.Lists.{at}
use Rattle.samples.specs.Samples.{within}

-- slot s of a store of periods P, at those places: what its periods may add up to where it is used, and zeros where it is free
pub record Row (slots periods : List ℕ) (P : ℕ) (store : List ℤ) (a n s : ℕ) : Type 0 where
  pub used : (get_or slots s 0 ≡ 0 → ⊥) → (j : ℕ) → a ≤ j → j < a + n → within (get_or periods s 0) (at store (s * P + j)) ≡ true
  pub zeros : get_or slots s 0 ≡ 0 → (j : ℕ) → a ≤ j → j < a + n → at store (s * P + j) ≡ pos 0

-- every slot, and the sums their total
pub record Block (slots periods : List ℕ) (C P : ℕ) (store sums : List ℤ) (a n : ℕ) : Type 0 where
  pub rows : (s : ℕ) → s < C → Row slots periods P store a n s
  pub total : (j : ℕ) → a ≤ j → j < a + n → at sums j ≡ sum C (λ s. cond (eqb (get_or slots s 0) 0) (pos 0) (at store (s * P + j)))
