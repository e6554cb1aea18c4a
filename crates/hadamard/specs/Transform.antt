-- The Hadamard transform of 2 ^ n integers, and their loudness. Assumes nothing.
use Rattle.std.specs.Prelude.{List, ℕ, zero, suc, ◌+◌, ◌*◌, ◌/◌, ◌%◌, ◌^◌, ℤ, nat_abs, ◌*ℤ◌, length}
use Rattle.sums.specs.Sum.{sum, total, sign}
use Rattle.sums.specs.Lists.{at}

-- how many of their lowest n bits a and b have in common
unfoldable pub common : ℕ → ℕ → ℕ → ℕ
common zero a b = 0
common (suc n) a b = a % 2 * (b % 2) + common n (a / 2) (b / 2)

-- number u of the transform of v: the sum of v's numbers, each with its sign changed once for each bit that its place and u have in common
unfoldable pub transformed : ℕ → List ℤ → ℕ → ℤ
transformed n v u = sum (2 ^ n) (λ w. sign (common n u w) *ℤ at v w)

-- the sum of the sizes of v's numbers
unfoldable pub loudness : List ℤ → ℕ
loudness v = total (length v) (λ i. nat_abs (at v i))
