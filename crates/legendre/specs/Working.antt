-- What the contracts of the functions inside cite: squares marked, numbers twice over, and what the ones of a sequence meet. Assumes nothing.
use Rattle.std.specs.Prelude.{◌≡◌, Bool, true, false, cond, List, ℕ, ◌+◌, ◌-◌, ◌*◌, ◌/◌, ◌%◌, ◌≤◌, ◌<◌, eqb, ℤ, length, get_or}
use Rattle.sums.specs.Sum.{sum}
use Rattle.sums.specs.Lists.{at, some, table, put, put_at}
use Rattle.samples.specs.Samples.{some_out}
use Rattle.legendre.specs.Legendre.{offered}

-- v is was with 0 at the square, modulo p, of each number below k
pub record Marked (k p : ℕ) (was v : List ℕ) : Type 0 where
  pub long : length v ≡ length was
  pub each : (n : ℕ) → n < p → get_or v n 0 ≡ cond (some k (λ i. eqb (i * i % p) n)) 0 (get_or was n 0)
  pub tail : (n : ℕ) → p ≤ n → get_or v n 0 ≡ get_or was n 0

-- a recording or a response of a period offered, with no value out of the range
pub record Passed (y : List ℤ) : Type 0 where
  pub period : offered (length y) ≡ true
  pub in_range : some_out (length y) (at y) ≡ false

-- z, and once more behind it, in the place of the first of was
abbrev pub twice_over : List ℤ → List ℤ → List ℤ
twice_over z was = put_at (length z) (table (length z) (at z)) (put (table (length z) (at z)) was)

-- the numbers from 0 to (p-1)/2 are so many
abbrev pub half : ℕ → ℕ
half p = (p + 1) / 2

-- d places on in a period of p, or d back
abbrev pub away_by : Bool → ℕ → ℕ → ℕ
away_by back p d = cond back (p - d) d

-- at place k the sum of the numbers z that are a square on, or back, of one square for each number from 0 to (p-1)/2
unfoldable pub met : ℕ → Bool → (ℕ → ℤ) → ℕ → ℤ
met p back z k = sum (half p) (λ i. z ((k + away_by back p (i * i % p)) % p))
