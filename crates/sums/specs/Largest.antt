-- The largest of f 0, …, f (n - 1), and the smallest. Assumes nothing.
use Rattle.std.specs.Prelude.{ℕ, ℤ, pos, ◌-ℤ◌}
use Rattle.std.specs.Int.Signed.{le_z}
use Rattle.sums.specs.Lists.{seek, every}

-- the first place of the n at which f is at least as large as at every other
abbrev pub largest_at : ℕ → (ℕ → ℤ) → ℕ
largest_at n f = seek (λ k. every n (λ i. le_z (f i) (f k))) n 0

abbrev pub largest : ℕ → (ℕ → ℤ) → ℤ
largest n f = f (largest_at n f)

-- f where -f is largest
abbrev pub smallest : ℕ → (ℕ → ℤ) → ℤ
smallest n f = f (largest_at n (λ k. pos 0 -ℤ f k))
