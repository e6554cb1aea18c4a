-- `records::stored::add_row` meets its contract: the samples passed are added, and what is said of them is whether all were between the
-- bounds. Assumes nothing.
use mathlib.Core.Path.{◌≡◌}
use mathlib.Core.Bool.{Bool, ◌&&◌}
use Prim.Native.Nat.{ℕ, ◌≤◌, ◌<◌}
use lib.IntN.{ℤ, ◌+ℤ◌}
use lib.ListN.{length}
use Rattle.sums.specs.Lists.{at, every}
use lib.Signed.{le_z}
use Rattle.records.proofs.stored.add_row.Given as goal

abbrev pub bounded : ℤ → ℤ → ℤ → Bool
bounded low high z = le_z low z && le_z z high

abbrev pub invariant-loop-j : goal.invariant-loop-j
invariant-loop-j l = (l.j ≤ length l.row) × (l.good ≡ every l.j (λ i. bounded l.low l.high (at l.row i))) × (length l.sums ≡ length l.initial.sums)
    × ((i : ℕ) → i < l.j → at l.sums i ≡ at l.initial.sums i +ℤ at l.row i) × ((i : ℕ) → l.j ≤ i → at l.sums i ≡ at l.initial.sums i)
