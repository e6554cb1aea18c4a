-- `rounding::means::write_each` meets its contract: after k turns the first k numbers are written, whatever is made of each. Assumes nothing.
use Rattle.std.proofs.Common.{◌≡◌, ℕ, ◌<◌, ℤ}
use Rattle.sums.specs.Lists.{at}
use Rattle.sums.proofs.Tables.{Written}
use Rattle.rounding.proofs.means.write_each.Given as goal

abbrev pub invariant-loop-k : goal.invariant-loop-k
invariant-loop-k g l =
    (f : ℕ → ℤ) → ((k : ℕ) (z : ℤ) → k < l.period → goal.F-post g l.mean (at l.r k) z → z ≡ f k) → Written l.k f l.initial.out l.out
