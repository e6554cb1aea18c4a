-- `trend::measuring::read_extremes` meets its contract: each extreme is that of the last places passed, and the tag is that of the delay reached.
-- Assumes nothing.
use mathlib.Core.Path.{◌≡◌}
use mathlib.Core.List.{List}
use Prim.Native.Nat.{ℕ, ◌-◌, ◌≤◌}
use lib.IntN.{ℤ, pos, nat_abs, ◌-ℤ◌}
use Rattle.sums.specs.Lists.{at}
use Rattle.register.specs.Register.{tag as tag_of}
use Rattle.sums.proofs.Scanning.{Best}
use Rattle.trend.proofs.measuring.read_extremes.Given as goal

-- what stands at place k
abbrev pub value : ℕ → ℕ → List ℤ → ℕ → ℕ → ℤ
value order taps t period k = at t (tag_of order taps (period - k)) -ℤ at t 0

-- by what each extreme is the largest
abbrev pub plain : ℤ → ℤ
plain z = z

abbrev pub minus : ℤ → ℤ
minus z = pos 0 -ℤ z

abbrev pub sized : ℤ → ℤ
sized z = pos (nat_abs z)

abbrev pub invariant-loop : goal.invariant-loop
invariant-loop l =
    let v = value l.register.order l.register.taps l.t l.period in
    (l.counter ≤ l.period) × (l.tag ≡ tag_of l.register.order l.register.taps l.counter)
    × Best plain v l.period (l.period - l.counter) l.highest
    × Best minus v l.period (l.period - l.counter) l.lowest
    × Best sized v l.period (l.period - l.counter) l.peak
