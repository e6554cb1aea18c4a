-- `response::gather::gather` meets its contract: the places above k of both halves are written, and the tags are those of the delays gone through.
-- Assumes nothing.
use Prim.Native.Nat.{ℕ, ◌-◌}
use mathlib.Core.List.{List}
use lib.IntN.{ℤ, pos, ◌-ℤ◌}
use Rattle.sums.specs.Lists.{at}
use Rattle.sums.proofs.Placed.{Placed}
use Rattle.register.specs.Register.{tag as tag_of}
use Rattle.response.proofs.Strands.{Back, Tags}
use Rattle.response.proofs.gather.gather.Given as goal

-- what stands at place k
abbrev pub value : ℕ → ℕ → List ℤ → ℕ → ℕ → ℤ
value order taps t period k = at t (tag_of order taps (period - k)) -ℤ at t 0

abbrev pub invariant-loop-k : goal.invariant-loop-k
invariant-loop-k l = Tags l.register.order l.register.taps l.half l.k l.first l.second × Placed (pos 0) l.period (λ i. i) (value l.register.order l.register.taps l.t l.period) (Back l.half l.k) l.initial.out l.out
