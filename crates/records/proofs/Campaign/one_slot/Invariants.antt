-- `records::Campaign::one_slot` meets its contract: every day passed does not stand or has one slot. Assumes nothing.
use mathlib.Core.Path.{◌≡◌}
use mathlib.Core.Bool.{Bool, true, not, ◌||◌}
use Prim.Native.Nat.{ℕ, ◌+◌, ◌-◌}
use lib.Dec.{eqb}
use Rattle.sums.specs.Lists.{every, many}
use Rattle.records.specs.Record.{stands, slot}
use Rattle.records.specs.declared.Campaign.{Campaign}
use Rattle.records.proofs.Campaign.one_slot.Given as goal

abbrev pub once : Campaign → ℕ → Bool
once c d = not (stands c d) || eqb (many c.capacity (λ s. eqb (slot c s) d)) 1

abbrev pub invariant-loop-d : goal.invariant-loop-d
invariant-loop-d l = every (l.d - 1) (λ i. once l.self (i + 1)) ≡ true
