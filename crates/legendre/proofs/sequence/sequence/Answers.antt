-- `legendre::sequence::sequence` meets its contract: 25 by the period, 6 by the length. Assumes nothing.
use borrow.Author.Tests.{lt-ltb, le-ltb}
use mathlib.Core.Path.{◌≡◌, sym, ap, ◌∙◌}
use mathlib.Core.Bool.{true, false}
use mathlib.Core.List.{List}
use Prim.Native.Nat.{ℕ, ◌≤◌, ◌<◌}
use native.Mathlib.Omega.{arith}
use lib.ListN.{length}
use Rattle.sums.specs.Lists.{table, put}
use Rattle.legendre.specs.Legendre.{offered, bit}
use Rattle.legendre.specs.Calls.{sequence_outcome}
use Rattle.legendre.proofs.Offered.{short}
use Rattle.legendre.proofs.sequence.sequence.Goals as goal
use Rattle.legendre.proofs.sequence.sequence.Goals.{Else-not-offers}

-- the outcome, check by check
module _ (p : ℕ) (out : List ℕ) where
  other : offered p ≡ false → sequence_outcome p out ≡ (25, out)
  unfolding sequence_outcome
  other e = simp e

  module _ (o : offered p ≡ true) where
    six : length out < p → sequence_outcome p out ≡ (6, out)
    unfolding sequence_outcome
    six s = simp (o, lt-ltb (length out) p s)

    done : p ≤ length out → sequence_outcome p out ≡ (0, put (table p (bit p)) out)
    unfolding sequence_outcome
    done s = simp (o, le-ltb (length out) p s)

one : (c : Else-not-offers) → offered c.args.p ≡ true
one c = sym c.offers.ensures ∙ c.if-not-offers.false

pub returns-then-not-offers : goal.returns-then-not-offers
returns-then-not-offers c = let a = c.args in sym (other a.p a.out.now (sym c.offers.ensures ∙ c.if-not-offers.true))

pub returns-then-out-count : goal.returns-then-out-count
returns-then-out-count c = let a = c.args in sym (six a.p a.out.now (one (goal.at.returns-then-out-count c).Else-not-offers) (omega arith))

pub write_bits-requires : goal.write_bits-requires
write_bits-requires c =
    let few = short c.args.p (one (goal.at.write_bits-requires c).Else-not-offers) in
    (few.0, few.1, omega arith)

pub returns : goal.returns
returns c =
    let a = c.args in
    ap (λ l. (0, l)) c.write_bits.ensures ∙ sym (done a.p a.out.now (one (goal.at.returns c).Else-not-offers) (omega arith))
