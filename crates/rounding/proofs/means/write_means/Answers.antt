-- `rounding::means::write_means` meets its contract: a divisor that is few times a power of two has its reciprocal. Assumes nothing.
use mathlib.Core.Path.{◌≡◌, sym, subst, ◌∙◌}
use mathlib.Core.Bool.{false}
use Prim.Native.Nat.{ℕ, ◌+◌, ◌<◌}
use native.Mathlib.Omega.{arith}
use borrow.Author.Tests.{eqb-true, leb-true}
use lib.Dec.{eqb, leb}
use Rattle.std.proofs.Common.{rules}
use Rattle.sums.specs.Lists.{at}
use Rattle.sums.proofs.Everywhere.{and-true}
use Rattle.samples.specs.Samples.{sample_out}
use Rattle.rounding.specs.Halving.{Split}
use Rattle.rounding.specs.Rounding.{to_even, rounded}
use Rattle.rounding.proofs.Reciprocal.{split_few}
use Rattle.rounding.proofs.means.write_means.Goals as goal

pub write_each-requires-then-may_raise-clause-by_index : goal.write_each-requires-then-may_raise-clause-by_index
write_each-requires-then-may_raise-clause-by_index c =
    let a = c.args in
    let h = c.halve-times.result in
    let two = and-true (eqb a.edition 2) (leb h.rest 255) (sym c.may_raise.ensures ∙ c.if-may_raise.true) in
    let few : Split 255 a.divisor (h.times + 1) c.reciprocal-m.result =
    rw c.reciprocal-m.ensures (split_few a.divisor h.rest h.times c.halve-times.ensures.0 c.requires.period_in_bounds.2 255 (omega arith) (leb-true h.rest 255 two.1) c.halve-times.ensures.1) in
    let within : (k : ℕ) → k < a.period → sample_out (rounded to_even (at a.r.now k) a.divisor) ≡ false =
    subst (λ e. (k : ℕ) → k < a.period → sample_out (rounded e (at a.r.now k) a.divisor) ≡ false) (eqb-true a.edition 2 two.0) c.requires.by_index in
    search rules

pub write_each-requires-2-clause-by_index : goal.write_each-requires-2-clause-by_index
write_each-requires-2-clause-by_index c =
    let a = c.args in
    let h = c.halve-times.result in
    let few : Split 362 a.divisor (h.times + 1) c.reciprocal-m.result =
    rw c.reciprocal-m.ensures (split_few a.divisor h.rest h.times c.halve-times.ensures.0 c.requires.period_in_bounds.2 362 (omega arith) (omega arith) c.halve-times.ensures.1) in
    search rules
