-- `prediction::direct::known_loud` meets its contract. Assumes nothing.
use mathlib.Core.Path.{sym, subst, ◌∙◌}
use mathlib.Core.Bool.{true≢false}
use Prim.Native.Nat.{ℕ, ◌≤◌}
use lib.IntN.{nat_abs}
use Rattle.sums.specs.Sum.{total}
use Rattle.sums.specs.Lists.{at}
use Rattle.prediction.proofs.Terms.{never_loud}
use Rattle.prediction.proofs.direct.known_loud.Goals as goal

pub returns-then-not-may_be_loud-clause-zeros : goal.returns-then-not-may_be_loud-clause-zeros
returns-then-not-may_be_loud-clause-zeros c =
    let h = c.args.h.now in
    let quiet = subst (λ (n : ℕ). total n (λ i. nat_abs (at h i)) ≤ 8388607) c.requires.h_len.0 (c.may_be_loud.ensures (c.if-not-may_be_loud.true)) in
    (λ _ t. absurd (true≢false (sym t ∙ never_loud c.args.register.order c.args.register.taps h quiet)))
