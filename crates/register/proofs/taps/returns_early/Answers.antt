-- `register::taps::returns_early` meets its contract: no divisor passed has a return. Assumes nothing.
use mathlib.Core.Path.{◌≡◌, refl, sym, ap, ◌∙◌}
use Prim.Native.Nat.{ℕ, suc, ◌+◌, ◌-◌, ◌≤◌}
use native.Mathlib.Omega.{arith}
use Rattle.sums.specs.Lists.{some}
use Rattle.sums.proofs.Somewhere.{some_at, some_past}
use Rattle.register.specs.Doubling.{root_bound, returns_at}
use Rattle.register.proofs.Divisors.{root_bound_le}
use Rattle.register.proofs.taps.returns_early.Invariants.{test}
use Rattle.register.proofs.taps.returns_early.Goals as goal
use Rattle.register.proofs.taps.returns_early.Goals.{After-root_bound-end}

-- place d - 1 is that of d
at_place : (N taps d : ℕ) → 1 ≤ d → test N taps (d - 1) ≡ returns_at N taps d
at_place N taps d h = let e : d - 1 + 1 ≡ d = omega arith in ap (returns_at N taps) e

-- where the loop ends
ends : (c : After-root_bound-end) → c.root_bound-end.result ≡ root_bound c.args.order
ends c = c.root_bound-end.ensures

pub loop-d-init : goal.loop-d-init
unfolding some
loop-d-init c = (omega arith, refl)

pub returns_at-requires : goal.returns_at-requires
returns_at-requires c =
    (c.requires.0, c.requires.1, c.full_period-whole.ensures, omega arith, omega (arith, ends (goal.at.returns_at-requires c).After-root_bound-end, root_bound_le c.args.order c.args.taps c.requires.1))

pub returns-then-returns_at : goal.returns-then-returns_at
returns-then-returns_at c =
    let a = c.args in
    let l = c.loop-d in
    sym (some_at (test a.order a.taps) (root_bound a.order - 1) (l.d - 1) (omega (arith, ends (goal.at.returns-then-returns_at c).After-root_bound-end)) (at_place a.order a.taps l.d l.invariant.0 ∙ sym c.returns_at.ensures ∙ c.if-returns_at.true))

pub loop-d-preserved : goal.loop-d-preserved
loop-d-preserved c =
    let a = c.args in
    let l = c.loop-d in
    let e : suc (l.d - 1) ≡ l.d + 1 - 1 = omega arith in (
      omega arith,
      ap (λ n. some n (test a.order a.taps)) (sym e)
          ∙ some_past (test a.order a.taps) (l.d - 1) (at_place a.order a.taps l.d l.invariant.0 ∙ sym c.returns_at.ensures ∙ c.if-returns_at.false) l.invariant.1,
    )
