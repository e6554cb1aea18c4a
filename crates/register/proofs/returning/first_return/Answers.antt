-- `register::returning::first_return` meets its contract: of the windows gone by none is all ones. Assumes nothing.
use mathlib.Core.Path.{◌≡◌, sym, ap, ◌∙◌}
use Prim.Native.Nat.{ℕ, ◌≤◌, ◌<◌}
use native.Mathlib.Decide.{ℕ_discrete, dec_lt}
use native.Mathlib.Omega.{arith}
use lib.Pow.{pow-lt}
use Rattle.register.specs.Register.{P, period, window as window_of, Tapped}
use Rattle.register.proofs.Judged.{first_return}
use Rattle.register.proofs.Windows.{window-lt, window-next}
use Rattle.register.proofs.returning.first_return.Goals as goal

-- the first return is the only one with none before it
only : (N taps k : ℕ) → Tapped N taps → 0 < k → k ≤ P N → ((i : ℕ) → 0 < i → i < k → window_of N taps i ≡ P N → ⊥) → (k < P N → window_of N taps k ≡ P N)
    → k ≡ period N taps
only N taps k t p l none here =
    let r = first_return N taps t in
    elim (dec_lt k (period N taps)) [
      | yes a ↦ absurd (r.before k p a (here (omega (arith, r.within))))
      | no a ↦ elim (dec_lt (period N taps) k) [ yes b ↦ absurd (none (period N taps) r.some b r.here) | no b ↦ omega arith ]
    ]

pub loop-k-init : goal.loop-k-init
unfolding window_of
loop-k-init c = (
  omega arith,
  window-next c.args.order c.args.taps 0 c.full_period-ones.ensures c.step-window.ensures,
  λ i a b. absurd (omega arith),
)

pub returns-then-window-ones : goal.returns-then-window-ones
returns-then-window-ones c =
    let l = c.loop-k in
    let e = c.full_period-ones.ensures in
    only c.args.order c.args.taps l.k c.requires.tapped l.invariant.0 (omega (arith, e, pow-lt c.requires.tapped.some)) l.invariant.2
    (λ _. sym l.invariant.1 ∙ c.if-window-ones.true ∙ e)

pub loop-k-preserved : goal.loop-k-preserved
loop-k-preserved c =
    let l = c.loop-k in
    let e = c.full_period-ones.ensures in (
      omega arith,
      window-next c.args.order c.args.taps l.k l.invariant.1 c.step-window-in-loop-k.ensures,
      λ i a b z. elim (ℕ_discrete i l.k) [
        | yes g ↦ c.if-window-ones.false (l.invariant.1 ∙ ap (window_of c.args.order c.args.taps) (sym g) ∙ z ∙ sym e)
        | no g ↦ l.invariant.2 i a (omega arith) z
      ],
    )

pub returns : goal.returns
returns c =
    let l = c.loop-k in
    let e = c.full_period-ones.ensures in
    let k : c.full_period-ones.result ≡ l.k = omega (arith, e, pow-lt c.requires.tapped.some) in
    k ∙ only c.args.order c.args.taps l.k c.requires.tapped l.invariant.0 (omega (arith, e)) l.invariant.2 (λ h. absurd (omega (arith, e)))

pub step-window-requires-in-loop-k-clause-window_bound : goal.step-window-requires-in-loop-k-clause-window_bound
step-window-requires-in-loop-k-clause-window_bound c =
    let l = c.loop-k in
    (rw l.invariant.1 (window-lt c.args.order c.args.taps l.k))
