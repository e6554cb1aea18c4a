-- `register::taps::is_maximal` meets its contract: the tags return after P and after no smaller divisor of it just where the windows first return after P.
-- Assumes nothing.
use borrow.Author.Tests.{eq-eqb, ne_eqb}
use mathlib.Core.Path.{◌≡◌, sym, ap, ◌∙◌}
use mathlib.Core.Logic.{◌↔◌}
use mathlib.Core.Bool.{Bool, true, false, not, true≢false}
use Prim.Native.Nat.{ℕ}
use lib.Dec.{eqb}
use Rattle.register.specs.Register.{P, period, tag, Shaped}
use Rattle.register.specs.Doubling.{returns_early}
use Rattle.register.proofs.Divisors.{by_divisors}
use Rattle.register.proofs.Judged.{maximal_period}
use Rattle.register.proofs.TagReturn.{maximal_by_tags}
use Rattle.register.proofs.taps.is_maximal.Goals as goal

same-return : (N taps : ℕ) → Shaped N taps → ((tag N taps (P N) ≡ 1) × (returns_early N taps ≡ false)) ↔ (period N taps ≡ P N)
same-return N taps s = (
  λ e. (maximal_period N taps s.tapped).1 ((maximal_by_tags N taps s.tapped).0 ((by_divisors N taps s.tapped).0 e)),
  λ e. (by_divisors N taps s.tapped).1 ((maximal_by_tags N taps s.tapped).1 ((maximal_period N taps s.tapped).0 e)),
)

-- what the tags leave to say, where they are back after P
decided : (N taps : ℕ) → Shaped N taps → (early : Bool) → tag N taps (P N) ≡ 1 → early ≡ returns_early N taps → not early ≡ eqb (period N taps) (P N)
decided N taps s true t e = sym (ne_eqb (period N taps) (P N) (λ q. true≢false (e ∙ ((same-return N taps s).1 q).1)))
decided N taps s false t e = sym (eq-eqb (period N taps) (P N) ((same-return N taps s).0 (t, sym e)))

pub returns-then-tag_at-eq1 : goal.returns-then-tag_at-eq1
returns-then-tag_at-eq1 c =
    let a = c.args in
    decided a.order a.taps c.requires c.returns_early.result (sym (ap (tag a.order a.taps) c.full_period.ensures) ∙ sym c.tag_at.ensures ∙ c.if-tag_at-eq1.true) c.returns_early.ensures

pub returns-else-tag_at-eq1 : goal.returns-else-tag_at-eq1
returns-else-tag_at-eq1 c =
    let a = c.args in
    ne_eqb c.tag_at.result 1 c.if-tag_at-eq1.false
    ∙ sym (ne_eqb (period a.order a.taps) (P a.order) (λ q. c.if-tag_at-eq1.false (c.tag_at.ensures ∙ ap (tag a.order a.taps) c.full_period.ensures ∙ ((same-return a.order a.taps c.requires).1 q).0)))
