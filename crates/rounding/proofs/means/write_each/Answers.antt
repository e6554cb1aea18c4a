-- `rounding::means::write_each` meets its contract: after k turns the first k numbers are written, whatever is made of each. Assumes nothing.
use mathlib.Core.Path.{◌≡◌, subst, ◌∙◌}
use native.Mathlib.Omega.{arith}
use mir.Syntax.{w32, w64}
use Rattle.sums.specs.Lists.{at, table, put}
use Rattle.sums.proofs.Bound.{read}
use Rattle.sums.proofs.Tables.{written_none, written_more}
use Rattle.rounding.proofs.means.write_each.Goals as goal

pub loop-k-init : goal.loop-k-init
loop-k-init g c = λ f h. written_none

pub loop-k-preserved : goal.loop-k-preserved
loop-k-preserved g c =
    let k = c.loop-k.k in
    let x = at c.args.r.now k in
    let z = c.mean.result in
    let given = subst (λ x. g.F.Fn.post c.args.mean (x, tt) z) (read w64 x (omega arith)) c.mean.ensures in
    λ f h. written_more (c.loop-k.invariant f h) (omega arith) (read w32 z c.mean.type_inv ∙ h k z c.loop-k-test.true given)

pub returns : goal.returns
returns g c =
    let e : c.loop-k.k ≡ c.args.period = omega arith in
    λ f h. subst (λ n. c.loop-k.out ≡ put (table n f) c.args.out.now) e (c.loop-k.invariant f h).is
