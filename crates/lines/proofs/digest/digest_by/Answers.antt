-- `lines::digest::digest_by` meets its contract: of the values passed d is the digest, whatever they are turned into. Assumes nothing.
use mathlib.Core.Path.{◌≡◌, sym, ap, subst, ◌∙◌}
use native.Mathlib.Omega.{arith}
use lib.ListN.{length}
use mir.Syntax.{w64}
use Rattle.sums.proofs.Bound.{read}
use Rattle.lines.specs.Digest.{digest}
use Rattle.lines.proofs.Folding.{digest-none, digest_more}
use Rattle.lines.proofs.digest.digest_by.Goals as goal

pub loop-x-init : goal.loop-x-init
loop-x-init g c = (omega arith, λ f h. sym (digest-none f))

pub loop-x-preserved : goal.loop-x-preserved
loop-x-preserved g c =
    let i = c.loop-x.x-index in
    let r = c.number.result in
    let given = subst (λ x. g.F.Fn.post c.args.number (x, tt) r) c.x-item.is c.number.ensures in
    (c.fold-d.ensures.1, λ f h. digest_more f i c.fold-d.ensures.0 (c.loop-x.invariant.1 f h) (read w64 r c.number.type_inv ∙ h i c.x-item.result r c.loop-x-test.true given))

pub returns : goal.returns
returns g c =
    let e : c.loop-x.x-index ≡ length c.args.v.now = omega arith in
    λ f h. c.loop-x.invariant.1 f h ∙ ap (λ n. digest n f) e
