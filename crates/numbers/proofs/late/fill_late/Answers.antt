-- `numbers::late::fill_late` meets its contract: after j turns the first j numbers are those that stood d places further on. Assumes nothing.
use mathlib.Core.Path.{◌≡◌, ap, ◌∙◌}
use native.Mathlib.Omega.{arith}
use lib.ListN.{length}
use mir.Syntax.{w32}
use Rattle.sums.specs.Lists.{at, table}
use Rattle.sums.specs.Turned.{onward, late}
use Rattle.sums.proofs.Bound.{read}
use Rattle.sums.proofs.Tables.{written_none, written_more, written_all}
use Rattle.numbers.proofs.late.fill_late.Goals as goal

pub loop-j-init : goal.loop-j-init
loop-j-init c = written_none

pub loop-j-preserved : goal.loop-j-preserved
loop-j-preserved c = written_more c.loop-j.invariant (omega arith) (read w32 _ (omega arith))

pub returns : goal.returns
unfolding late
returns c =
    let a = c.args in
    let e : length a.out.now ≡ length a.y.now = c.requires.3 in
    written_all c.loop-j.invariant (omega arith) ∙ ap (λ n. table n (λ i. at a.y.now (onward a.period a.d i))) e
