-- `logprogram::writing::put_rows` meets its contract. Assumes nothing.
use native.Mathlib.Omega.{arith}
use borrow.Author.Rules.{rules}
use mir.Syntax.{w32, w64}
use mir.Val.{SFits}
use Rattle.sums.specs.Lists as lists
use Rattle.sums.proofs.Bound.{wide, read}
use Rattle.logprogram.proofs.Rows.{rows_none, rows_more}
use Rattle.logprogram.proofs.writing.put_rows.Goals as goal

pub loop-k-init : goal.loop-k-init
loop-k-init c = let a = c.args in (omega arith, rows_none a.r.now a.mean.now a.at a.out.now)

pub loop-k-preserved : goal.loop-k-preserved
loop-k-preserved c =
    let l = c.loop-k in
    let a = c.args in
    let r : SFits w64 (lists.at a.r.now l.k) = search rules in
    let m : SFits w32 (lists.at a.mean.now l.k) = search rules in
    let q = rw (c.from.ensures, read w64 (lists.at a.r.now l.k) r.sfits, wide (lists.at a.mean.now l.k) m.sfits) at c.row_text.ensures.0 in (
      omega (arith, c.put_text-next.ensures.1, l.invariant.0),
      rows_more l.k a.r.now a.mean.now l.invariant.1 (rw q at c.put_text-next.ensures.0),
    )
