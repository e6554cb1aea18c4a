-- `legendre::prediction::predict_all` meets its contract: what is looked through and copied is the prediction. Assumes nothing.
use mathlib.Core.Path.{◌≡◌, sym, ap, ◌∙◌}
use mathlib.Core.List.{List}
use native.Mathlib.Omega.{arith}
use lib.IntN.{ℤ, pos}
use lib.ListN.{length, take}
use mir.Syntax.{w32}
use mir.Val.{of_z, to_z}
use mir.Facts.{to_z-of_z}
use Rattle.sums.specs.Sum.{sum}
use Rattle.sums.specs.Lists.{at, table, put}
use Rattle.sums.proofs.Bound.{small_fits}
use Rattle.sums.proofs.Parts.{table_at}
use Rattle.sums.proofs.Tables.{length-table, at-replicate}
use Rattle.samples.specs.Samples.{some_out}
use Rattle.samples.proofs.Sizes.{table_out}
use Rattle.legendre.specs.Calls.{predicted}
use Rattle.legendre.specs.Working.{Passed}
use Rattle.legendre.proofs.OnesMeet.{few, sum_size}
use Rattle.legendre.proofs.Heard.{met_small, heard_small, heard_is}
use Rattle.legendre.proofs.prediction.predict_all.Goals as goal
use Rattle.legendre.proofs.prediction.predict_all.Goals.{After-hear, After-some_out}

-- the sum that is handed on
whole : (h : List ℤ) → Passed h → {r : ℤ} → r ≡ sum (length h) (at h) → to_z w32 (of_z w32 r) ≡ sum (length h) (at h)
whole h s {r} e = to_z-of_z {w = w32} {z = r} (rw e (small_fits w32 _ (omega (arith, sum_size h s)))) ∙ e

-- the samples
heard : (c : After-hear) → let h = c.args.h.now in take (length h) c.hear.new.sums ≡ table (length h) (predicted (length h) h)
heard c =
    let h = c.args.h.now in
    let s = c.requires.0 in
    heard_is h c.meet.new.sums s c.meet.ensures.1 _ (whole h s c.sum_all.ensures) c.hear.ensures

-- as many as the response has values
as_long : (c : After-hear) → let h = c.args.h.now in length (take (length h) c.hear.new.sums) ≡ length h
as_long c =
    let h = c.args.h.now in
    ap length (heard c) ∙ length-table (length h) (predicted (length h) h)

-- what the test says of them
tested : (c : After-some_out) → let h = c.args.h.now in c.some_out.result ≡ some_out (length h) (predicted (length h) h)
tested c =
    let h = c.args.h.now in
    let s = c.requires.0 in
    let e = heard_is h c.meet.new.sums s c.meet.ensures.1 _ (whole h s c.sum_all.ensures) c.hear.ensures in
    c.some_out.ensures ∙ ap (λ (l : List ℤ). some_out (length l) (at l)) e ∙ table_out (length h) (predicted (length h) h)

pub meet-requires : goal.meet-requires
meet-requires c = (c.requires.0, omega arith, λ k. at-replicate 128 k (pos 0))

pub slice_bounds-heard-end : goal.slice_bounds-heard-end
slice_bounds-heard-end c = omega (arith, (few c.args.h.now c.requires.0).1)

pub slice_bounds-some_out-end : goal.slice_bounds-some_out-end
slice_bounds-some_out-end c = sym (as_long (goal.at.slice_bounds-some_out-end c).After-hear)

pub returns-then-some_out : goal.returns-then-some_out
returns-then-some_out c = simp (sym (tested (goal.at.returns-then-some_out c).After-some_out) ∙ c.if-some_out.true)

pub slice_bounds-heard-end-2 : goal.slice_bounds-heard-end-2
slice_bounds-heard-end-2 c =
    omega (arith, (few c.args.h.now c.requires.0).1)

pub slice_bounds-copy_in-end : goal.slice_bounds-copy_in-end
slice_bounds-copy_in-end c = sym (as_long (goal.at.slice_bounds-copy_in-end c).After-hear)

pub returns : goal.returns
returns c =
    let a = c.args in
    let h = a.h.now in
    let e = c.copy_in.ensures ∙ ap (λ l. put (table (length l) (at l)) a.out.now) (heard (goal.at.returns c).After-hear) ∙ ap (λ l. put l a.out.now) (table_at (table (length h) (predicted (length h) h))) in
    rw e (simp (sym (tested (goal.at.returns c).After-some_out) ∙ c.if-some_out.false))

pub hear-requires-clause-p_in_bounds : goal.hear-requires-clause-p_in_bounds
hear-requires-clause-p_in_bounds c = omega (arith, c.meet.ensures.0, (few c.args.h.now c.requires.0).1)

pub hear-requires-clause-by_index : goal.hear-requires-clause-by_index
hear-requires-clause-by_index c =
    let h = c.args.h.now in
    let s = c.requires.0 in
    let sums = c.meet.new.sums in
    (met_small h sums s c.meet.ensures.1, heard_small h sums s c.meet.ensures.1 _ (whole h s c.sum_all.ensures))
