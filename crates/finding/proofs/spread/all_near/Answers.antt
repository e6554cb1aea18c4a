-- `finding::spread::all_near` meets its contract: it has the largest and the smallest of the first sample and those passed. Assumes nothing.
use mathlib.Core.Path.{◌≡◌, ap, ap₂, ◌∙◌}
use native.Mathlib.Omega.{arith}
use lib.IntN.{pos, ◌-ℤ◌}
use lib.ListN.{length, take}
use lib.Seq.{take_all}
use lib.Signed.{le_z}
use Rattle.std.proofs.Common.{fold, ◌<◌}
use Rattle.std.proofs.lemmas.Bool.Decides.{nat_tests}
use Rattle.std.specs.Int.{int_max, int_min}
use Rattle.sums.specs.Lists.{at}
use Rattle.finding.proofs.Folded.{largest_folded, smallest_folded}
use Rattle.finding.specs.Finding.{dead_spread}
use Rattle.finding.proofs.spread.all_near.Goals as goal

pub returns : goal.returns
returns c =
    let y = c.args.y.now in
    let some : 0 < length y = grind (arith, nat_tests) in
    let all : take c.loop-x.x-index y ≡ y = take_all c.loop-x.x-index y (omega arith) in
    let high = c.loop-x.invariant.0 ∙ ap (fold int_max (at y 0)) all ∙ largest_folded y some in
    let low = c.loop-x.invariant.1 ∙ ap (fold int_min (at y 0)) all ∙ smallest_folded y some in
    c.near.ensures ∙ ap₂ (λ high low. le_z (high -ℤ low) (pos dead_spread)) high low
