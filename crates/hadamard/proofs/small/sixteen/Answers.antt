-- `sixteen` meets its contract: each half by `eight`, and then the sums and the differences. Assumes nothing.
use Rattle.hadamard.proofs.Pieces.{of_order, left_asks, right_asks, halves_are, level-asks, level_is}
use Rattle.hadamard.proofs.small.sixteen.Goals as goal

pub eight-requires : goal.eight-requires
eight-requires c = left_asks (of_order 3 c.requires)

pub eight-requires-2 : goal.eight-requires-2
eight-requires-2 c = right_asks (of_order 3 c.requires) c.eight.ensures

pub butterflies-requires : goal.butterflies-requires
butterflies-requires c =
    let L = of_order 3 c.requires in
    level-asks L (halves_are L c.eight.ensures c.eight-2.ensures)

pub returns : goal.returns
returns c =
    let L = of_order 3 c.requires in
    level_is L (halves_are L c.eight.ensures c.eight-2.ensures) c.butterflies.ensures
