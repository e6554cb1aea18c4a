-- `twos` meets its contract: each half by `two`. Assumes nothing.
use Rattle.hadamard.proofs.Pieces.{of_order, left_asks, right_asks, halves_are}
use Rattle.hadamard.proofs.small.twos.Goals as goal

pub two-requires : goal.two-requires
two-requires c = left_asks (of_order 1 c.requires)

pub two-requires-2 : goal.two-requires-2
two-requires-2 c = right_asks (of_order 1 c.requires) c.two.ensures

pub returns : goal.returns
returns c = halves_are (of_order 1 c.requires) c.two.ensures c.two-2.ensures
