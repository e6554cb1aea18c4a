-- `eight` meets its contract: each quarter by `twos`, and then two levels. Assumes nothing.
use Rattle.hadamard.proofs.Pieces.{of_order_deep, whole, left_asks, rest_asks, quarters_are, quads_ask, quads_are}
use Rattle.hadamard.proofs.small.eight.Goals as goal

pub twos-requires : goal.twos-requires
twos-requires c = left_asks (whole (of_order_deep 1 c.requires))

pub twos-requires-2 : goal.twos-requires-2
twos-requires-2 c = rest_asks (of_order_deep 1 c.requires) c.twos.ensures

pub quads-requires : goal.quads-requires
quads-requires c =
    let D = of_order_deep 1 c.requires in
    quads_ask D (quarters_are D c.twos.ensures c.twos-2.ensures)

pub returns : goal.returns
returns c =
    let D = of_order_deep 1 c.requires in
    quads_are D (quarters_are D c.twos.ensures c.twos-2.ensures) c.quads.ensures
