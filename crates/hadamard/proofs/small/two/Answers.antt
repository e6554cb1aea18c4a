-- `two` meets its contract: each half is one number, which is its own transform. Assumes nothing.
use Rattle.hadamard.proofs.Pieces.{of_order, alone, level-asks, level_is}
use Rattle.hadamard.proofs.small.two.Goals as goal

pub butterflies-requires : goal.butterflies-requires
butterflies-requires c = level-asks (of_order 0 c.requires) (alone c.requires)

pub returns : goal.returns
returns c = level_is (of_order 0 c.requires) (alone c.requires) c.butterflies.ensures
