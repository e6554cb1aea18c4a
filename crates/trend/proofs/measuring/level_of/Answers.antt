-- `trend::measuring::level_of` meets its contract: both casts are exact, and the machine's one division is the contract's. Assumes nothing.
use mir.Facts.{to_z-of_z}
use Rattle.trend.specs.Calls.{level}
use Rattle.trend.proofs.measuring.level_of.Goals as goal

pub returns : goal.returns
unfolding level
returns c = rw (to_z-of_z c.ranges.z)
