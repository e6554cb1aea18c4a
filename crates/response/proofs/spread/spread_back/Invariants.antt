-- `response::spread::spread_back` meets its contract: the values above i of both halves are laid out, and the tags are those of the delays gone
-- through. Assumes nothing.
use Prim.Native.Nat.{◌-◌}
use lib.IntN.{pos}
use Rattle.sums.specs.Lists.{at}
use Rattle.sums.proofs.Placed.{Placed}
use Rattle.register.specs.Register.{P, tag as tag_of}
use Rattle.response.proofs.Strands.{Back, Tags}
use Rattle.response.proofs.spread.spread_back.Given as goal

abbrev pub invariant-loop-i : goal.invariant-loop-i
invariant-loop-i l = Tags l.register.order l.register.taps l.half l.i l.first l.second × Placed (pos 0) (P l.register.order) (λ j. tag_of l.register.order l.register.taps (P l.register.order - j)) (at l.h) (Back l.half l.i) l.initial.room l.room
