-- `register::doubling::tag_at` meets its contract: the tag is that of the bits passed. Assumes nothing.
use mathlib.Core.Path.{◌≡◌}
use Prim.Native.Nat.{◌/◌, ◌^◌}
use Rattle.register.specs.Register.{tag as tag_of}
use Rattle.register.proofs.doubling.tag_at.Given as goal

abbrev pub invariant-loop-k : goal.invariant-loop-k
invariant-loop-k l = l.tag ≡ tag_of l.order l.taps (l.m / 2 ^ l.k)
