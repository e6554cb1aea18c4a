-- `register::doubling::window_at` meets its contract: after i turns the window's i lowest bits are there, and the tag is that of the next.
-- Assumes nothing.
use mathlib.Core.Path.{◌≡◌}
use Prim.Native.Nat.{◌+◌, ◌%◌, ◌^◌, ◌≤◌}
use Rattle.register.specs.Register.{window as window_of, tag as tag_of}
use Rattle.register.proofs.doubling.window_at.Given as goal

abbrev pub invariant-loop-i : goal.invariant-loop-i
invariant-loop-i l = (l.i ≤ l.order) × (l.window ≡ window_of l.order l.taps l.m % 2 ^ l.i) × (l.tag ≡ tag_of l.order l.taps (l.m + l.i))
