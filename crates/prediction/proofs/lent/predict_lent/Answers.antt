-- `prediction::lent::predict_lent` meets its contract: an 8 that is found late is one in a room of zeros. Assumes nothing.
use mathlib.Core.Path.{◌≡◌, ap, ◌∙◌}
use mathlib.Core.List.{List}
use Prim.Native.Nat.{◌+◌}
use native.Mathlib.Omega.{arith}
use lib.IntN.{ℤ}
use Rattle.refusals.specs.Causes.{answer}
use Rattle.register.specs.Register.{P}
use Rattle.samples.specs.Samples.{cleared_wide}
use Rattle.samples.proofs.Rooms.{cleared_zeros}
use Rattle.prediction.proofs.Foretelling.{in_room}
use Rattle.prediction.proofs.lent.predict_lent.Goals as goal

pub returns : goal.returns
returns c =
    let a = c.args in
    let N = a.register.order in
    let cleared : c.fill_front.new.v ≡ cleared_wide (P N + 1) a.room.now = (rw c.requires.h_len.0 at c.fill_front.ensures) ∙ c.predict_in-predicted.ensures.1 in
    ap (λ (l : List ℤ). (answer c.predict_in-predicted.result, c.predict_in-predicted.new.out, l)) cleared
    ∙ in_room N a.register.taps a.h.now a.out.now c.predict_in-predicted.ensures.0 a.room.now
    (λ o. cleared_zeros (P N + 1) a.room.now (omega (arith, c.requires.h_len.2)) (λ i l. c.known_loud.ensures.zeros c.if-known_loud.false o i (omega arith)))
