-- `prediction::alone::predict_alone` meets its contract: either room has a place for each number of the orders that it serves. Assumes nothing.
use native.Mathlib.Omega.{arith}
use lib.Pow.{pow_mono}
use Prim.Native.Nat.{◌≤◌, ◌<◌}
use Rattle.register.specs.Register.{P}
use Rattle.prediction.proofs.alone.+predict_alone.Goals as goal

pub predict_within-requires-clause-room : goal.predict_within-requires-clause-room
predict_within-requires-clause-room t c =
    let to : c.args.register.order ≤ 12 = omega arith in
    let room : P c.args.register.order < 4096 = omega (arith, pow_mono to) in
    let small : 4096 ≤ 65536 = omega arith in (room, small)
