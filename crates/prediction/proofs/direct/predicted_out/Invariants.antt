-- `prediction::direct::predicted_out` meets its contract: the sum has the terms passed. Assumes nothing.
use Rattle.prediction.proofs.Terms.{Summed}
use Rattle.prediction.proofs.direct.predicted_out.Given as goal

abbrev pub invariant-loop-i : goal.invariant-loop-i
invariant-loop-i l = Summed l.register.order l.register.taps l.h l.window l.y l.w l.i
