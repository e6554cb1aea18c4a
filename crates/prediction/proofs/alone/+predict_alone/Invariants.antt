-- `prediction::alone::predict_alone` calls itself for one order more: the measure is the orders left.
use Prim.Native.Nat.{◌-◌}
use Rattle.prediction.proofs.alone.+predict_alone.Given as goal

abbrev pub decreases-predict_alone : goal.decreases-predict_alone
decreases-predict_alone l = l.register.order - l.most
