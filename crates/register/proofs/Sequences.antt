-- Document 01, "Sequence and register": its three sequences, computed. Assumes nothing.
use mathlib.Core.Path.{◌≡◌, refl}
use mathlib.Core.List.{[], ◌∷◌}
use lib.Count.{ones}
use Rattle.sums.specs.Lists.{table}
use Rattle.register.specs.Register.{dot, step, window, bit}

pub order_3_taps_3 : table 7 (bit 3 3) ≡ 1 ∷ 1 ∷ 1 ∷ 0 ∷ 0 ∷ 1 ∷ 0 ∷ []
unfolding table bit window step dot ones
order_3_taps_3 = refl

pub order_3_taps_5 : table 7 (bit 3 5) ≡ 1 ∷ 1 ∷ 1 ∷ 0 ∷ 1 ∷ 0 ∷ 0 ∷ []
unfolding table bit window step dot ones
order_3_taps_5 = refl

pub order_4_taps_3 : table 15 (bit 4 3) ≡ 1 ∷ 1 ∷ 1 ∷ 1 ∷ 0 ∷ 0 ∷ 0 ∷ 1 ∷ 0 ∷ 0 ∷ 1 ∷ 1 ∷ 0 ∷ 1 ∷ 0 ∷ []
unfolding table bit window step dot ones
order_4_taps_3 = refl
