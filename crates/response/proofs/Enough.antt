-- Document 02, request 7: one recording gets by on an output of P, P+1 wide numbers and P tags, whatever the order, and is refused with 6 exactly below
-- that. Assumes nothing.
use mathlib.Core.Path.{◌≡◌, refl}
use mathlib.Core.Logic.{◌↔◌, ◌⊎◌}
use mathlib.Core.Bool.{Bool}
use mathlib.Core.List.{List, [], ◌∷◌, ◌++◌}
use Prim.Native.Nat.{ℕ, ◌+◌, ◌≤◌, ◌<◌}
use lib.IntN.{ℤ}
use lib.ListN.{length}
use Rattle.sums.specs.Lists.{at}
use Rattle.sums.specs.Refusals.{first}
use Rattle.sums.proofs.First.{exactly, passed_over, answers_first}
use Rattle.samples.specs.Samples.{some_out, room_short}
use Rattle.samples.proofs.Rooms.{room_short_lem, room_enough}
use Rattle.register.specs.Register.{P}
use Rattle.response.specs.Calls.{given_checks, recording_checks, recording_outcome}

module _ (N taps : ℕ) (y out room : List ℤ) (tags : List ℕ) where
  abbrev short : Bool
  short = room_short (P N) (length out) (length room) (length tags)

  abbrev after : List (ℕ × Bool)
  after = (7, some_out (length y) (at y)) ∷ []

  told : (recording_outcome N taps y out room tags).0 ≡ first (recording_checks N taps y out room tags)
  unfolding recording_outcome
  told = answers_first (recording_checks N taps y out room tags) (λ (o : ℕ × List ℤ × List ℤ × List ℕ). o.0) _ _ (λ n. refl) refl

  pub six_exactly : ((recording_outcome N taps y out room tags).0 ≡ 6)
      ↔ ((first (given_checks N taps y) ≡ 0) × ((length out < P N) ⊎ (length room < P N + 1) ⊎ (length tags < P N)))
  six_exactly = exactly _ 6 (given_checks N taps y) short after told tt tt tt (room_short_lem (P N) (length room) (length tags) (length out))

  -- lent enough, it answers what its other checks say, and so never 6
  pub enough : P N ≤ length out → P N + 1 ≤ length room → P N ≤ length tags → let n = (recording_outcome N taps y out room tags).0 in
      (n ≡ 6 → ⊥) × (n ≡ first (given_checks N taps y ++ (7, some_out (length y) (at y)) ∷ []))
  enough o w t = passed_over _ 6 (given_checks N taps y) short after told tt (room_enough (P N) (length room) (length tags) (length out) o w t)
