-- The fast route's steps, as the contracts of its functions cite them: numbers laid out by places, and the transform read. Assumes nothing.
use Rattle.std.specs.Prelude.{◌≡◌, List, ℕ, ◌-◌, ◌^◌, ◌<◌, ℤ, pos, ◌-ℤ◌, length, take}
use Rattle.sums.specs.Lists.{at}
use Rattle.register.specs.Register.{P, tag}
use Rattle.hadamard.specs.Transform.{transformed}

-- v is was with 0 at place 0 and y j at `place j`; past P it is as it was
pub record Laid (P : ℕ) (place : ℕ → ℕ) (y : ℕ → ℤ) (was v : List ℤ) : Type 0 where
  pub long : length v ≡ length was
  pub empty : at v 0 ≡ pos 0
  pub each : (j : ℕ) → j < P → at v (place j) ≡ y j
  pub tail : (i : ℕ) → P < i → at v i ≡ at was i

-- number u of the transform of the first 2 ^ N
abbrev pub spectrum : ℕ → List ℤ → ℕ → ℤ
spectrum N v u = transformed N (take (2 ^ N) v) u

-- what is read at place k: at the tag of the delay P - k, less at 0
abbrev pub read : ℕ → ℕ → List ℤ → ℕ → ℤ
read N taps v k = spectrum N v (tag N taps (P N - k)) -ℤ spectrum N v 0
