-- The doors of the register, the default taps and the player: a player crosses as its four numbers, and an answer's case as its number beside what is lent for its value, which
-- a refusal leaves as it was. Assumes nothing.
use Rattle.std.specs.Prelude.{List, ℕ, ℤ, Result}
use Rattle.sums.specs.Refusals.{meant}
use Rattle.refusals.specs.Causes.{means, result_number}
use Rattle.player.specs.declared.Player.{Player}
use Rattle.defaults.specs.Calls.{default_outcome}
use Rattle.player.specs.Calls.{Stepped, Played, new_outcome, step_outcome, play_outcome}

abbrev pub player_of : ℕ → ℕ → ℕ → ℕ → Player
player_of N taps window count = record { order = N; taps = taps; window = window; count = count }

-- ---- default taps: the answer and the taps

abbrev pub default_out : ℕ → Result ℕ ℕ → ℕ × ℕ
default_out was d = meant was (means d)

abbrev pub default_door : ℕ → ℕ → ℕ × ℕ
default_door N was = default_out was (default_outcome N)

-- ---- new player: the answer and the player

abbrev pub new_out : Player → Result Player ℕ → ℕ × Player
new_out was n = meant was (means n)

abbrev pub new_door : ℕ → ℕ → Player → ℕ × Player
new_door N taps was = new_out was (new_outcome N taps)

-- ---- player step: the answer, the player and the sign

abbrev pub stepped_out : ℤ → Stepped → ℕ × Player × ℤ
stepped_out was s = (result_number s.tick, s.player, (means s.tick).1 was)

abbrev pub step_door : Player → ℤ → ℕ × Player × ℤ
step_door p was = stepped_out was (step_outcome p)

-- ---- a block of signs: the answer, the player and the signs

abbrev pub played_out : Played × List ℤ → ℕ × Player × List ℤ
played_out (p, signs) = (p.answer, p.player, signs)

abbrev pub play_door : Player → List ℤ → ℕ × Player × List ℤ
play_door p signs = played_out (play_outcome p signs)
