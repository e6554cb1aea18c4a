-- The player's calls, each by one function from all that is handed in to all that is handed back: document 01, "Sequence and register",
-- "Refusal numbers" and "Order of checks". Assumes nothing.
use Rattle.std.specs.Prelude.{ℕ, zero, suc, ◌+◌, ◌%◌, ◌^◌, Bool, ◌||◌, List, [], ◌∷◌, ◌++◌, length, ℤ, ◌==◌, nat_le, Result, Ok, Err}
use Rattle.sums.specs.Sum.{sign}
use Rattle.sums.specs.Lists.{table}
use Rattle.sums.specs.Refusals.{outcome}
use Rattle.refusals.specs.Causes.{answer, numbered}
use Rattle.register.specs.Register.{P, step}
use Rattle.register.specs.Calls.{shape_checks}
use Rattle.player.specs.declared.Player.{Player}
use Rattle.player.specs.declared.Stepped as step_code
use Rattle.player.specs.declared.Played as play_code

-- ---- new player: 1, 2, 3

abbrev pub fresh_player : ℕ → ℕ → Player
fresh_player N taps = record { order = N; taps = taps; window = P N; count = 0 }

unfoldable pub new_outcome : ℕ → ℕ → Result Player ℕ
new_outcome N taps = outcome (shape_checks N taps) Err (Ok (fresh_player N taps))

-- ---- player step: 1, 2, 3, 16; the next sign, and the player

-- 16: player's window zero or not below 2^N
abbrev pub window_out : ℕ → ℕ → Bool
window_out N window = window == 0 || nat_le (2 ^ N) window

abbrev pub step_checks : Player → List (ℕ × Bool)
step_checks p = shape_checks p.order p.taps ++ (16, window_out p.order p.window) ∷ []

-- the count runs modulo 4,294,967,296
abbrev pub onward : ℕ → ℕ
onward count = (count + 1) % 2 ^ 32

abbrev pub advanced : Player → Player
advanced p =
    record { order = p.order; taps = p.taps; window = step p.order p.taps p.window; count = onward p.count }

-- a sign or a refusal's number, and the player
pub record Stepped : Type 0 where
  pub tick : Result ℤ ℕ
  pub player : Player

abbrev pub stepped_as : step_code.Stepped → Stepped
stepped_as s = record { tick = numbered s.tick; player = s.player }

unfoldable pub step_outcome : Player → Stepped
step_outcome p =
    outcome (step_checks p) (λ n. record { tick = Err n; player = p })
    (record { tick = Ok (sign (p.window % 2)); player = advanced p })

-- ---- a block of signs: the player step's checks; the answer and the player, and a sign at each place

-- the player after k steps
unfoldable pub after : Player → ℕ → Player
after p zero = p
after p (suc k) = advanced (after p k)

-- the sign that it gives then
abbrev pub sign_after : Player → ℕ → ℤ
sign_after p k = sign ((after p k).window % 2)

-- 0 or a refusal's number, and the player
pub record Played : Type 0 where
  pub answer : ℕ
  pub player : Player

abbrev pub played_as : play_code.Played → Played
played_as p = record { answer = answer p.answer; player = p.player }

unfoldable pub play_outcome : Player → List ℤ → Played × List ℤ
play_outcome p signs =
    outcome (step_checks p) (λ n. (record { answer = n; player = p }, signs))
    (record { answer = 0; player = after p (length signs) }, table (length signs) (sign_after p))
