-- A new player's window, sign and count after k steps are those of place k, the count modulo 2^32, for any taps with tap 0 set, maximal or
-- not. The count modulo P is not the place once it has wrapped: at order 3, after 2^32 steps, it says 0 and the place is 4. Assumes nothing.
use Rattle.std.proofs.Common.{◌≡◌, ℕ, zero, suc, ◌+◌, ◌%◌, ◌^◌, ◌<◌, refl, ap, ◌∙◌, mod-eq_of_lt, add-one, arith, Ok}
use native.Mathlib.Nat.{mod-add-mod}
use lib.Count.{ones}
use Rattle.sums.specs.Sum.{sign}
use Rattle.sums.specs.Lists.{seek}
use Rattle.sums.specs.Refusals.{first}
use Rattle.register.specs.Register.{dot, step, window, wave, bit, period, P, Tapped, Shaped}
use Rattle.player.specs.Calls.{step_checks, onward, fresh_player, new_outcome, step_outcome}
use Rattle.player.specs.declared.Player.{Player}
use Rattle.register.proofs.Windows.{window-lt}
use Rattle.register.proofs.Orbit.{window-pos, window_rounds}
use Rattle.register.proofs.Judged.{passes_shape, maximal_period}
use Rattle.player.proofs.Playable.{passes_step}

-- ---- the count

pub after-largest : onward 4294967295 ≡ 0
after-largest = refl

pub by_one : (count : ℕ) → count < 4294967295 → onward count ≡ count + 1
by_one count h = mod-eq_of_lt {m = 2 ^ 32} (omega arith)

-- ---- the player after k steps of a new one

pub played : ℕ → ℕ → ℕ → Player
played N taps zero = fresh_player N taps
played N taps (suc k) = (step_outcome (played N taps k)).player

-- the player of place k
abbrev pub placed : ℕ → ℕ → ℕ → Player
placed N taps k = record { order = N; taps = taps; window = window N taps k; count = k % 2 ^ 32 }

module _ (N taps : ℕ) (s : Shaped N taps) where
  pub made : new_outcome N taps ≡ Ok (fresh_player N taps)
  unfolding new_outcome
  made = rw (passes_shape N taps s)

  goes : (k : ℕ) → first (step_checks (placed N taps k)) ≡ 0
  goes k =
      passes_step (placed N taps k) (record { shaped = s; some = window-pos N taps s.tapped k; fits = window-lt N taps k })

  -- a step from place k gives the sign of place k, and leads to place k + 1
  pub gives : (k : ℕ) → (step_outcome (placed N taps k)).tick ≡ Ok (wave N taps k)
  unfolding step_outcome wave bit
  gives k = rw (goes k)

  leads : (k : ℕ) → (step_outcome (placed N taps k)).player ≡ placed N taps (suc k)
  unfolding step_outcome window
  leads k = rw (goes k) (ap (λ n. record { order = N; taps = taps; window = window N taps (suc k); count = n }) (mod-add-mod k (2 ^ 32) 1 ∙ ap (λ n. n % 2 ^ 32) (add-one k)))

  pub place : (k : ℕ) → played N taps k ≡ placed N taps k
  unfolding played window
  place zero = refl
  place (suc k) = ap (λ p. (step_outcome p).player) (place k) ∙ leads k

  pub sign_at : (k : ℕ) → (step_outcome (played N taps k)).tick ≡ Ok (wave N taps k)
  sign_at k = ap (λ p. (step_outcome p).tick) (place k) ∙ gives k

-- ---- the count is not the place

seven : period 3 3 ≡ P 3
unfolding period seek window step dot ones
seven = refl

four : (bit 3 3 4 ≡ 0) × (bit 3 3 0 ≡ 1)
unfolding bit window step dot ones
four = (refl, refl)

-- at order 3, taps 3, after 2^32 steps the count says 0, where a 1 goes out; the player is at place 4 and gives the sign of a 0
pub count_misleads : ((played 3 3 (2 ^ 32)).count ≡ 0) × ((step_outcome (played 3 3 (2 ^ 32))).tick ≡ Ok (sign 0)) × (wave 3 3 (0 % P 3) ≡ sign 1)
unfolding wave bit
count_misleads =
    let t : Tapped 3 3 = record { some = omega arith; fits = omega arith; low = refl } in
    let s : Shaped 3 3 = record { least = omega arith; most = omega arith; tapped = t } in (
      ap (λ p. p.count) (place 3 3 s (2 ^ 32)),
      sign_at 3 3 s (2 ^ 32) ∙ ap (λ w. Ok (sign (w % 2))) (window_rounds 3 3 t ((maximal_period 3 3 t).0 seven) 613566756 4) ∙ ap (λ b. Ok (sign b)) four.0,
      ap sign four.1,
    )
