-- A block of signs is as many calls of the step: each call of an accepted player gives the sign that the block has at its place, and the
-- last leaves the block's player; of a refused player each call is refused, and leaves it. So blocks of any lengths join, and from any
-- place of the sequence a block has the signs from there on, whatever the count. Assumes nothing.
use Rattle.std.proofs.Common.{◌≡◌, ℕ, zero, suc, ◌+◌, ◌%◌, ◌^◌, List, [], ◌∷◌, ◌++◌, map, length, replicate, ℤ, sym, refl, ap, ◌∙◌, ap₂, add-zero, add-suc, zero-add, add-one, length-append, Result, Ok, Err}
use native.Mathlib.Nat.{mod-add-mod}
use native.Mathlib.Decide.{ℕ_discrete}
use Rattle.sums.specs.Sum.{sign}
use Rattle.sums.specs.Lists.{table}
use Rattle.sums.specs.Refusals.{first, answered}
use Rattle.sums.proofs.First.{answered_refused}
use Rattle.sums.proofs.Tables.{table_ext, table_join}
use Rattle.register.specs.Register.{window, bit, wave, Shaped}
use Rattle.player.specs.Calls.{Stepped, Played, step_checks, advanced, fresh_player, step_outcome, after, sign_after, play_outcome}
use Rattle.player.specs.declared.Player.{Player}
use Rattle.register.proofs.Windows.{window-lt}
use Rattle.register.proofs.Orbit.{window-pos}
use Rattle.player.proofs.Playable.{playable, passes_step, next_playable, after_playable}
use Rattle.player.proofs.Playing.{placed}

-- ---- n calls of the step

-- the ticks of n calls, one after the other, and the player after the last
unfoldable pub calls : ℕ → Player → List (Result ℤ ℕ) × Player
calls zero p = ([], p)
calls (suc n) p = let s = step_outcome p in let l = calls n s.player in (s.tick ∷ l.0, l.1)

-- an accepted step
accepted : (p : Player) → first (step_checks p) ≡ 0 → step_outcome p ≡ record { tick = Ok (sign_after p 0); player = advanced p }
unfolding step_outcome after
accepted p h = rw h

-- a refused one
refused : (p : Player) → (first (step_checks p) ≡ 0 → ⊥) → step_outcome p ≡ record { tick = Err (first (step_checks p)); player = p }
unfolding step_outcome after
refused p h =
    answered_refused (λ n. record { tick = Err n; player = p }) (record { tick = Ok (sign_after p 0); player = advanced p })
    (first (step_checks p)) h

-- one step first, or last
after_first : (p : Player) (k : ℕ) → after (advanced p) k ≡ after p (suc k)
unfolding after
after_first p zero = refl
after_first p (suc k) = ap advanced (after_first p k)

calls_accepted : (n : ℕ) (p : Player) → first (step_checks p) ≡ 0 → calls n p ≡ (map Ok (table n (sign_after p)), after p n)
unfolding calls table after
calls_accepted zero p h = refl
calls_accepted (suc n) p h =
    let q = advanced p in
    let next = passes_step q (next_playable p (playable p h)) in
    let signs : table n (sign_after q) ≡ table n (λ k. sign_after p (suc k)) =
    table_ext n (λ k _. ap (λ (a : Player). sign (a.window % 2)) (after_first p k)) in
    ap (λ (s : Stepped). (s.tick ∷ (calls n s.player).0, (calls n s.player).1)) (accepted p h)
    ∙ ap (λ (l : List (Result ℤ ℕ) × Player). (Ok (sign_after p 0) ∷ l.0, l.1)) (calls_accepted n q next)
    ∙ ap₂ (λ (l : List ℤ) (a : Player). (Ok (sign_after p 0) ∷ map Ok l, a)) signs (after_first p n)

calls_refused : (n : ℕ) (p : Player) → (first (step_checks p) ≡ 0 → ⊥) → calls n p ≡ (replicate n (Err (first (step_checks p))), p)
unfolding calls
calls_refused zero p h = refl
calls_refused (suc n) p h =
    ap (λ (s : Stepped). (s.tick ∷ (calls n s.player).0, (calls n s.player).1)) (refused p h)
    ∙ ap (λ (l : List (Result ℤ ℕ) × Player). (Err (first (step_checks p)) ∷ l.0, l.1)) (calls_refused n p h)

-- ---- a block is as many calls as it has places

block_accepted : (p : Player) (signs : List ℤ) → first (step_checks p) ≡ 0
    → play_outcome p signs ≡ (record { answer = 0; player = after p (length signs) }, table (length signs) (sign_after p))
unfolding play_outcome
block_accepted p signs h = rw h

block_refused : (p : Player) (signs : List ℤ) → (first (step_checks p) ≡ 0 → ⊥)
    → play_outcome p signs ≡ (record { answer = first (step_checks p); player = p }, signs)
unfolding play_outcome
block_refused p signs h =
    answered_refused (λ n. (record { answer = n; player = p }, signs))
    (record { answer = 0; player = after p (length signs) }, table (length signs) (sign_after p)) (first (step_checks p)) h

-- what the calls give, by what the block hands back: each the refusal, or each a sign of it
abbrev pub ticks : Played × List ℤ → List (Result ℤ ℕ)
ticks r = answered r.0.answer (λ n. replicate (length r.1) (Err n)) (map Ok r.1)

pub block_is_calls : (p : Player) (signs : List ℤ) → calls (length signs) p ≡ (ticks (play_outcome p signs), (play_outcome p signs).0.player)
block_is_calls p signs = elim (ℕ_discrete (first (step_checks p)) 0) [
  | yes h ↦ calls_accepted (length signs) p h ∙ ap (λ (r : Played × List ℤ). (ticks r, r.0.player)) (sym (block_accepted p signs h))
  | no h ↦ calls_refused (length signs) p h
      ∙ ap (λ (l : List (Result ℤ ℕ)). (l, p)) (sym (answered_refused (λ n. replicate (length signs) (Err n)) (map Ok signs) (first (step_checks p)) h))
      ∙ ap (λ (r : Played × List ℤ). (ticks r, r.0.player)) (sym (block_refused p signs h))
]

-- ---- two blocks, one after the other, are one

after-after : (p : Player) (m n : ℕ) → after (after p m) n ≡ after p (m + n)
unfolding after
after-after p m zero = ap (after p) (sym (add-zero m))
after-after p m (suc n) = ap advanced (after-after p m n) ∙ ap (after p) (sym (add-suc m n))

-- a block more
abbrev pub more : Played × List ℤ → List ℤ → Played × List ℤ
more r b = let q = play_outcome r.0.player b in (q.0, r.1 ++ q.1)

pub blocks_join : (p : Player) (a b : List ℤ) → play_outcome p (a ++ b) ≡ more (play_outcome p a) b
blocks_join p a b = elim (ℕ_discrete (first (step_checks p)) 0) [
  | yes h ↦ accepts h
  | no h ↦ block_refused p (a ++ b) h
      ∙ ap (λ (r : Played × List ℤ). (r.0, a ++ r.1)) (sym (block_refused p b h))
      ∙ ap (λ (r : Played × List ℤ). more r b) (sym (block_refused p a h))
]
  where
    accepts : first (step_checks p) ≡ 0 → play_outcome p (a ++ b) ≡ more (play_outcome p a) b
    accepts h =
        let m = length a in
        let n = length b in
        let q = after p m in
        let next = passes_step q (after_playable p (playable p h) m) in
        block_accepted p (a ++ b) h
        ∙ ap (λ (k : ℕ). (record { answer = 0; player = after p k }, table k (sign_after p))) (length-append a b)
        ∙ ap₂ (λ (s : Player) (l : List ℤ). (record { answer = 0; player = s }, l)) (sym (after-after p m n))
        (table_join m n (sign_after p)
        ∙ ap (λ (l : List ℤ). table m (sign_after p) ++ l) (table_ext n (λ k _. ap (λ (s : Player). sign (s.window % 2)) (sym (after-after p m k)))))
        ∙ ap (λ (r : Played × List ℤ). (r.0, table m (sign_after p) ++ r.1)) (sym (block_accepted q b next))
        ∙ ap (λ (r : Played × List ℤ). more r b) (sym (block_accepted p a h))

-- ---- from any place of the sequence, at any count

-- the player of place j, with c samples counted
abbrev pub counted : ℕ → ℕ → ℕ → ℕ → Player
counted N taps j c = record { order = N; taps = taps; window = window N taps j; count = c % 2 ^ 32 }

module _ (N taps : ℕ) (s : Shaped N taps) where
  after_counted : (j c k : ℕ) → after (counted N taps j c) k ≡ counted N taps (j + k) (c + k)
  unfolding after window
  after_counted j c zero = ap₂ (counted N taps) (sym (add-zero j)) (sym (add-zero c))
  after_counted j c (suc k) =
      ap advanced (after_counted j c k)
      ∙ ap (λ (n : ℕ). record { order = N; taps = taps; window = window N taps (suc (j + k)); count = n })
      (mod-add-mod (c + k) (2 ^ 32) 1 ∙ ap (λ n. n % 2 ^ 32) (add-one (c + k)))
      ∙ ap₂ (counted N taps) (sym (add-suc j k)) (sym (add-suc c k))

  pub block_at : (j c : ℕ) (signs : List ℤ) → play_outcome (counted N taps j c) signs
      ≡ (record { answer = 0; player = counted N taps (j + length signs) (c + length signs) }, table (length signs) (λ k. wave N taps (j + k)))
  unfolding wave bit
  block_at j c signs =
      let n = length signs in
      let p = counted N taps j c in
      block_accepted p signs (passes_step p (record { shaped = s; some = window-pos N taps s.tapped j; fits = window-lt N taps j }))
      ∙ ap₂ (λ (q : Player) (l : List ℤ). (record { answer = 0; player = q }, l)) (after_counted j c n)
      (table_ext n (λ k _. ap (λ (q : Player). sign (q.window % 2)) (after_counted j c k)))

  -- a new player's
  pub block_new : (signs : List ℤ) → play_outcome (fresh_player N taps) signs
      ≡ (record { answer = 0; player = placed N taps (length signs) }, table (length signs) (wave N taps))
  unfolding window
  block_new signs =
      block_at 0 0 signs
      ∙ ap₂ (λ (k : ℕ) (l : List ℤ). (record { answer = 0; player = counted N taps k k }, l)) (zero-add (length signs))
      (table_ext (length signs) (λ k _. ap (wave N taps) (zero-add k)))
