-- Document 02, request 8: a recording that starts d places late gives the response turned by d, whatever the signal; and one recording's call answers the same,
-- with the same room and tags. Assumes nothing.
use mathlib.Core.Path.{◌≡◌, refl, sym, ap, ap₂, ◌∙◌}
use mathlib.Core.Bool.{Bool, false}
use mathlib.Core.List.{List, [], ◌∷◌}
use Prim.Native.Nat.{ℕ, zero, suc, ◌+◌, ◌-◌, ◌*◌, ◌/◌, ◌%◌, ◌<◌}
use native.Mathlib.Nat.{one-mul, mod-add-mod, mod-lt, div-add-mod', add-mul-mod_self_right}
use native.Mathlib.Omega.{arith}
use borrow.Author.Tests.{eqb-true, not-false}
use lib.Dec.{eqb}
use lib.IntN.{ℤ, pos, ◌-ℤ◌, ◌*ℤ◌}
use lib.ListN.{length}
use Rattle.sums.specs.Lists.{at, table, put}
use Rattle.sums.specs.Refusals.{first, answered}
use Rattle.sums.specs.Turned.{turned, late}
use Rattle.sums.proofs.First.{behind, passes}
use Rattle.sums.proofs.Reordered.{some_reordered}
use Rattle.sums.proofs.Sum.{sum_ext, sum-turn}
use Rattle.sums.proofs.Tables.{at-put, table_ext}
use Rattle.sums.proofs.Turned.{late_long, late_turned, late_reordered}
use Rattle.samples.specs.Samples.{length_off, sample_out, some_out, room_short, cleared_wide, cleared_tags}
use Rattle.register.specs.Register.{P, wave}
use Rattle.register.specs.Calls.{taps_checks}
use Rattle.response.specs.Response.{correlation, response}
use Rattle.response.specs.Calls.{recording_checks, recording_outcome}
use Rattle.response.proofs.Linear.{response_ext}

-- ---- any signal x of period P

module _ (P : ℕ) (x y : ℕ → ℤ) (d : ℕ) where
  -- x at j - k is x at (j + d) - (k + d)
  same_place : (j k : ℕ) → k < P → (j + (P - k)) % P ≡ ((j + d) % P + (P - (k + d) % P)) % P
  same_place j k h =
      sym (mod-add-mod (j + d) P (P - (k + d) % P) ∙ ap (λ n. n % P) round ∙ add-mul-mod_self_right (j + (P - k)) ((k + d) / P) P)
    where
      round : j + d + (P - (k + d) % P) ≡ j + (P - k) + (k + d) / P * P
      round = omega (arith, mod-lt (k + d) {m = P} (omega arith), div-add-mod' (k + d) P)

  pub correlation-late : (k : ℕ) → k < P → correlation P x (turned P d y) k ≡ turned P d (correlation P x y) k
  unfolding correlation
  correlation-late k h =
      sum_ext P (λ j _. ap (λ i. y ((j + d) % P) *ℤ x i) (same_place j k h)) ∙ sum-turn P d (λ i. y i *ℤ x ((i + (P - (k + d) % P)) % P))

  turned_response : (k : ℕ) → k < P → response P x (turned P d y) k ≡ turned P d (response P x y) k
  unfolding response
  turned_response k h = ap₂ ◌-ℤ◌ (correlation-late k h) (sum-turn P d y)

  pub response-late : (k : ℕ) → k < P → response P x (turned P d y) k ≡ turned P d (response P x y) k
  response-late = turned_response

-- ---- one recording

module _ (N taps d : ℕ) (y out room : List ℤ) (tags : List ℕ) where
  abbrev Given : Type 0
  Given = ℕ × List ℤ × List ℤ × List ℕ

  -- 6 and 7, of a recording in which some sample is beyond the range or none is
  abbrev then : Bool → List (ℕ × Bool)
  then beyond = (6, room_short (P N) (length out) (length room) (length tags)) ∷ (7, beyond) ∷ []

  -- a length that is refused is refused before the samples are looked at
  same_first : first (recording_checks N taps (late (P N) d y) out room tags) ≡ first (recording_checks N taps y out room tags)
  same_first = rw (late_long (P N) d y) (behind (taps_checks N taps) 5 (length_off (P N) y) (then (some_out (length y) (at (late (P N) d y)))) (then (some_out (length y) (at y))) in_range)
    where
      in_range : length_off (P N) y ≡ false → first (then (some_out (length y) (at (late (P N) d y)))) ≡ first (then (some_out (length y) (at y)))
      in_range e =
          let long = eqb-true (length y) (P N) (not-false (eqb (length y) (P N)) e) in
          ap (λ b. first (then b)) (some_reordered (late_reordered (P N) d y 1 (long ∙ sym (one-mul (P N)))) sample_out)

  abbrev refused : ℕ → Given
  refused n = (n, out, room, tags)

  -- what is handed back with the output v
  abbrev accepted : (ℕ → ℤ) → Given
  accepted v = (0, put (table (P N) v) out, cleared_wide (P N + 1) room, cleared_tags (P N) tags)

  abbrev on_time : Given
  on_time = recording_outcome N taps y out room tags

  -- refused alike, and all is as it was
  pub refused_late : (on_time.0 ≡ 0 → ⊥) → recording_outcome N taps (late (P N) d y) out room tags ≡ on_time
  unfolding recording_outcome
  refused_late = rw same_first (go (first (recording_checks N taps y out room tags)))
    where
      go : (n : ℕ) → ((answered n refused (accepted (response (P N) (wave N taps) (at y)))).0 ≡ 0 → ⊥)
          → answered n refused (accepted (response (P N) (wave N taps) (at (late (P N) d y)))) ≡ answered n refused (accepted (response (P N) (wave N taps) (at y)))
      go zero h = absurd (h refl)
      go (suc n) h = refl

  -- accepted alike: the same room and tags, and the output turned
  pub accepted-late : on_time.0 ≡ 0
      → recording_outcome N taps (late (P N) d y) out room tags ≡ (0, put (table (P N) (turned (P N) d (at on_time.1))) out, on_time.2, on_time.3)
  unfolding recording_outcome
  accepted-late = rw same_first (go (first (recording_checks N taps y out room tags)) refl)
    where
      long : first (recording_checks N taps y out room tags) ≡ 0 → length y ≡ P N
      long e = eqb-true (length y) (P N) (not-false (eqb (length y) (P N)) (passes (recording_checks N taps y out room tags) tt e).1.1.1.1.0)

      each : length y ≡ P N → (k : ℕ) → k < P N
          → response (P N) (wave N taps) (at (late (P N) d y)) k
          ≡ turned (P N) d (at (put (table (P N) (response (P N) (wave N taps) (at y))) out)) k
      each e k l =
          response_ext (P N) (wave N taps) (late_turned (P N) d y e) k ∙ turned_response (P N) (wave N taps) (at y) d k l
          ∙ sym (at-put (P N) (response (P N) (wave N taps) (at y)) out ((k + d) % P N) (pos 0) (mod-lt (k + d) (omega arith)))

      go : (n : ℕ) → first (recording_checks N taps y out room tags) ≡ n → let o = answered n refused (accepted (response (P N) (wave N taps) (at y))) in o.0 ≡ 0
          → answered n refused (accepted (response (P N) (wave N taps) (at (late (P N) d y))))
          ≡ (0, put (table (P N) (turned (P N) d (at o.1))) out, o.2, o.3)
      go zero e h = ap (λ t. (0, put t out, cleared_wide (P N + 1) room, cleared_tags (P N) tags)) (table_ext (P N) (each (long e)))
      go (suc n) e h = absurd (omega arith)

  pub output-late : on_time.0 ≡ 0 → (k : ℕ) → k < P N → at (recording_outcome N taps (late (P N) d y) out room tags).1 k ≡ at on_time.1 ((k + d) % P N)
  output-late e k l = ap (λ (o : Given). at o.1 k) (accepted-late e) ∙ at-put (P N) (turned (P N) d (at on_time.1)) out k (pos 0) l
