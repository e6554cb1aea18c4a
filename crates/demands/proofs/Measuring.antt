-- What an accepted sequence, recording and prediction have at each place of their output, and that no response is large. Assumes nothing.
use mathlib.Core.Path.{◌≡◌, refl, sym, ap, ◌∙◌}
use mathlib.Core.Bool.{Bool, false}
use mathlib.Core.List.{List}
use Prim.Native.Nat.{ℕ, ◌+◌, ◌*◌, ◌%◌, ◌^◌, ◌≤◌, ◌<◌}
use native.Mathlib.Numerals.{add-one}
use native.Mathlib.Omega.{arith}
use borrow.Author.Tests.{eqb-true, not-false}
use lib.Dec.{eqb}
use lib.IntN.{ℤ, pos, nat_abs}
use lib.ListN.{length, get_or}
use Rattle.sums.specs.Lists.{at, table, put}
use Rattle.sums.specs.Refusals.{first, outcome}
use Rattle.sums.proofs.First.{passes, accepts}
use Rattle.sums.proofs.Somewhere.{none_of}
use Rattle.sums.proofs.Tables.{at-put}
use Rattle.register.specs.Register.{P, window, bit, wave, Accepted}
use Rattle.register.specs.Calls.{taps_checks, taps_answer, sequence_checks, sequence_outcome}
use Rattle.register.proofs.Judged.{accepted_exactly, generator}
use Rattle.register.proofs.Word.{small}
use Rattle.response.specs.Response.{response, prediction}
use Rattle.samples.specs.Samples.{length_off, sample_out, some_out}
use Rattle.response.specs.Calls.{recording_checks, recording_outcome}
use Rattle.prediction.specs.Calls.{prediction_checks, prediction_outcome, roomed_checks, roomed_outcome}
use Rattle.legendre.specs.Calls as legendre
use Rattle.legendre.specs.Legendre as squares
use Rattle.legendre.proofs.Exactly.{recording-passed}
use Rattle.legendre.proofs.Flatness as flatness
use Rattle.response.proofs.Register.{response_bound}
use Rattle.samples.proofs.Sizes.{sample_size}
use Rattle.sums.proofs.First.{answers_first, accepted_is}

-- what an accepted call that writes one table to one output has there
output-at : {A : Type 0} (checks : List (ℕ × Bool)) (n : ℕ) (f : ℕ → A) (out : List A) (z : A)
    → let o = outcome {A = ℕ × List A} checks (λ m. (m, out)) (0, put (table n f) out) in o.0 ≡ 0 → (k : ℕ) → k < n → get_or o.1 k z ≡ f k
output-at {A} checks n f out z e k l =
    ap (λ (o : ℕ × List A). get_or o.1 k z) (accepted_is checks (λ (o : ℕ × List A). o.0) _ _ (λ m. refl) e) ∙ at-put n f out k z l

pub sequence_at : (N taps : ℕ) (out : List ℕ) → (sequence_outcome N taps out).0 ≡ 0
    → (k : ℕ) → k < P N → get_or (sequence_outcome N taps out).1 k 0 ≡ window N taps k % 2
unfolding sequence_outcome bit
sequence_at N taps out = output-at (sequence_checks N taps out) (P N) (bit N taps) out 0

pub prediction-at : (N taps : ℕ) (h out : List ℤ) → (prediction_outcome N taps h out).0 ≡ 0
    → (j : ℕ) → j < P N → at (prediction_outcome N taps h out).1 j ≡ prediction (P N) (wave N taps) (at h) j
unfolding prediction_outcome
prediction-at N taps h out = output-at (prediction_checks N taps h out) (P N) (prediction (P N) (wave N taps) (at h)) out (pos 0)

pub prediction_in_room_at : (N taps : ℕ) (h out room : List ℤ) → (roomed_outcome N taps h out room).0 ≡ 0
    → (j : ℕ) → j < P N → at (roomed_outcome N taps h out room).1 j ≡ prediction (P N) (wave N taps) (at h) j
unfolding roomed_outcome
prediction_in_room_at N taps h out room e j l =
    ap (λ (o : ℕ × List ℤ × List ℤ). at o.1 j) (accepted_is (roomed_checks N taps h out room) (λ (o : ℕ × List ℤ × List ℤ). o.0) _ _ (λ n. refl) e)
    ∙ at-put (P N) _ out j (pos 0) l

-- a recording that 5 and 7 let pass
sized : (n : ℕ) (y : List ℤ) → length_off n y ≡ false → some_out (length y) (at y) ≡ false → (j : ℕ) → j < n → nat_abs (at y j) ≤ 2 ^ 23
sized n y long in_range j l =
    let e : length y ≡ n = eqb-true (length y) n (not-false (eqb (length y) n) long) in
    sample_size (at y j) (none_of (λ i. sample_out (at y i)) (length y) in_range j (omega arith))

module _ (N taps : ℕ) (y out room : List ℤ) (tags : List ℕ) (e : (recording_outcome N taps y out room tags).0 ≡ 0) where
  pub response-at : (k : ℕ) → k < P N → at (recording_outcome N taps y out room tags).1 k ≡ response (P N) (wave N taps) (at y) k
  unfolding recording_outcome
  response-at k l =
      ap (λ (o : ℕ × List ℤ × List ℤ × List ℕ). at o.1 k)
      (accepted_is (recording_checks N taps y out room tags) (λ (o : ℕ × List ℤ × List ℤ × List ℕ). o.0) _ _ (λ n. refl) e)
      ∙ at-put (P N) _ out k (pos 0) l

  passed : first (recording_checks N taps y out room tags) ≡ 0
  unfolding recording_outcome
  passed = sym (answers_first (recording_checks N taps y out room tags) (λ (o : ℕ × List ℤ × List ℤ × List ℕ). o.0) _ _ (λ n. refl) refl) ∙ e

  pub response_small : (k : ℕ) → k < P N → nat_abs (at (recording_outcome N taps y out room tags).1 k) ≤ 2 ^ 39
  unfolding taps_answer
  response_small k l =
      let p = passes (recording_checks N taps y out room tags) tt passed in
      let a : Accepted N taps = (accepted_exactly N taps).0 (accepts (taps_checks N taps) (p.0, (p.1.0, (p.1.1.0, (p.1.1.1.0, tt))))) in
      let b = response_bound N taps (generator a) (at y) (2 ^ 23) (sized (P N) y p.1.1.1.1.0 p.1.1.1.1.1.1.0) k in
      rw (response-at k l) (omega (arith, b, small a.shaped.most))

-- ---- Legendre sequences

pub legendre_sequence_at : (p : ℕ) (out : List ℕ) → (legendre.sequence_outcome p out).0 ≡ 0 → (n : ℕ) → n < p → get_or (legendre.sequence_outcome p out).1 n 0 ≡ squares.bit p n
unfolding legendre.sequence_outcome
legendre_sequence_at p out = output-at (legendre.sequence_checks p out) p (squares.bit p) out 0

pub legendre_prediction-at : (p : ℕ) (h out : List ℤ) → (legendre.prediction_outcome p h out).0 ≡ 0
    → (j : ℕ) → j < p → at (legendre.prediction_outcome p h out).1 j ≡ prediction p (squares.wave p) (at h) j
unfolding legendre.prediction_outcome
legendre_prediction-at p h out = output-at (legendre.prediction_checks p h out) p (legendre.predicted p h) out (pos 0)

module _ (p : ℕ) (y out : List ℤ) (e : (legendre.recording_outcome p y out).0 ≡ 0) where
  pub legendre_response-at : (k : ℕ) → k < p → at (legendre.recording_outcome p y out).1 k ≡ response p (squares.wave p) (at y) k
  unfolding legendre.recording_outcome
  legendre_response-at = output-at (legendre.recording_checks p y out) p (response p (squares.wave p) (at y)) out (pos 0) e

  -- |r(k)| is at most (p+1)·2^23
  pub legendre_response_small : (k : ℕ) → k < p → nat_abs (at (legendre.recording_outcome p y out).1 k) ≤ (p + 1) * 2 ^ 23
  legendre_response_small k l =
      let c = recording-passed p y out e in
      rw (legendre_response-at k l, add-one p) (flatness.response_bound p (not-false (squares.offered p) c.0) (at y) (2 ^ 23) (sized p y c.1.0 c.1.1.1.0) k)
