-- A prediction past its first seven checks: the eighth decides. In a lent room that is long enough the answer and the output are those of a
-- prediction in a room of its own. Assumes nothing.
use mathlib.Core.Path.{◌≡◌, refl, sym, ap, ap₂, ◌∙◌}
use mathlib.Core.Bool.{Bool, true, false, ◌||◌}
use mathlib.Core.List.{List, [], ◌∷◌}
use borrow.Author.Tests.{le-ltb}
use Prim.Native.Nat.{ℕ, zero, suc, ◌+◌, ◌<◌}
use native.Mathlib.Omega.{arith}
use lib.Dec.{ltb}
use lib.IntN.{ℤ}
use lib.ListN.{length}
use Rattle.sums.specs.Refusals.{first, answered, outcome}
use Rattle.register.specs.Register.{P}
use Rattle.samples.specs.Samples.{some_out, cleared_wide}
use Rattle.prediction.specs.Calls.{predicted, foretelling_checks, foretold, eighth_outcome, eighth_in_room, prediction_outcome, roomed_checks, roomed_outcome}

-- ---- the eighth

pub as_answer : {r s : ℕ} {now : List ℤ} {o : ℕ × List ℤ} → r ≡ s → (r, now) ≡ o → (s, now) ≡ o
as_answer {now = now} e p = ap (λ n. (n, now)) (sym e) ∙ p

module _ (N taps : ℕ) (h out : List ℤ) {now : List ℤ} {r : ℕ} (e : ◌≡◌ {A = ℕ × List ℤ} (r, now) (eighth_outcome N taps h out)) where
  -- an answer that is not 0 is 8
  pub eight : (r ≡ 0 → ⊥) → r ≡ 8
  eight n = by_test (some_out (P N) (predicted N taps h)) e
    where
      by_test : (b : Bool) → ◌≡◌ {A = ℕ × List ℤ} (r, now) (outcome ((8, b) ∷ []) (λ k. (k, out)) (0, foretold N taps h out)) → r ≡ 8
      by_test true q = ap (λ (o : ℕ × List ℤ). o.0) q
      by_test false q = absurd (n (ap (λ (o : ℕ × List ℤ). o.0) q))

  -- with a room that is cleared, and is as it was where the answer is 8
  pub in_room : (room : List ℤ) → (some_out (P N) (predicted N taps h) ≡ true → cleared_wide (P N + 1) room ≡ room)
      → ◌≡◌ {A = ℕ × List ℤ × List ℤ} (r, now, cleared_wide (P N + 1) room) (eighth_in_room N taps h out room)
  in_room room same = by_test (some_out (P N) (predicted N taps h)) same e
    where
      by_test : (b : Bool) → (b ≡ true → cleared_wide (P N + 1) room ≡ room)
          → ◌≡◌ {A = ℕ × List ℤ} (r, now) (outcome ((8, b) ∷ []) (λ k. (k, out)) (0, foretold N taps h out))
          → ◌≡◌ {A = ℕ × List ℤ × List ℤ} (r, now, cleared_wide (P N + 1) room)
          (outcome ((8, b) ∷ []) (λ k. (k, out, room)) (0, foretold N taps h out, cleared_wide (P N + 1) room))
      by_test true s q = ap₂ (λ (o : ℕ × List ℤ) (l : List ℤ). (o.0, o.1, l)) q (s refl)
      by_test false s q = ap (λ (o : ℕ × List ℤ). (o.0, o.1, cleared_wide (P N + 1) room)) q

-- ---- a lent room and none

-- wherever the room is long enough, the answer and the output are those of a prediction in a room of its own
pub same_answer : (N taps : ℕ) (h out room : List ℤ) → P N < length room → let o = roomed_outcome N taps h out room in
    ◌≡◌ {A = ℕ × List ℤ} (o.0, o.1) (prediction_outcome N taps h out)
unfolding roomed_outcome prediction_outcome
same_answer N taps h out room l =
    alike (first (roomed_checks N taps h out room))
    ∙ ap (λ b. outcome (foretelling_checks N taps h b) (λ n. (n, out)) (0, foretold N taps h out))
    (ap (λ b. ltb (length out) (P N) || b) (le-ltb (length room) (P N + 1) (omega arith)) ∙ or-none (ltb (length out) (P N)))
  where
    alike : (n : ℕ) → let o = answered {A = ℕ × List ℤ × List ℤ} n (λ k. (k, out, room)) (0, foretold N taps h out, cleared_wide (P N + 1) room) in
        ◌≡◌ {A = ℕ × List ℤ} (o.0, o.1) (answered n (λ k. (k, out)) (0, foretold N taps h out))
    alike zero = refl
    alike (suc n) = refl

    or-none : (b : Bool) → b || false ≡ b
    or-none true = refl
    or-none false = refl
