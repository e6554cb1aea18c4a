-- A start through the door: with a short table it is refused as one that is lent no memory, and with long ones it is the call's own outcome, the
-- record's tables put over the lent ones. Assumes nothing.
use mathlib.Core.Path.{◌≡◌, refl, sym, ap, subst, ◌∙◌}
use mathlib.Core.Bool.{Bool, true, false, ◌||◌, or-true}
use mathlib.Core.List.{List, [], ◌∷◌, ◌++◌}
use Prim.Native.Nat.{ℕ, zero, suc, ◌*◌, ◌≤◌}
use native.Mathlib.Omega.{arith}
use borrow.Author.Tests.{lt-ltb}
use lib.Dec.{T, ltb}
use lib.IntN.{ℤ}
use lib.ListN.{length}
use lib.Pow.{pow-lt}
use Rattle.sums.specs.Lists.{put}
use Rattle.sums.specs.Refusals.{first, answered}
use Rattle.sums.proofs.First.{refused_first, passes, or-false}
use Rattle.register.specs.Register.{P}
use Rattle.register.specs.Calls.{taps_checks, answer_of, taps_answer}
use Rattle.register.proofs.Judged.{accepted_exactly}
use Rattle.samples.specs.Samples.{cleared_wide}
use Rattle.records.specs.Record.{fresh}
use Rattle.campaign.specs.Calls.{Started}
use Rattle.campaign.specs.Calls.{slots_out, edition_out, start_checks, start_outcome}
use Rattle.meter.specs.Doors.{tables_short, record_of, start_door_checks, start_door}
use Rattle.meter.proofs.Opening.{long, put_backs}

-- what a start comes to, behind the door
abbrev pub started_out : List ℕ → List ℕ → List ℕ → Started × List ℤ × List ℤ → ℕ × List ℕ × List ℕ × List ℕ × List ℤ × List ℤ
started_out days slots periods (s, store, sums) = (s.answer.number, put s.campaign.days days, put s.campaign.slots slots, put s.campaign.periods periods, store, sums)

no_memory : (N taps C : ℕ) → taps_answer N taps ≡ 0 → ltb 0 (C * P N) || ltb 0 (P N) ≡ true
no_memory N taps C z =
    let s = ((accepted_exactly N taps).0 z).shaped.tapped.some in
    ap (λ b. ltb 0 (C * P N) || b) (lt-ltb 0 (P N) (omega (arith, pow-lt s))) ∙ or-true (ltb 0 (C * P N))

module _ (N taps C E : ℕ) (days slots periods : List ℕ) (store sums : List ℤ) where
  -- what the door hands back, refused and accepted
  abbrev back : ℕ → ℕ × List ℕ × List ℕ × List ℕ × List ℤ × List ℤ
  back n = (n, days, slots, periods, store, sums)

  abbrev made : ℕ × List ℕ × List ℕ × List ℕ × List ℤ × List ℤ
  made = (0, put (fresh N taps C E).days days, put (fresh N taps C E).slots slots, put (fresh N taps C E).periods periods, cleared_wide (C * P N) store, cleared_wide (P N) sums)

  abbrev memory_short : Bool
  memory_short = ltb (length store) (C * P N) || ltb (length sums) (P N)

  -- the last three checks of a start, by what the last test says
  abbrev rest : Bool → List (ℕ × Bool)
  rest short = (9, slots_out C) ∷ (24, edition_out E) ∷ (6, short) ∷ []

  -- with a short table the answer is that of a start with no memory
  pub short_refused : tables_short days slots periods ≡ true → first (start_checks N taps C E [] []) ≡ first (start_door_checks N taps C E days slots periods store sums)
  unfolding taps_answer
  short_refused h = by_taps (first (taps_checks N taps)) refl ∙ ap (λ b. first (taps_checks N taps ++ rest (b || memory_short))) (sym h)
    where
      by_taps : (n : ℕ) → first (taps_checks N taps) ≡ n
          → first (taps_checks N taps ++ rest (ltb 0 (C * P N) || ltb 0 (P N))) ≡ first (taps_checks N taps ++ rest true)
      by_taps zero e = ap (λ b. first (taps_checks N taps ++ rest b)) (no_memory N taps C e)
      by_taps (suc n) e =
          refused_first (taps_checks N taps) (rest (ltb 0 (C * P N) || ltb 0 (P N))) (λ z. omega (arith, sym e ∙ z))
          ∙ sym (refused_first (taps_checks N taps) (rest true) (λ z. omega (arith, sym e ∙ z)))

  -- with long tables the checks are the call's own
  pub long_checks : tables_short days slots periods ≡ false → first (start_door_checks N taps C E days slots periods store sums) ≡ first (start_checks N taps C E store sums)
  long_checks h = ap (λ b. first (taps_checks N taps ++ rest (b || memory_short))) h

  pub start_opened : tables_short days slots periods ≡ false → start_door N taps C E days slots periods store sums ≡ started_out days slots periods (start_outcome (record_of N taps C E days slots periods) N taps C E store sums)
  unfolding start_door start_outcome
  start_opened h = ap (λ n. answered n back made) (long_checks h) ∙ by_answer (first (start_checks N taps C E store sums))
    where
      by_answer : (n : ℕ) → answered n back made
          ≡ started_out days slots periods (answered n (λ n. (record { answer = answer_of N taps n; campaign = record_of N taps C E days slots periods }, store, sums)) (record { answer = answer_of N taps 0; campaign = fresh N taps C E }, cleared_wide (C * P N) store, cleared_wide (P N) sums))
      by_answer zero = refl
      by_answer (suc n) = sym (put_backs days slots periods (long days slots periods h) (λ d t p. (suc n, d, t, p, store, sums)))

  -- past the checks all tables are long
  checked_long : first (start_door_checks N taps C E days slots periods store sums) ≡ 0 → tables_short days slots periods ≡ false
  checked_long z =
      let p = passes (start_door_checks N taps C E days slots periods store sums) tt z in
      (or-false (tables_short days slots periods) memory_short p.1.1.1.1.1.1.0).0

  pub short_some : tables_short days slots periods ≡ true → first (start_door_checks N taps C E days slots periods store sums) ≡ 0 → ⊥
  short_some h z = subst T (sym h ∙ checked_long z) tt

  pub started_long : (start_door N taps C E days slots periods store sums).0 ≡ 0 → (366 ≤ length days) × (64 ≤ length slots) × (64 ≤ length periods)
  unfolding start_door
  started_long z = long days slots periods (checked_long (by_answer (first (start_door_checks N taps C E days slots periods store sums)) z))
    where
      by_answer : (n : ℕ) → (answered n back made).0 ≡ 0 → n ≡ 0
      by_answer zero z = refl
      by_answer (suc n) z = z
