-- Each call leaves what is lent beyond the lengths that it needs, whatever it answers. Assumes nothing.
use mathlib.Core.Path.{◌≡◌, refl, sym, ap, ◌∙◌}
use mathlib.Core.Bool.{Bool, true, false, cond}
use mathlib.Core.List.{List}
use Prim.Native.Nat.{ℕ, zero, suc, ◌*◌, ◌≤◌, ◌<◌, ◌+◌, ◌-◌}
use native.Mathlib.Nat.{mul-le-mul_right, suc-mul}
use native.Mathlib.Omega.{arith}
use lib.Dec.{eqb}
use lib.IntN.{ℤ, pos}
use lib.ListN.{length, get_or, drop}
use lib.Seq.{get_or-append-add, get_or-drop}
use Rattle.sums.specs.Lists.{table, put, put_at}
use Rattle.sums.specs.Refusals.{first, answered, outcome}
use Rattle.sums.proofs.Everywhere.{put_at-after}
use Rattle.sums.proofs.Tables.{at_tail, length-table}
use Rattle.register.specs.Register.{P}
use Rattle.register.specs.Calls.{sequence_checks, sequence_outcome}
use Rattle.response.specs.Calls.{recording_checks, recording_outcome}
use Rattle.prediction.specs.Calls.{prediction_checks, prediction_outcome, roomed_checks, roomed_outcome}
use Rattle.legendre.specs.Calls as legendre
use Rattle.nights.specs.Nights.{periods_of}
use Rattle.nights.specs.declared.Night.{Night}
use Rattle.nights.proofs.Terms.{term_long}
use Rattle.judging.specs.declared.Judged.{Judged}
use Rattle.records.specs.Record.{standing, days_in, base, together}
use Rattle.records.specs.declared.Campaign.{Campaign}
use Rattle.records.proofs.Holding.{holds-together}
use Rattle.campaign.specs.Calls.{start_checks, start_outcome, settled_of, term_of, entered, file_outcome, withdraw_outcome}
use Rattle.campaign.specs.Calls.{Started}
use Rattle.campaign.specs.declared.Verdict.TheVariants as verdict
use Rattle.trend.specs.Calls.{response_checks, response_outcome, summary_checks, summary_outcome}
use Rattle.trend.specs.declared.Summary.{Summary}
use Rattle.history.specs.Run.{World}
use Rattle.history.proofs.Steps.{Entering, entering, Withdrawing, withdrawing}
use Rattle.history.proofs.Steps as steps
use Rattle.demands.specs.Buffers.{KeepsTail}

module _ {A : Type 0} where
  pub same : {n : ℕ} {l m : List A} → m ≡ l → KeepsTail n l m
  same e = record { beyond = λ i z _. ap (λ l. get_or l i z) e }

  -- of a table put over the front
  pub put_tail : {n : ℕ} (vs l : List A) → length vs ≤ n → KeepsTail n l (put vs l)
  unfolding put
  put_tail vs l m = record {
    beyond = λ i z h.
        let e : length vs + (i - length vs) ≡ i = omega arith in
        ap (λ k. get_or (put vs l) k z) (sym e) ∙ get_or-append-add vs (drop (length vs) l) (i - length vs) z ∙ get_or-drop (length vs) l (i - length vs) z ∙ ap (λ k. get_or l k z) e;
  }

  pub written : (n : ℕ) (f : ℕ → A) (l : List A) → KeepsTail n l (put (table n f) l)
  written n f l = record { beyond = λ i z h. at_tail n f l i z h }

-- what holds of a refusal and of what is accepted
either_way : {A : Type 0} (o : A) (checks : List (ℕ × Bool)) (back : ℕ → A) (accepted : A) → o ≡ outcome checks back accepted
    → (Q : A → Type 0) → ((n : ℕ) → Q (back n)) → Q accepted → Q o
either_way o checks back accepted e Q r k = rw e (go (first checks))
  where
    go : (n : ℕ) → Q (answered n back accepted)
    go zero = k
    go (suc n) = r (suc n)

-- ---- the calls that only write outputs and room

-- of any that writes one table to one output
output_tail : {A : Type 0} (checks : List (ℕ × Bool)) (n : ℕ) (f : ℕ → A) (out : List A)
    → KeepsTail n out (outcome {A = ℕ × List A} checks (λ m. (m, out)) (0, put (table n f) out)).1
output_tail {A} checks n f out = either_way _ checks _ _ refl (λ (o : ℕ × List A). KeepsTail n out o.1) (λ m. same refl) (written n f out)

pub sequence_tail : (N taps : ℕ) (out : List ℕ) → KeepsTail (P N) out (sequence_outcome N taps out).1
unfolding sequence_outcome
sequence_tail N taps out = output_tail (sequence_checks N taps out) (P N) _ out

pub prediction_tail : (N taps : ℕ) (h out : List ℤ) → KeepsTail (P N) out (prediction_outcome N taps h out).1
unfolding prediction_outcome
prediction_tail N taps h out = output_tail (prediction_checks N taps h out) (P N) _ out

pub legendre_sequence_tail : (p : ℕ) (out : List ℕ) → KeepsTail p out (legendre.sequence_outcome p out).1
unfolding legendre.sequence_outcome
legendre_sequence_tail p out = output_tail (legendre.sequence_checks p out) p _ out

pub legendre_recording_tail : (p : ℕ) (y out : List ℤ) → KeepsTail p out (legendre.recording_outcome p y out).1
unfolding legendre.recording_outcome
legendre_recording_tail p y out = output_tail (legendre.recording_checks p y out) p _ out

pub legendre_prediction_tail : (p : ℕ) (h out : List ℤ) → KeepsTail p out (legendre.prediction_outcome p h out).1
unfolding legendre.prediction_outcome
legendre_prediction_tail p h out = output_tail (legendre.prediction_checks p h out) p _ out

pub prediction_in_room_tails : (N taps : ℕ) (h out room : List ℤ) → let o = roomed_outcome N taps h out room in
    KeepsTail (P N) out o.1 × KeepsTail (P N + 1) room o.2
unfolding roomed_outcome
prediction_in_room_tails N taps h out room =
    either_way (roomed_outcome N taps h out room) (roomed_checks N taps h out room) _ _ refl
    (λ (o : ℕ × List ℤ × List ℤ). KeepsTail (P N) out o.1 × KeepsTail (P N + 1) room o.2) (λ n. (same refl, same refl)) (written _ _ _, written _ _ _)

module _ (N taps : ℕ) (y out room : List ℤ) (tags : List ℕ) where
  abbrev HeardTails : ℕ × List ℤ × List ℤ × List ℕ → Type 0
  HeardTails o = KeepsTail (P N) out o.1 × KeepsTail (P N + 1) room o.2 × KeepsTail (P N) tags o.3

  pub recording_tails : HeardTails (recording_outcome N taps y out room tags)
  unfolding recording_outcome
  recording_tails =
      either_way (recording_outcome N taps y out room tags) (recording_checks N taps y out room tags) _ _ refl HeardTails
      (λ n. (same refl, same refl, same refl)) (written _ _ _, written _ _ _, written _ _ _)

module _ (c : Campaign) (store sums r mean room : List ℤ) (tags : List ℕ) where
  abbrev AnsweredTails : ℕ × List ℤ × List ℤ × List ℤ × List ℕ → Type 0
  AnsweredTails o =
      KeepsTail (P c.order) r o.1 × KeepsTail (P c.order) mean o.2 × KeepsTail (P c.order + 1) room o.3
      × KeepsTail (P c.order) tags o.4

  pub response_tails : AnsweredTails (response_outcome c store sums r mean room tags)
  unfolding response_outcome
  response_tails =
      either_way (response_outcome c store sums r mean room tags) (response_checks c store sums r mean room tags) _ _ refl AnsweredTails
      (λ n. (same refl, same refl, same refl, same refl)) (written _ _ _, written _ _ _, written _ _ _, written _ _ _)

module _ (c : Campaign) (store sums room : List ℤ) (tags : List ℕ) where
  abbrev SummedTails : Summary × List ℤ × List ℕ → Type 0
  SummedTails o = KeepsTail (P c.order + 1) room o.1 × KeepsTail (P c.order) tags o.2

  pub summary_tails : SummedTails (summary_outcome c store sums room tags)
  unfolding summary_outcome
  summary_tails =
      either_way (summary_outcome c store sums room tags) (summary_checks c store sums room tags) _ _ refl SummedTails
      (λ n. (same refl, same refl)) (by_standing (eqb (days_in c standing) 0) _ _ (same refl, same refl) (written _ _ _, written _ _ _))
    where
      by_standing : (b : Bool) (o p : Summary × List ℤ × List ℕ) → SummedTails o → SummedTails p → SummedTails (cond b o p)
      by_standing true o p t u = t
      by_standing false o p t u = u

-- ---- a start

module _ (c : Campaign) (N taps C E : ℕ) (store sums : List ℤ) where
  abbrev BegunTails : Started × List ℤ × List ℤ → Type 0
  BegunTails o = KeepsTail (C * P N) store o.1 × KeepsTail (P N) sums o.2

  pub start_tails : BegunTails (start_outcome c N taps C E store sums)
  unfolding start_outcome
  start_tails =
      either_way (start_outcome c N taps C E store sums) (start_checks N taps C E store sums) _ _ refl BegunTails
      (λ n. (same refl, same refl)) (written _ _ _, written _ _ _)

-- ---- a filing and a withdrawal: the store's tail, where a slot is filled or emptied

module _ (c : Campaign) (store : List ℤ) (k : ℕ) (l : k < c.capacity) (z : List ℤ) (long : length z ≡ P c.order)
    (room : c.capacity * P c.order ≤ length store) where
  slot_tail : KeepsTail (c.capacity * P c.order) store (put_at (base c k) z store)
  slot_tail = record {
    beyond = λ i x h.
        let ends : base c k + P c.order ≤ c.capacity * P c.order = omega (arith, mul-le-mul_right (P c.order) l, suc-mul k (P c.order)) in
        let e : base c k + (i - base c k) ≡ i = omega arith in
        ap (λ n. get_or (put_at (base c k) z store) n x) (sym e)
        ∙ put_at-after (base c k) z store (omega arith) (i - base c k) x (omega arith)
        ∙ ap (λ n. get_or store n x) e;
  }

abbrev Both : Campaign → List ℤ → List ℤ → List ℤ → List ℤ → Type 0
Both c store sums store' sums' = KeepsTail (c.capacity * P c.order) store store' × KeepsTail (P c.order) sums sums'

same_tails : (c : Campaign) (store sums store' sums' : List ℤ) → store' ≡ store → sums' ≡ sums → Both c store sums store' sums'
same_tails c store sums store' sums' e g = (same e, same g)

abbrev world : Campaign → List ℤ → List ℤ → World
world c store sums = record { campaign = c; store = store; sums = sums }

file_apart : (c : Campaign) (store sums : List ℤ) (d : ℕ) (night : Night) (y : List ℤ) (v : Judged) → together c store sums ≡ false
    → file_outcome c store sums d night y v ≡ (entered c d (verdict.Refused 15), store, sums)
unfolding file_outcome
file_apart c store sums d night y v t = rw t refl

withdraw_apart : (c : Campaign) (store sums : List ℤ) (d : ℕ) → together c store sums ≡ false
    → withdraw_outcome c store sums d ≡ (record { answer = 15; campaign = c }, store, sums)
unfolding withdraw_outcome
withdraw_apart c store sums d t = rw t refl

pub file_tails : (c : Campaign) (store sums : List ℤ) (d : ℕ) (night : Night) (y : List ℤ) (v : Judged) → let o = file_outcome c store sums d night y v in
    KeepsTail (c.capacity * P c.order) store o.1 × KeepsTail (P c.order) sums o.2
file_tails c store sums d night y v = by_together (together c store sums) refl
  where
    by_steps : together c store sums ≡ true → Entering (world c store sums) d night y (file_outcome c store sums d night y v)
        → Both c store sums (file_outcome c store sums d night y v).1 (file_outcome c store sums d night y v).2
    by_steps t (steps.refused n e g i) = same_tails c store sums _ _ g i
    by_steps t (steps.aside q b x n l r f e g i) = same_tails c store sums _ _ g i
    by_steps t (steps.kept k b x r n l f least most good e g i) =
        rw (g, i) (
          slot_tail c store k l (term_of c night y) (term_long (P c.order) (periods_of night) (settled_of c night y)) ((holds-together c store sums).0 t).store_long,
          written _ _ _,
        )

    by_together : (b : Bool) → together c store sums ≡ b → Both c store sums (file_outcome c store sums d night y v).1 (file_outcome c store sums d night y v).2
    by_together true t = by_steps t (entering (world c store sums) d night y v t)
    by_together false t = same_tails c store sums _ _ (ap (λ o. o.1) (file_apart c store sums d night y v t)) (ap (λ o. o.2) (file_apart c store sums d night y v t))

pub withdraw_tails : (c : Campaign) (store sums : List ℤ) (d : ℕ) → let o = withdraw_outcome c store sums d in
    KeepsTail (c.capacity * P c.order) store o.1 × KeepsTail (P c.order) sums o.2
withdraw_tails c store sums d = by_together (together c store sums) refl
  where
    by_steps : together c store sums ≡ true → Withdrawing (world c store sums) d (withdraw_outcome c store sums d)
        → Both c store sums (withdraw_outcome c store sums d).1 (withdraw_outcome c store sums d).2
    by_steps t (steps.refused n e g i) = same_tails c store sums _ _ g i
    by_steps t (steps.freed k a r v l f e g i) =
        rw (g, i) (
          slot_tail c store k l (table (P c.order) (λ _. pos 0)) (length-table (P c.order) (λ _. pos 0)) ((holds-together c store sums).0 t).store_long,
          written _ _ _,
        )

    by_together : (b : Bool) → together c store sums ≡ b → Both c store sums (withdraw_outcome c store sums d).1 (withdraw_outcome c store sums d).2
    by_together true t = by_steps t (withdrawing (world c store sums) d t)
    by_together false t = same_tails c store sums _ _ (ap (λ o. o.1) (withdraw_apart c store sums d t)) (ap (λ o. o.2) (withdraw_apart c store sums d t))
