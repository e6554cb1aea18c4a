-- In an open day whose samples are kept those that came, as their bytes are decoded, are at the front of the recording's room. Assumes nothing.
use mathlib.Core.Path.{◌≡◌, refl, sym, ap, subst, ◌∙◌}
use mathlib.Core.Bool.{Bool, true, false, cond}
use mathlib.Core.List.{List, [], ◌∷◌, ◌++◌}
use Prim.Native.Nat.{ℕ, zero, suc, ◌+◌, ◌*◌, ◌≤◌, ◌<◌}
use native.Mathlib.Numerals.{add-one}
use native.Mathlib.Omega.{arith}
use lib.Dec.{T}
use lib.IntN.{ℤ, pos}
use lib.ListN.{length, set, take, length-set, length-replicate}
use lib.Seq.{take-suc-set}
use Rattle.sums.proofs.First.{outcome_cases}
use Rattle.sums.specs.Refusals.{answered}
use Rattle.register.specs.Calls.{answer_of}
use Rattle.rounding.specs.Rounding.{away_from_zero}
use Rattle.nights.specs.Nights.{periods_of}
use Rattle.nights.specs.declared.Night.{Night}
use Rattle.records.specs.declared.Campaign.{Campaign}
use Rattle.campaign.specs.Calls.{start_outcome}
use Rattle.logitems.specs.declared.Phase.{Phase}
use Rattle.logitems.specs.declared.Phase.TheVariants as phase
use Rattle.logitems.specs.declared.Item.{Item}
use Rattle.logitems.specs.declared.Found.{Found}
use Rattle.logitems.proofs.Finding.{Fits, starts, editions, opens, captures, withdraws, asks, samples, enters, whole, bad, end}
use Rattle.logeffects.specs.Book.{Memory, log_start_checks, over, started_by, began_outcome, unheld, kept_sample, log_enter_checks, entered_outcome, applied}
use Rattle.logeffects.specs.declared.Applied.{Applied}
use Rattle.logeffects.proofs.Rows.{day_short}
use Rattle.logeffects.proofs.Held.{held_short}
use Rattle.logprogram.specs.Program.{Place, turn_on, stands_at}
use Rattle.logprogram.proofs.Turns.{StandsAt, found_at, turns}
use Rattle.logruns.specs.Calls.{samples_of, samples_at, Reached, onward, reached}

-- y are the samples that came, where a day is open and they are kept
pub data Sampled (y recording : List ℤ) : Phase → Type 0 where
  unbegun : Sampled y recording phase.Unbegun
  between : {b : Bool} → Sampled y recording (phase.Between b)
  inside : {d n : ℕ} {night : Night} → (unheld (periods_of night) ≡ false → take n recording ≡ y) → Sampled y recording (phase.Open d night n)
  stopped : Sampled y recording phase.Stopped

pub record SampledAt (y : List ℤ) (p : Place) : Type 0 where
  pub room : length p.memory.recording ≡ 2555
  pub day : Sampled y p.memory.recording p.book.phase

-- ---- one item

module _ (y : List ℤ) (c : Campaign) (m : Memory) where
  -- after a start or an edition no day is open
  closed : (b : Bool) (k : ℕ) → Sampled y m.recording (answered k (λ _. phase.Stopped) (phase.Between b))
  closed b zero = between
  closed b (suc k) = stopped

  start_closed : (N taps C : ℕ) → Sampled y m.recording (began_outcome c N taps C m.store m.sums).0.book.phase
  unfolding began_outcome
  start_closed N taps C =
      outcome_cases {A = Applied × List ℤ × List ℤ} (log_start_checks N taps C) tt
      (λ n. (started_by (record { answer = answer_of N taps n; campaign = c }), m.store, m.sums))
      (over started_by (start_outcome c N taps C away_from_zero m.store m.sums)) (λ o. Sampled y m.recording o.0.book.phase)
      (λ n _ _. closed true n) (λ _. closed true (start_outcome c N taps C away_from_zero m.store m.sums).0.answer.number)

  -- nor after an entry
  entry_closed : (d n : ℕ) (night : Night) → Sampled y m.recording (entered_outcome c d night n m.store m.sums m.recording).0.book.phase
  unfolding entered_outcome
  entry_closed d n night =
      outcome_cases {A = Applied × List ℤ × List ℤ} (log_enter_checks d night) tt _ _ (λ o. Sampled y m.recording o.0.book.phase) (λ _ _ _. between)
      (λ _. between)

  sample-put : (d n : ℕ) (night : Night) (v : ℤ) → (unheld (periods_of night) ≡ false → n < length m.recording)
      → (unheld (periods_of night) ≡ false → take n m.recording ≡ y) → let z = kept_sample (periods_of night) n v m.recording in
      (length z ≡ length m.recording) × Sampled (y ++ v ∷ []) z (phase.Open d night (n + 1))
  sample-put d n night v h e = go (unheld (periods_of night)) refl
    where
      go : (b : Bool) → unheld (periods_of night) ≡ b → let z = cond b m.recording (set m.recording n v) in
          (length z ≡ length m.recording) × Sampled (y ++ v ∷ []) z (phase.Open d night (n + 1))
      go true u = (refl, inside (λ k. absurd (subst T (sym u ∙ k) tt)))
      go false u = (
        length-set m.recording n v,
        inside (λ _. ap (λ k. take k (set m.recording n v)) (add-one n) ∙ take-suc-set m.recording n v (h u) ∙ ap (λ z. z ++ v ∷ []) (e u)),
      )

  item_samples : {D : ℕ} (p : Phase) (i : Item) → Fits D p i → 5 * D ≤ length m.recording → Sampled y m.recording p
      → let o = applied (record { phase = p; campaign = c }) i m in
      (length o.1.recording ≡ length m.recording) × Sampled (samples_of y i) o.1.recording o.0.book.phase
  unfolding applied
  item_samples p i (starts {N} {taps} {C}) l s = (refl, start_closed N taps C)
  item_samples p i (editions {e}) l s = (refl, closed false (start_outcome c c.order c.taps c.capacity e m.store m.sums).0.answer.number)
  item_samples p i opens l s = (refl, inside (λ _. refl))
  item_samples p i captures l s = (refl, inside (λ _. refl))
  item_samples p i withdraws l s = (refl, between)
  item_samples p i asks l s = (refl, between)
  item_samples {D} p i (samples {d} {n} {night} {v} h) l (inside e) = sample-put d n night v (λ u. omega (arith, h, held_short D night u, l)) e
  item_samples p i (enters {d} {n} {night}) l s = (refl, entry_closed d n night)

-- ---- all items

found_samples : (p : Place) (bytes : List ℕ) (y : List ℤ) (f : Found) → StandsAt p bytes true f → SampledAt y p → SampledAt (samples_at y f) (turn_on p f).place
found_samples p bytes y f (whole {i = i} fit _ _ _) s =
    let o = item_samples y p.book.campaign p.memory p.book.phase i fit (omega (arith, day_short p.book.campaign.order, s.room)) s.day in
    record { room = o.0 ∙ s.room; day = o.1 }
found_samples p bytes y f (bad _) s = record { room = s.room; day = s.day }
found_samples p bytes y f (end _) s = record { room = s.room; day = s.day }

going_samples : (s : Reached) (b : Bool) → SampledAt s.samples s.place → SampledAt (cond b (onward s) s).samples (cond b (onward s) s).place
going_samples s false h = h
going_samples s true h =
    rw (turns s.place s.left true)
    (found_samples s.place s.left s.samples (stands_at s.place s.left true) (found_at s.place s.left true) h)

pub samples_held : (n : ℕ) (input : List ℕ) → SampledAt (reached n input).samples (reached n input).place
unfolding reached
samples_held zero input = record { room = length-replicate {A = ℤ} 2555 (pos 0); day = unbegun }
samples_held (suc n) input = going_samples (reached n input) (reached n input).place.going (samples_held n input)
