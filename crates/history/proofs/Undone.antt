-- A kept entry followed at once by its withdrawal gives back store, sums, slots and periods bit for bit. Assumes nothing.
use mathlib.Core.Path.{◌≡◌, sym, ap, ◌∙◌}
use mathlib.Core.Bool.{true, false, not}
use mathlib.Core.List.{List}
use Prim.Native.Nat.{ℕ, ◌+◌, ◌-◌, ◌≤◌, ◌<◌}
use native.Mathlib.Decide.{dec_lt}
use native.Mathlib.Nat.{mul-le-mul_right, suc-mul}
use native.Mathlib.Omega.{arith}
use borrow.Author.Tests.{eq-eqb, le-ltb}
use lib.IntN.{ℤ, pos, ◌+ℤ◌, ◌-ℤ◌}
use lib.ListN.{length, set}
use lib.Seq.{ext_get_or, set-set, set-get_or}
use Rattle.sums.specs.Lists.{at, table, put, put_at}
use Rattle.sums.proofs.Everywhere.{length-put_at, put_at_before, put_at_here, put_at-after}
use Rattle.sums.proofs.First.{accepts}
use Rattle.sums.proofs.Ring.{ring}
use Rattle.sums.proofs.Tables.{at-put, at_tail, at_table, table_ext, length-put, length-table}
use Rattle.register.specs.Register.{P}
use Rattle.records.specs.Record.{standing, withdrawn, state, slot, base, sample, together, filed}
use Rattle.samples.specs.Samples.{within}
use Rattle.nights.specs.Nights.{periods_of}
use Rattle.nights.specs.declared.Night.{Night}
use Rattle.nights.proofs.Terms.{term_long}
use Rattle.campaign.specs.Calls.{day_out, settled_of, term_of, withdraw_checks, slot_of_day, withdrawn_outcome, withdraw_outcome, file_outcome, shown_to}
use Rattle.campaign.specs.Calls.{Shown}
use Rattle.history.specs.Run.{World, file, withdraw, after, answer, makes}
use Rattle.records.specs.declared.Campaign.{Campaign}
use Rattle.records.proofs.Holding.{Together, holds-together}
use Rattle.records.proofs.Refiling.{Sized, Day, state-same, slot_same, slot_unique}
use Rattle.history.proofs.Memory.{sample-same, together_kept}
use Rattle.campaign.proofs.Passing.{slot_of_day_lem}
use Rattle.history.proofs.Steps.{Entering, entering}
use Rattle.history.proofs.Steps as steps

-- a withdrawal of a standing day is accepted
pub withdraw_accepted : (c : Campaign) (store sums : List ℤ) → together c store sums ≡ true → (d : ℕ) → Day d → state c d ≡ standing
    → withdraw_outcome c store sums d ≡ withdrawn_outcome c store sums d
unfolding withdraw_outcome
withdraw_accepted c store sums t d r e =
    rw (accepts (withdraw_checks c store sums d) (ap not t, (in_year, (ap not (eq-eqb (state c d) standing e), tt))))
  where
    in_year : day_out d ≡ false
    in_year = simp (le-ltb d 1 r.first, le-ltb 366 d r.last)

-- what is put over a part and then put back
put_back : (k : ℕ) (y z l : List ℤ) → length y ≡ length z → k + length z ≤ length l → ((i : ℕ) → i < length z → at z i ≡ at l (k + i)) → put_at k z (put_at k y l) ≡ l
put_back k y z l e fits was =
    ext_get_or (pos 0) (put_at k z (put_at k y l)) l (length-put_at k z (put_at k y l) over ∙ length-put_at k y l under) each
  where
    under : k + length y ≤ length l
    under = omega arith

    over : k + length z ≤ length (put_at k y l)
    over = rw (length-put_at k y l under) fits

    beyond : (i : ℕ) → k ≤ i → at (put_at k z (put_at k y l)) (k + (i - k)) ≡ at l (k + (i - k))
    beyond i h = elim (dec_lt (i - k) (length z)) [
      | yes m ↦ put_at_here k z (put_at k y l) over (i - k) (pos 0) m ∙ was (i - k) m
      | no m ↦ put_at-after k z (put_at k y l) over (i - k) (pos 0) (omega arith) ∙ put_at-after k y l under (i - k) (pos 0) (omega arith)
    ]

    each : (i : ℕ) → i < length (put_at k z (put_at k y l)) → at (put_at k z (put_at k y l)) i ≡ at l i
    each i _ = elim (dec_lt i k) [
      | yes h ↦ put_at_before k z (put_at k y l) over i (pos 0) h ∙ put_at_before k y l under i (pos 0) h
      | no h ↦ let e : k + (i - k) ≡ i = omega arith in
          ap (at (put_at k z (put_at k y l))) (sym e) ∙ beyond i (omega arith) ∙ ap (at l) e
    ]

-- sums to which y was added and from which it was taken
taken_off : (n : ℕ) (y sums : List ℤ) → n ≤ length sums
    → put (table n (λ j. at (put (table n (λ j. at sums j +ℤ at y j)) sums) j -ℤ at y j)) (put (table n (λ j. at sums j +ℤ at y j)) sums) ≡ sums
taken_off n y sums h =
    ext_get_or (pos 0) _ sums (length-put (table n off) more (omega (arith, length-table n off, more_long)) ∙ more_long) (λ j _. each j)
  where
    more : List ℤ
    more = put (table n (λ j. at sums j +ℤ at y j)) sums

    off : ℕ → ℤ
    off j = at (put (table n (λ j. at sums j +ℤ at y j)) sums) j -ℤ at y j

    more_long : length (put (table n (λ j. at sums j +ℤ at y j)) sums) ≡ length sums
    more_long = length-put (table n (λ j. at sums j +ℤ at y j)) sums (omega (arith, length-table n (λ j. at sums j +ℤ at y j)))

    cancel : (a b : ℤ) → (a +ℤ b) -ℤ b ≡ a
    cancel a b = simp ring

    each : (j : ℕ) → at (put (table n off) more) j ≡ at sums j
    each j = elim (dec_lt j n) [
      | yes l ↦ at-put n off more j (pos 0) l ∙ ap (λ z. z -ℤ at y j) (at-put n (λ j. at sums j +ℤ at y j) sums j (pos 0) l) ∙ cancel (at sums j) (at y j)
      | no l ↦ at_tail n off more j (pos 0) (omega arith) ∙ at_tail n (λ j. at sums j +ℤ at y j) sums j (pos 0) (omega arith)
    ]

-- ---- the two calls

module _ (c : Campaign) (store sums : List ℤ) (z : Sized c) (h : Together c store sums) (d k m : ℕ) (y : List ℤ) (r : Day d)
    (n : state c d ≡ standing → ⊥) (l : k < c.capacity) (e : slot c k ≡ 0) (least : 1 ≤ m) (most : m ≤ 16)
    (long : length y ≡ P c.order) (good : (j : ℕ) → j < P c.order → within m (at y j) ≡ true) where
  -- the record, the store and the sums after the entry
  c₁ : Campaign
  c₁ = filed c d standing k d m

  store₁ : List ℤ
  store₁ = put_at (base c k) y store

  sums₁ : List ℤ
  sums₁ = put (table (P c.order) (λ j. at sums j +ℤ at y j)) sums

  holds₁ : Together (filed c d standing k d m) (put_at (base c k) y store) (put (table (P c.order) (λ j. at sums j +ℤ at y j)) sums)
  holds₁ = together_kept c store sums z d k m r h l e n least most y long good

  stands₁ : state (filed c d standing k d m) d ≡ standing
  stands₁ = state-same c z d standing r k d m

  -- the withdrawal finds the slot
  same-slot : slot_of_day (filed c d standing k d m) d ≡ k
  same-slot =
      let s = slot_of_day_lem (filed c d standing k d m) holds₁.filed d r stands₁ in
      slot_unique (filed c d standing k d m) holds₁.filed d _ k r stands₁ s.0 l s.1 (slot_same c z d standing r k d m (omega (arith, h.filed.most)))

  back : withdraw_outcome c₁ store₁ sums₁ d
      ≡ (
        record { answer = 0; campaign = filed (filed c d standing k d m) d withdrawn k 0 0 },
        put_at (base c k) (table (P c.order) (λ _. pos 0)) store₁,
        put (table (P c.order) (λ j. at sums₁ j -ℤ sample c store₁ k j)) sums₁,
      )
  unfolding c₁ store₁ sums₁
  back =
      withdraw_accepted (filed c d standing k d m) store₁ sums₁ ((holds-together (filed c d standing k d m) store₁ sums₁).1 holds₁) d r stands₁
      ∙ rw same-slot

  store_back : (withdraw_outcome c₁ store₁ sums₁ d).1 ≡ store
  unfolding store₁
  store_back =
      ap (λ o. o.1) back
      ∙ put_back (base c k) y (table (P c.order) (λ _. pos 0)) store (long ∙ sym none) (rw none room)
      (λ i m. let i-in : i < P c.order = omega (arith, none) in at_table (P c.order) (λ _. pos 0) i (pos 0) i-in ∙ sym (h.zeros k l e i i-in))
    where
      none : length (table (P c.order) (λ _. pos 0)) ≡ P c.order
      none = length-table (P c.order) (λ _. pos 0)

      room : base c k + P c.order ≤ length store
      room = omega (arith, mul-le-mul_right (P c.order) l, suc-mul k (P c.order), h.store_long)

  sums_back : (withdraw_outcome c₁ store₁ sums₁ d).2 ≡ sums
  unfolding store₁ sums₁
  sums_back =
      ap (λ o. o.2) back
      ∙ ap (λ t. put t (put (table (P c.order) (λ j. at sums j +ℤ at y j)) sums))
      (table_ext (P c.order) (λ j m. ap (λ v. at (put (table (P c.order) (λ i. at sums i +ℤ at y i)) sums) j -ℤ v) (sample-same c store y k l h.store_long long j m)))
      ∙ taken_off (P c.order) y sums h.sums_long

  slots_back : (withdraw_outcome c₁ store₁ sums₁ d).0.campaign.slots ≡ c.slots
  slots_back =
      ap (λ o. o.0.campaign.slots) back
      ∙ set-set c.slots k d 0
      ∙ ap (set c.slots k) (sym e) ∙ set-get_or c.slots k 0

  periods_back : (withdraw_outcome c₁ store₁ sums₁ d).0.campaign.periods ≡ c.periods
  periods_back =
      ap (λ o. o.0.campaign.periods) back
      ∙ set-set c.periods k m 0
      ∙ ap (set c.periods k) (sym (h.filed.uncounted k (omega (arith, h.filed.most)) e)) ∙ set-get_or c.periods k 0

-- 01: a kept entry followed at once by its withdrawal
pub record Undone (w w' : World) : Type 0 where
  pub store : w'.store ≡ w.store
  pub sums : w'.sums ≡ w.sums
  pub slots : w'.campaign.slots ≡ w.campaign.slots
  pub periods : w'.campaign.periods ≡ w.campaign.periods

pub undone : (w : World) → Sized w.campaign → together w.campaign w.store w.sums ≡ true → (d : ℕ) (night : Night) (y : List ℤ) (x : Shown)
    → answer w (file d night y x) ≡ 0 → makes w (file d night y x) ≡ standing → Undone w (after (after w (file d night y x)) (withdraw d))
unfolding c₁ store₁ sums₁
undone w z t d night y x a m = go (entering w d night y (shown_to w.campaign night y x) t)
  where
    h : Together w.campaign w.store w.sums
    h = (holds-together w.campaign w.store w.sums).0 t

    go : Entering w d night y (file_outcome w.campaign w.store w.sums d night y (shown_to w.campaign night y x)) → Undone w (after (after w (file d night y x)) (withdraw d))
    go (steps.refused n e g i) = absurd (n a)
    go (steps.aside q b v n l r f e g i) = absurd (n (sym v ∙ m))
    go (steps.kept k b v r n l f least most good e g i) =
        let c = w.campaign in
        let u = periods_of night in
        let total = term_of c night y in
        let long = term_long (P c.order) u (settled_of c night y) in
        rw (e, g, i) (record {
          store = store_back c w.store w.sums z h d k u total r n l f least most long good;
          sums = sums_back c w.store w.sums z h d k u total r n l f least most long good;
          slots = slots_back c w.store w.sums z h d k u total r n l f least most long good;
          periods = periods_back c w.store w.sums z h d k u total r n l f least most long good;
        })
