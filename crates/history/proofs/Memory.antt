-- The store and the sums when one slot's samples are changed: the other slots keep theirs, and the sums follow. So the record holds together
-- after a kept entry and after a withdrawal. Assumes nothing.
use mathlib.Core.Path.{◌≡◌, refl, sym, ap, ap₂, subst₂, ◌∙◌}
use mathlib.Core.Bool.{true, cond}
use mathlib.Core.List.{List}
use Prim.Native.Nat.{ℕ, ◌+◌, ◌-◌, ◌*◌, ◌≤◌, ◌<◌}
use native.Mathlib.Nat.{mul-le-mul_right, suc-mul, le_trans}
use native.Mathlib.Decide.{ℕ_discrete, dec_lt}
use native.Mathlib.Omega.{arith}
use borrow.Author.Tests.{eq-eqb, ne_eqb}
use lib.Dec.{eqb}
use lib.IntN.{ℤ, pos, ◌+ℤ◌, ◌-ℤ◌}
use lib.ListN.{length}
use Rattle.sums.specs.Lists.{at, table, put, put_at}
use Rattle.sums.proofs.Everywhere.{length-put_at, put_at_before, put_at_here, put_at-after}
use Rattle.sums.proofs.Ring.{ring}
use Rattle.sums.proofs.Sum.{sum_changed}
use Rattle.sums.proofs.Tables.{at-put, at_table, length-put, length-table}
use Rattle.register.specs.Register.{P}
use Rattle.records.specs.Record.{standing, withdrawn, state, slot, free, periods, base, sample, used_total, marked, filed}
use Rattle.samples.specs.Samples.{within}
use Rattle.records.specs.declared.Campaign.{Campaign}
use Rattle.records.proofs.Holding.{Filed, Together}
use Rattle.records.proofs.Refiling.{Sized, Day, slot_same, slot_other, periods-same, periods_other, marked-filed, taken_filed, freed_filed}

-- ---- one slot of the store

module _ (c : Campaign) (store z : List ℤ) (k : ℕ) (inside : k < c.capacity) (room : c.capacity * P c.order ≤ length store)
    (long : length z ≡ P c.order) where
  -- a slot ends where the next begins
  ends : (s t : ℕ) → s < t → base c s + P c.order ≤ base c t
  ends s t l = omega (arith, mul-le-mul_right (P c.order) l, suc-mul s (P c.order))

  fits : base c k + length z ≤ length store
  fits = rw long (le_trans (ends k c.capacity inside) room)

  pub store_length : length (put_at (base c k) z store) ≡ length store
  store_length = length-put_at (base c k) z store fits

  pub sample-same : (j : ℕ) → j < P c.order → sample c (put_at (base c k) z store) k j ≡ at z j
  sample-same j l = put_at_here (base c k) z store fits j (pos 0) (omega arith)

  pub sample_other : (s j : ℕ) → (s ≡ k → ⊥) → j < P c.order → sample c (put_at (base c k) z store) s j ≡ sample c store s j
  sample_other s j n l = elim (dec_lt s k) [
    | yes h ↦ put_at_before (base c k) z store fits (base c s + j) (pos 0) (omega (arith, ends s k h))
    | no h ↦
        let e = ends k s (omega arith) in
        let i = base c s + j - base c k in
        let w : base c k + i ≡ base c s + j = omega arith in
        ap (at (put_at (base c k) z store)) (sym w) ∙ put_at-after (base c k) z store fits i (pos 0) (omega arith) ∙ ap (at store) w
  ]

-- ---- slot k given the day t and the samples z

module _ (c : Campaign) (store sums : List ℤ) (w : Sized c) (d q k t ps : ℕ) (r : Day d) (h : Together c store sums)
    (inside_slots : k < c.capacity) (z : List ℤ) (long : length z ≡ P c.order) where
  -- what slot s adds to the sums, before and after
  part : ℕ → ℕ → ℤ
  part j s = cond (free c s) (pos 0) (sample c store s j)

  part' : ℕ → ℕ → ℤ
  part' j s = cond (free (filed c d q k t ps) s) (pos 0) (sample c (put_at (base c k) z store) s j)

  part_other : (j s : ℕ) → j < P c.order → (s ≡ k → ⊥) → part' j s ≡ part j s
  unfolding part part'
  part_other j s l n =
      ap₂ (λ m v. cond (eqb m 0) (pos 0) v) (slot_other c w d q r k t ps s n)
      (sample_other c store z k inside_slots h.store_long long s j n l)

  new-total : (j : ℕ) → j < P c.order → used_total (filed c d q k t ps) (put_at (base c k) z store) j ≡ used_total c store j +ℤ (part' j k -ℤ part j k)
  unfolding part part'
  new-total j l = sum_changed c.capacity k (part j) (part' j) inside_slots (λ s _ n. part_other j s l n)

  new_slot : slot (filed c d q k t ps) k ≡ t
  new_slot = slot_same c w d q r k t ps (omega (arith, h.filed.most))

  new_periods : periods (filed c d q k t ps) k ≡ ps
  new_periods = periods-same c w d q r k t ps (omega (arith, h.filed.most))

  -- the record holds together if its slots and days agree, slot k is right, and the sums have what it adds
  refiled : (sums' : List ℤ) → Filed (filed c d q k t ps) → length sums' ≡ length sums
      → ((t ≡ 0 → ⊥) → (j : ℕ) → j < P c.order → within ps (at z j) ≡ true) → (t ≡ 0 → (j : ℕ) → j < P c.order → at z j ≡ pos 0)
      → ((j : ℕ) → j < P c.order → at sums' j ≡ at sums j +ℤ (part' j k -ℤ part j k))
      → Together (filed c d q k t ps) (put_at (base c k) z store) sums'
  refiled sums' f same_long good clear added =
      record {
        filed = f;
        edition = h.edition;
        store_long = rw (store_length c store z k inside_slots h.store_long long) h.store_long;
        sums_long = rw same_long h.sums_long;
        used = λ s l u j m. elim (ℕ_discrete s k) [
          | yes e ↦ subst₂ (λ n v. within n v ≡ true) (sym (ap (periods (filed c d q k t ps)) e ∙ new_periods)) (sym (here s j e m)) (good (λ x. u (ap (slot (filed c d q k t ps)) e ∙ new_slot ∙ x)) j m)
          | no e ↦ subst₂ (λ n v. within n v ≡ true) (sym (periods_other c w d q r k t ps s e)) (sym (there s j e m)) (h.used s l (λ x. u (slot_other c w d q r k t ps s e ∙ x)) j m)
        ];
        zeros = λ s l g j m. elim (ℕ_discrete s k) [
          | yes e ↦ here s j e m ∙ clear (sym new_slot ∙ ap (slot (filed c d q k t ps)) (sym e) ∙ g) j m
          | no e ↦ there s j e m ∙ h.zeros s l (sym (slot_other c w d q r k t ps s e) ∙ g) j m
        ];
        total = λ j m. added j m ∙ ap (λ v. v +ℤ (part' j k -ℤ part j k)) (h.total j m) ∙ sym (new-total j m);
      }
    where
      here : (s j : ℕ) → s ≡ k → j < P c.order → sample c (put_at (base c k) z store) s j ≡ at z j
      here s j e m = ap (λ n. sample c (put_at (base c k) z store) n j) e ∙ sample-same c store z k inside_slots h.store_long long j m

      there : (s j : ℕ) → (s ≡ k → ⊥) → j < P c.order → sample c (put_at (base c k) z store) s j ≡ sample c store s j
      there s j e m = sample_other c store z k inside_slots h.store_long long s j e m

-- ---- after a kept entry

pub together_kept : (c : Campaign) (store sums : List ℤ) → Sized c → (d k ps : ℕ) → Day d → Together c store sums → k < c.capacity → slot c k ≡ 0
    → (state c d ≡ standing → ⊥) → 1 ≤ ps → ps ≤ 16 → (y : List ℤ) → length y ≡ P c.order → ((j : ℕ) → j < P c.order → within ps (at y j) ≡ true)
    → Together (filed c d standing k d ps) (put_at (base c k) y store) (put (table (P c.order) (λ j. at sums j +ℤ at y j)) sums)
unfolding part part'
together_kept c store sums w d k ps r h l e n least most y long good =
    refiled c store sums w d standing k d ps r h l y long (put (table (P c.order) (λ j. at sums j +ℤ at y j)) sums)
    (taken_filed c w d k ps r h.filed l e n least most)
    (length-put (table (P c.order) (λ j. at sums j +ℤ at y j)) sums (omega (arith, length-table (P c.order) (λ j. at sums j +ℤ at y j), h.sums_long)))
    (λ _. good) (λ x. absurd (omega (arith, r.first)))
    (λ j m. at-put (P c.order) (λ j. at sums j +ℤ at y j) sums j (pos 0) m ∙ sym (ap₂ (λ a b. at sums j +ℤ (a -ℤ b)) (gains j m) (had j) ∙ less (at sums j) (at y j)))
  where
    had : (j : ℕ) → part c store sums w d standing k d ps r h l y long j k ≡ pos 0
    had j = ap (λ b. cond b (pos 0) (sample c store k j)) (eq-eqb (slot c k) 0 e)

    gains : (j : ℕ) → j < P c.order → part' c store sums w d standing k d ps r h l y long j k ≡ at y j
    gains j m =
        ap (λ b. cond b (pos 0) (sample c (put_at (base c k) y store) k j))
        (ne_eqb (slot (filed c d standing k d ps) k) 0 (λ x. omega (arith, r.first, new_slot c store sums w d standing k d ps r h l y long)))
        ∙ sample-same c store y k l h.store_long long j m

    less : (a b : ℤ) → a +ℤ (b -ℤ pos 0) ≡ a +ℤ b
    less a b = simp ring

-- ---- after a withdrawal

pub together-withdrawn : (c : Campaign) (store sums : List ℤ) → Sized c → (d k : ℕ) → Day d → Together c store sums → k < c.capacity → slot c k ≡ d
    → state c d ≡ standing
    → Together (filed c d withdrawn k 0 0) (put_at (base c k) (table (P c.order) (λ _. pos 0)) store) (put (table (P c.order) (λ j. at sums j -ℤ sample c store k j)) sums)
unfolding part part'
together-withdrawn c store sums w d k r h l e v =
    refiled c store sums w d withdrawn k 0 0 r h l none long (put (table (P c.order) (λ j. at sums j -ℤ sample c store k j)) sums)
    (freed_filed c w d k r h.filed l e v)
    (length-put (table (P c.order) (λ j. at sums j -ℤ sample c store k j)) sums (omega (arith, length-table (P c.order) (λ j. at sums j -ℤ sample c store k j), h.sums_long)))
    (λ x. absurd (x refl)) (λ _ j m. at_table (P c.order) (λ _. pos 0) j (pos 0) m)
    (λ j m. at-put (P c.order) (λ j. at sums j -ℤ sample c store k j) sums j (pos 0) m ∙ sym (ap₂ (λ a b. at sums j +ℤ (a -ℤ b)) (left j) (had j) ∙ less (at sums j) (sample c store k j)))
  where
    none : List ℤ
    none = table (P c.order) (λ _. pos 0)

    long : length none ≡ P c.order
    long = length-table (P c.order) (λ _. pos 0)

    had : (j : ℕ) → part c store sums w d withdrawn k 0 0 r h l none long j k ≡ sample c store k j
    had j = ap (λ b. cond b (pos 0) (sample c store k j)) (ne_eqb (slot c k) 0 (λ x. omega (arith, r.first)))

    left : (j : ℕ) → part' c store sums w d withdrawn k 0 0 r h l none long j k ≡ pos 0
    left j =
        ap (λ b. cond b (pos 0) (sample c (put_at (base c k) none store) k j))
        (eq-eqb (slot (filed c d withdrawn k 0 0) k) 0 (new_slot c store sums w d withdrawn k 0 0 r h l none long))

    less : (a b : ℤ) → a +ℤ (pos 0 -ℤ b) ≡ a -ℤ b
    less a b = simp ring

-- ---- after a day is set aside

pub together-marked : (c : Campaign) (store sums : List ℤ) → Sized c → (d q : ℕ) → Day d → Together c store sums → (state c d ≡ standing → ⊥)
    → (q ≡ standing → ⊥) → q ≤ withdrawn → Together (marked c d q) store sums
together-marked c store sums w d q r h n a b =
    record {
      filed = marked-filed c w d q r h.filed n a b;
      edition = h.edition;
      store_long = h.store_long;
      sums_long = h.sums_long;
      used = h.used;
      zeros = h.zeros;
      total = h.total;
    }
