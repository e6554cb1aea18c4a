-- Holding together, as a fact for each clause: the test of the specification holds exactly where these facts do. Assumes nothing.
use mathlib.Core.Path.{◌≡◌, sym, ap, ◌∙◌}
use mathlib.Core.Logic.{◌↔◌}
use mathlib.Core.Bool.{Bool, true, false, cond, not, ◌&&◌, ◌||◌}
use mathlib.Core.List.{List}
use Prim.Native.Nat.{ℕ, ◌+◌, ◌*◌, ◌≤◌, ◌<◌}
use native.Mathlib.Decide.{dec_lt, ℕ_discrete}
use native.Mathlib.Omega.{arith}
use borrow.Author.Tests.{leb-true, eqb-true, le-leb, lt-ltb, le-ltb, eq-eqb, ne_eqb, not-false}
use lib.Dec.{eqb, ltb, leb}
use lib.IntN.{ℤ, pos}
use lib.ListN.{length}
use Rattle.sums.specs.Lists.{at, every, many}
use Rattle.sums.proofs.Everywhere.{and-true, both_true, every-at, every_all, or_rest, or_left, or_right}
use Rattle.register.specs.Register.{P, Accepted}
use Rattle.register.specs.Calls.{taps_answer}
use Rattle.register.proofs.Judged.{accepted_exactly}
use Rattle.records.specs.Record.{standing, withdrawn, state, stands, slot, free, periods, sample, used_total, taps_hold, slots_hold, edition_holds, states_hold, past_free, room_holds, slots_stand, one_slot, periods_hold, used_within, free_zero, sums_hold, together, apart}
use Rattle.samples.specs.Samples.{within}
use Rattle.sums.specs.Equal.{eq_z}
use Rattle.records.specs.declared.Campaign.{Campaign}
use Rattle.sums.proofs.Equal.{eq_z-same, eq_z_is}

-- the record alone: its slots and its days
pub record Filed (c : Campaign) : Type 0 where
  pub accepted : Accepted c.order c.taps
  pub least : 1 ≤ c.capacity
  pub most : c.capacity ≤ 64
  pub states : (i : ℕ) → i < 366 → state c (i + 1) ≤ withdrawn
  pub past : (s : ℕ) → s < 64 → c.capacity ≤ s → slot c s ≡ 0
  pub named : (s : ℕ) → s < c.capacity → (slot c s ≡ 0 → ⊥) → (slot c s ≤ 366) × (state c (slot c s) ≡ standing)
  pub one : (i : ℕ) → i < 366 → state c (i + 1) ≡ standing → many c.capacity (λ s. eqb (slot c s) (i + 1)) ≡ 1
  pub counted : (s : ℕ) → s < 64 → (slot c s ≡ 0 → ⊥) → (1 ≤ periods c s) × (periods c s ≤ 16)
  pub uncounted : (s : ℕ) → s < 64 → slot c s ≡ 0 → periods c s ≡ 0

-- and with the lent memory
pub record Together (c : Campaign) (store sums : List ℤ) : Type 0 where
  pub filed : Filed c
  pub edition : edition_holds c ≡ true
  pub store_long : c.capacity * P c.order ≤ length store
  pub sums_long : P c.order ≤ length sums
  pub used : (s : ℕ) → s < c.capacity → (slot c s ≡ 0 → ⊥) → (j : ℕ) → j < P c.order → within (periods c s) (sample c store s j) ≡ true
  pub zeros : (s : ℕ) → s < c.capacity → slot c s ≡ 0 → (j : ℕ) → j < P c.order → sample c store s j ≡ pos 0
  pub total : (j : ℕ) → j < P c.order → at sums j ≡ used_total c store j

-- the tests of the slots and of the days' states
abbrev pub filed_tests : Campaign → Bool
filed_tests c = slots_hold c && states_hold c && past_free c && slots_stand c && one_slot c && periods_hold c

module _ (c : Campaign) where
  -- the test of a slot's periods, of one that is free or not
  abbrev periods_test : ℕ → Bool → Bool
  periods_test s b = cond b (eqb (periods c s) 0) (leb 1 (periods c s) && leb (periods c s) 16)

  pub filed_by : taps_hold c ≡ true → filed_tests c ≡ true → Filed c
  filed_by taps h =
      let k5 = and-true _ (periods_hold c) h in
      let k4 = and-true _ (one_slot c) k5.0 in
      let k3 = and-true _ (slots_stand c) k4.0 in
      let k2 = and-true _ (past_free c) k3.0 in
      let k1 = and-true (slots_hold c) (states_hold c) k2.0 in
      let range = and-true (leb 1 c.capacity) (leb c.capacity 64) k1.0 in
      record {
        accepted = (accepted_exactly c.order c.taps).0 (eqb-true (taps_answer c.order c.taps) 0 taps);
        least = leb-true 1 c.capacity range.0;
        most = leb-true c.capacity 64 range.1;
        states = λ i l. leb-true (state c (i + 1)) withdrawn (every-at 366 _ k1.1 i l);
        past = λ s l p. eqb-true (slot c s) 0 (or_rest (ltb s c.capacity) (free c s) (every-at 64 _ k2.1 s l) (le-ltb s c.capacity p));
        named = λ s l u.
            let two = and-true (leb (slot c s) 366) (stands c (slot c s)) (or_rest (free c s) _ (every-at c.capacity _ k3.1 s l) (ne_eqb (slot c s) 0 u)) in
            (leb-true (slot c s) 366 two.0, eqb-true (state c (slot c s)) standing two.1);
        one = λ i l q.
            eqb-true (many c.capacity (λ s. eqb (slot c s) (i + 1))) 1
            (or_rest (not (stands c (i + 1))) _ (every-at 366 _ k4.1 i l) (ap not (eq-eqb (state c (i + 1)) standing q)));
        counted = λ s l u.
            let two = and-true (leb 1 (periods c s)) (leb (periods c s) 16) (sym (ap (periods_test s) (ne_eqb (slot c s) 0 u)) ∙ every-at 64 _ k5.1 s l) in
            (leb-true 1 (periods c s) two.0, leb-true (periods c s) 16 two.1);
        uncounted = λ s l e. eqb-true (periods c s) 0 (sym (ap (periods_test s) (eq-eqb (slot c s) 0 e)) ∙ every-at 64 _ k5.1 s l);
      }

module _ (c : Campaign) (store sums : List ℤ) where
  -- the tests one by one
  tests : together c store sums ≡ true
      → (taps_hold c ≡ true) × (filed_tests c ≡ true) × (room_holds c store sums ≡ true) × (used_within c store ≡ true) × (free_zero c store ≡ true) × (sums_hold c store sums ≡ true) × (edition_holds c ≡ true)
  unfolding together
  tests h =
      let k9 = and-true _ (sums_hold c store sums) h in
      let k8 = and-true _ (free_zero c store) k9.0 in
      let k7 = and-true _ (used_within c store) k8.0 in
      let kp = and-true _ (periods_hold c) k7.0 in
      let k6 = and-true _ (one_slot c) kp.0 in
      let k5 = and-true _ (slots_stand c) k6.0 in
      let k4 = and-true _ (room_holds c store sums) k5.0 in
      let k3 = and-true _ (past_free c) k4.0 in
      let k2 = and-true _ (states_hold c) k3.0 in
      let ke = and-true _ (edition_holds c) k2.0 in
      let k1 = and-true (taps_hold c) (slots_hold c) ke.0 in
      (k1.0, both_true (both_true (both_true (both_true (both_true k1.1 k2.1) k3.1) k5.1) k6.1) kp.1, k4.1, k7.1, k8.1, k9.1, ke.1)

  pub filed_tests_lem : together c store sums ≡ true → filed_tests c ≡ true
  filed_tests_lem h = (tests h).1

  to : together c store sums ≡ true → Together c store sums
  to h =
      let k = tests h in
      let room = and-true (leb (c.capacity * P c.order) (length store)) (leb (P c.order) (length sums)) k.2 in
      record {
        filed = filed_by c k.0 k.1;
        edition = k.6;
        store_long = leb-true (c.capacity * P c.order) (length store) room.0;
        sums_long = leb-true (P c.order) (length sums) room.1;
        used = λ s l u j i. every-at (P c.order) _ (or_rest (free c s) _ (every-at c.capacity _ k.3 s l) (ne_eqb (slot c s) 0 u)) j i;
        zeros = λ s l f j i.
            eq_z_is (sample c store s j) (pos 0)
            (every-at (P c.order) _ (or_rest (not (free c s)) _ (every-at c.capacity _ k.4 s l) (ap not (eq-eqb (slot c s) 0 f))) j i);
        total = λ j i. eq_z_is (at sums j) (used_total c store j) (every-at (P c.order) _ k.5 j i);
      }

  from : Together c store sums → together c store sums ≡ true
  unfolding together
  from t =
      let f = t.filed in
      both_true
      (both_true
      (both_true
      (both_true
      (both_true
      (both_true
      (both_true
      (both_true
      (both_true
      (both_true
      (both_true
      (eq-eqb (taps_answer c.order c.taps) 0 ((accepted_exactly c.order c.taps).1 f.accepted))
      (both_true (le-leb 1 c.capacity f.least) (le-leb c.capacity 64 f.most)))
      t.edition)
      (every_all 366 _ (λ i l. le-leb (state c (i + 1)) withdrawn (f.states i l))))
      (every_all 64 _ (λ s l. past s l)))
      (both_true (le-leb (c.capacity * P c.order) (length store) t.store_long) (le-leb (P c.order) (length sums) t.sums_long)))
      (every_all c.capacity _ (λ s l. named s l)))
      (every_all 366 _ (λ i l. one i l)))
      (every_all 64 _ (λ s l. counted s l)))
      (every_all c.capacity _ (λ s l. used s l)))
      (every_all c.capacity _ (λ s l. zeros s l)))
      (every_all (P c.order) _ (λ j l. eq_z-same (t.total j l)))
    where
      past : (s : ℕ) → s < 64 → ltb s c.capacity || free c s ≡ true
      past s l = elim (dec_lt s c.capacity) [
        | yes h ↦ or_left (ltb s c.capacity) (free c s) (lt-ltb s c.capacity h)
        | no h ↦ or_right (ltb s c.capacity) (free c s) (eq-eqb (slot c s) 0 (t.filed.past s l (omega arith)))
      ]

      named : (s : ℕ) → s < c.capacity → free c s || (leb (slot c s) 366 && stands c (slot c s)) ≡ true
      named s l = elim (ℕ_discrete (slot c s) 0) [
        | yes e ↦ or_left (free c s) (leb (slot c s) 366 && stands c (slot c s)) (eq-eqb (slot c s) 0 e)
        | no e ↦ let n = t.filed.named s l e in
            or_right (free c s) (leb (slot c s) 366 && stands c (slot c s))
            (both_true (le-leb (slot c s) 366 n.0) (eq-eqb (state c (slot c s)) standing n.1))
      ]

      one : (i : ℕ) → i < 366 → not (stands c (i + 1)) || eqb (many c.capacity (λ s. eqb (slot c s) (i + 1))) 1 ≡ true
      one i l = elim (ℕ_discrete (state c (i + 1)) standing) [
        | yes e ↦ or_right (not (stands c (i + 1))) _ (eq-eqb (many c.capacity (λ s. eqb (slot c s) (i + 1))) 1 (t.filed.one i l e))
        | no e ↦ or_left (not (stands c (i + 1))) _ (ap not (ne_eqb (state c (i + 1)) standing e))
      ]

      counted : (s : ℕ) → s < 64 → periods_test c s (free c s) ≡ true
      counted s l = elim (ℕ_discrete (slot c s) 0) [
        | yes e ↦ ap (periods_test c s) (eq-eqb (slot c s) 0 e) ∙ eq-eqb (periods c s) 0 (t.filed.uncounted s l e)
        | no e ↦ let n = t.filed.counted s l e in
            ap (periods_test c s) (ne_eqb (slot c s) 0 e) ∙ both_true (le-leb 1 (periods c s) n.0) (le-leb (periods c s) 16 n.1)
      ]

      used : (s : ℕ) → s < c.capacity → free c s || every (P c.order) (λ j. within (periods c s) (sample c store s j)) ≡ true
      used s l = elim (ℕ_discrete (slot c s) 0) [
        | yes e ↦ or_left (free c s) _ (eq-eqb (slot c s) 0 e)
        | no e ↦ or_right (free c s) _ (every_all (P c.order) _ (λ j k. t.used s l e j k))
      ]

      zeros : (s : ℕ) → s < c.capacity → not (free c s) || every (P c.order) (λ j. eq_z (sample c store s j) (pos 0)) ≡ true
      zeros s l = elim (ℕ_discrete (slot c s) 0) [
        | yes e ↦ or_right (not (free c s)) _ (every_all (P c.order) _ (λ j k. eq_z-same (t.zeros s l e j k)))
        | no e ↦ or_left (not (free c s)) _ (ap not (ne_eqb (slot c s) 0 e))
      ]

  pub holds-together : (together c store sums ≡ true) ↔ Together c store sums
  holds-together = (to, from)

  pub not_apart : apart c store sums ≡ false → Together c store sums
  not_apart e = to (not-false (together c store sums) e)
