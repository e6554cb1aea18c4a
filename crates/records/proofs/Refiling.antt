-- A record in which one day, and perhaps one slot, is changed: what it says of the others stays, and its slots, their periods and its days still agree.
-- Assumes nothing.
use mathlib.Core.Path.{◌≡◌, refl, sym, ap, subst, ◌∙◌}
use mathlib.Core.Bool.{cond}
use Prim.Native.Nat.{ℕ, ◌+◌, ◌-◌, ◌≤◌, ◌<◌}
use native.Mathlib.Decide.{ℕ_discrete}
use native.Mathlib.Omega.{arith}
use borrow.Author.Tests.{eq-eqb, ne_eqb}
use lib.Dec.{eqb}
use lib.ListN.{length, length-set}
use lib.Seq.{get_or-set_same, get_or-set_other}
use Rattle.sums.specs.Lists.{many}
use Rattle.sums.proofs.Sum.{total_changed}
use Rattle.sums.proofs.Everywhere.{many-none, many-one}
use Rattle.records.specs.Record.{standing, withdrawn, state, slot, periods, marked, filed}
use Rattle.records.specs.declared.Campaign.{Campaign}
use Rattle.records.proofs.Holding.{Filed}
use Rattle.records.proofs.Tallying.{no_slot}

-- the tables are as long as the paper has them
pub record Sized (c : Campaign) : Type 0 where
  pub days : length c.days ≡ 366
  pub slots : length c.slots ≡ 64
  pub periods : length c.periods ≡ 64

-- a day of the year
pub record Day (d : ℕ) : Type 0 where
  pub first : 1 ≤ d
  pub last : d ≤ 366

pub day : (i : ℕ) → i < 366 → Day (i + 1)
day i l = record { first = omega arith; last = omega arith }

-- ---- what the changed record says

module _ (c : Campaign) (z : Sized c) (d q : ℕ) (r : Day d) where
  module _ (s t ps : ℕ) where
    pub sized_filed : Sized (filed c d q s t ps)
    sized_filed = record { days = length-set c.days (d - 1) q ∙ z.days; slots = length-set c.slots s t ∙ z.slots; periods = length-set c.periods s ps ∙ z.periods }

    pub state-same : state (filed c d q s t ps) d ≡ q
    state-same = get_or-set_same c.days (d - 1) q 0 (omega (arith, z.days, r.first, r.last))

    pub state_other : (e : ℕ) → Day e → (e ≡ d → ⊥) → state (filed c d q s t ps) e ≡ state c e
    state_other e p n = get_or-set_other c.days (d - 1) (e - 1) q 0 (λ h. n (omega (arith, p.first, r.first)))

    pub slot_same : s < 64 → slot (filed c d q s t ps) s ≡ t
    slot_same h = get_or-set_same c.slots s t 0 (omega (arith, z.slots))

    pub slot_other : (k : ℕ) → (k ≡ s → ⊥) → slot (filed c d q s t ps) k ≡ slot c k
    slot_other k n = get_or-set_other c.slots s k t 0 n

    pub periods-same : s < 64 → periods (filed c d q s t ps) s ≡ ps
    periods-same h = get_or-set_same c.periods s ps 0 (omega (arith, z.periods))

    pub periods_other : (k : ℕ) → (k ≡ s → ⊥) → periods (filed c d q s t ps) k ≡ periods c k
    periods_other k n = get_or-set_other c.periods s k ps 0 n

  pub sized_marked : Sized (marked c d q)
  sized_marked = record { days = length-set c.days (d - 1) q ∙ z.days; slots = z.slots; periods = z.periods }

-- ---- a day set aside, or withdrawn, that has no slot

pub marked-filed : (c : Campaign) → Sized c → (d q : ℕ) → Day d → Filed c → (state c d ≡ standing → ⊥) → (q ≡ standing → ⊥) → q ≤ withdrawn
    → Filed (marked c d q)
marked-filed c z d q r f n a h =
    record {
      accepted = f.accepted;
      least = f.least;
      most = f.most;
      states = λ i l. states i l;
      past = f.past;
      named = λ s l u. let m = f.named s l u in (m.0, other (slot c s) (record { first = some (slot c s) u; last = m.0 }) m.1 ∙ m.1);
      one = λ i l e. f.one i l (before i l e);
      counted = f.counted;
      uncounted = f.uncounted;
    }
  where
    some : (n : ℕ) → (n ≡ 0 → ⊥) → 1 ≤ n
    some n h = omega arith

    at : (e : ℕ) → Day e → (e ≡ d → ⊥) → state (marked c d q) e ≡ state c e
    at e p m = state_other c z d q r 0 (slot c 0) (periods c 0) e p m

    here : state (marked c d q) d ≡ q
    here = state-same c z d q r 0 (slot c 0) (periods c 0)

    other : (e : ℕ) → Day e → state c e ≡ standing → state (marked c d q) e ≡ state c e
    other e p w = at e p (λ x. n (ap (state c) (sym x) ∙ w))

    before : (i : ℕ) → i < 366 → state (marked c d q) (i + 1) ≡ standing → state c (i + 1) ≡ standing
    before i l e = elim (ℕ_discrete (i + 1) d) [
      | yes x ↦ absurd (a (sym here ∙ ap (state (marked c d q)) (sym x) ∙ e))
      | no x ↦ sym (at (i + 1) (day i l) x) ∙ e
    ]

    states : (i : ℕ) → i < 366 → state (marked c d q) (i + 1) ≤ withdrawn
    states i l = elim (ℕ_discrete (i + 1) d) [
      | yes x ↦ subst (λ m. m ≤ withdrawn) (sym (ap (state (marked c d q)) x ∙ here)) h
      | no x ↦ subst (λ m. m ≤ withdrawn) (sym (at (i + 1) (day i l) x)) (f.states i l)
    ]

-- ---- one slot changed

module _ (c : Campaign) (z : Sized c) (d q k t ps : ℕ) (r : Day d) (f : Filed c) (inside : k < c.capacity) where
  k_small : k < 64
  k_small = omega (arith, f.most)

  -- the slots that name a day, after the change of slot k
  recount : (e : ℕ) → many c.capacity (λ s. eqb (slot (filed c d q k t ps) s) e) + cond (eqb (slot c k) e) 1 0
      ≡ many c.capacity (λ s. eqb (slot c s) e) + cond (eqb t e) 1 0
  unfolding many
  recount e =
      total_changed c.capacity k (λ s. cond (eqb (slot c s) e) 1 0) (λ s. cond (eqb (slot (filed c d q k t ps) s) e) 1 0) inside
      (λ s l n. ap (λ m. cond (eqb m e) 1 0) (slot_other c z d q r k t ps s n))
      ∙ ap (λ m. many c.capacity (λ s. eqb (slot c s) e) + cond (eqb m e) 1 0) (slot_same c z d q r k t ps k_small)

  -- the state of every day, and every slot past C
  states : (q ≤ withdrawn) → (i : ℕ) → i < 366 → state (filed c d q k t ps) (i + 1) ≤ withdrawn
  states h i l = elim (ℕ_discrete (i + 1) d) [
    | yes x ↦ subst (λ m. m ≤ withdrawn) (sym (ap (state (filed c d q k t ps)) x ∙ state-same c z d q r k t ps)) h
    | no x ↦ subst (λ m. m ≤ withdrawn) (sym (state_other c z d q r k t ps (i + 1) (day i l) x)) (f.states i l)
  ]

  past : (s : ℕ) → s < 64 → c.capacity ≤ s → slot (filed c d q k t ps) s ≡ 0
  past s l h = slot_other c z d q r k t ps s (λ e. omega arith) ∙ f.past s l h

  -- the periods of every slot, where those of slot k are right
  counted : ((t ≡ 0 → ⊥) → (1 ≤ ps) × (ps ≤ 16)) → (s : ℕ) → s < 64 → (slot (filed c d q k t ps) s ≡ 0 → ⊥)
      → (1 ≤ periods (filed c d q k t ps) s) × (periods (filed c d q k t ps) s ≤ 16)
  counted h s l u = elim (ℕ_discrete s k) [
    | yes x ↦
        let e = ap (periods (filed c d q k t ps)) x ∙ periods-same c z d q r k t ps k_small in
        subst (λ m. (1 ≤ m) × (m ≤ 16)) (sym e) (h (λ y. u (ap (slot (filed c d q k t ps)) x ∙ slot_same c z d q r k t ps k_small ∙ y)))
    | no x ↦ subst (λ m. (1 ≤ m) × (m ≤ 16)) (sym (periods_other c z d q r k t ps s x)) (f.counted s l (λ y. u (slot_other c z d q r k t ps s x ∙ y)))
  ]

  uncounted : (t ≡ 0 → ps ≡ 0) → (s : ℕ) → s < 64 → slot (filed c d q k t ps) s ≡ 0 → periods (filed c d q k t ps) s ≡ 0
  uncounted h s l e = elim (ℕ_discrete s k) [
    | yes x ↦ ap (periods (filed c d q k t ps)) x ∙ periods-same c z d q r k t ps k_small
        ∙ h (sym (slot_same c z d q r k t ps k_small) ∙ ap (slot (filed c d q k t ps)) (sym x) ∙ e)
    | no x ↦ periods_other c z d q r k t ps s x ∙ f.uncounted s l (sym (slot_other c z d q r k t ps s x) ∙ e)
  ]

  -- another slot that is in use
  elsewhere : (s : ℕ) → s < c.capacity → (s ≡ k → ⊥) → (slot (filed c d q k t ps) s ≡ 0 → ⊥) → (slot c s ≡ d → ⊥)
      → (slot (filed c d q k t ps) s ≤ 366) × (state (filed c d q k t ps) (slot (filed c d q k t ps) s) ≡ standing)
  elsewhere s l n u m =
      let e = slot_other c z d q r k t ps s n in
      let used : slot c s ≡ 0 → ⊥ = λ x. u (e ∙ x) in
      let p = f.named s l used in
      let e' : Day (slot c s) = record { first = some (slot c s) used; last = p.0 } in
      (subst (λ x. x ≤ 366) (sym e) p.0, ap (state (filed c d q k t ps)) e ∙ state_other c z d q r k t ps (slot c s) e' m ∙ p.1)
    where
      some : (n : ℕ) → (n ≡ 0 → ⊥) → 1 ≤ n
      some n h = omega arith

  other_count : (e : ℕ) → (slot c k ≡ e → ⊥) → (t ≡ e → ⊥)
      → many c.capacity (λ s. eqb (slot (filed c d q k t ps) s) e) ≡ many c.capacity (λ s. eqb (slot c s) e)
  other_count e a b =
      let m = rw (ne_eqb (slot c k) e a, ne_eqb t e b) at (recount e) in omega arith

-- ---- a day that takes a free slot

pub taken_filed : (c : Campaign) → Sized c → (d k ps : ℕ) → Day d → Filed c → k < c.capacity → slot c k ≡ 0 → (state c d ≡ standing → ⊥) → 1 ≤ ps → ps ≤ 16
    → Filed (filed c d standing k d ps)
taken_filed c z d k ps r f inside e n least most =
    record {
      accepted = f.accepted;
      least = f.least;
      most = f.most;
      states = states c z d standing k d ps r f inside (omega arith);
      past = past c z d standing k d ps r f inside;
      named = λ s l u. elim (ℕ_discrete s k) [
        | yes x ↦ here s x
        | no x ↦ elsewhere c z d standing k d ps r f inside s l x u (no_slot c f d s r.first n l)
      ];
      one = λ i l w. elim (ℕ_discrete (i + 1) d) [ yes x ↦ mine i x | no x ↦ others i l x w ];
      counted = counted c z d standing k d ps r f inside (λ _. (least, most));
      uncounted = uncounted c z d standing k d ps r f inside (λ x. absurd (omega (arith, r.first)));
    }
  where
    small : k < 64
    small = omega (arith, f.most)

    here : (s : ℕ) → s ≡ k → (slot (filed c d standing k d ps) s ≤ 366) × (state (filed c d standing k d ps) (slot (filed c d standing k d ps) s) ≡ standing)
    here s x =
        let g = ap (slot (filed c d standing k d ps)) x ∙ slot_same c z d standing r k d ps small in
        (subst (λ m. m ≤ 366) (sym g) r.last, ap (state (filed c d standing k d ps)) g ∙ state-same c z d standing r k d ps)

    mine : (i : ℕ) → i + 1 ≡ d → many c.capacity (λ s. eqb (slot (filed c d standing k d ps) s) (i + 1)) ≡ 1
    mine i x =
        let m = rw (ap (λ w. eqb w d) e, ne_eqb 0 d (λ g. omega (arith, r.first)), eq-eqb d d refl) at (recount c z d standing k d ps r f inside d) in
        let none = many-none c.capacity (λ s. eqb (slot c s) d) (λ s l. ne_eqb (slot c s) d (no_slot c f d s r.first n l)) in
        ap (λ w. many c.capacity (λ s. eqb (slot (filed c d standing k d ps) s) w)) x ∙ omega arith

    others : (i : ℕ) → i < 366 → (i + 1 ≡ d → ⊥) → state (filed c d standing k d ps) (i + 1) ≡ standing
        → many c.capacity (λ s. eqb (slot (filed c d standing k d ps) s) (i + 1)) ≡ 1
    others i l x w =
        other_count c z d standing k d ps r f inside (i + 1) (λ g. omega arith) (λ g. x (sym g))
        ∙ f.one i l (sym (state_other c z d standing r k d ps (i + 1) (day i l) x) ∙ w)

-- ---- a standing day that gives its slot back

pub slot_unique : (c : Campaign) → Filed c → (d s k : ℕ) → Day d → state c d ≡ standing → s < c.capacity → k < c.capacity → slot c s ≡ d → slot c k ≡ d → s ≡ k
slot_unique c f d s k r w a b e g =
    many-one c.capacity (λ s. eqb (slot c s) d) once s k a b (eq-eqb (slot c s) d e) (eq-eqb (slot c k) d g)
  where
    once : many c.capacity (λ s. eqb (slot c s) d) ≡ 1
    once =
        let x : d - 1 + 1 ≡ d = omega (arith, r.first) in
        ap (λ n. many c.capacity (λ s. eqb (slot c s) n)) (sym x) ∙ f.one (d - 1) (omega (arith, r.first, r.last)) (ap (state c) x ∙ w)

pub freed_filed : (c : Campaign) → Sized c → (d k : ℕ) → Day d → Filed c → k < c.capacity → slot c k ≡ d → state c d ≡ standing
    → Filed (filed c d withdrawn k 0 0)
freed_filed c z d k r f inside e w =
    record {
      accepted = f.accepted;
      least = f.least;
      most = f.most;
      states = states c z d withdrawn k 0 0 r f inside (omega arith);
      past = past c z d withdrawn k 0 0 r f inside;
      named = λ s l u. elim (ℕ_discrete s k) [
        | yes x ↦ absurd (u (ap (slot (filed c d withdrawn k 0 0)) x ∙ slot_same c z d withdrawn r k 0 0 (omega (arith, f.most))))
        | no x ↦ elsewhere c z d withdrawn k 0 0 r f inside s l x u (λ g. x (slot_unique c f d s k r w l inside g e))
      ];
      one = λ i l v. elim (ℕ_discrete (i + 1) d) [ yes x ↦ absurd (gone i x v) | no x ↦ others i l x v ];
      counted = counted c z d withdrawn k 0 0 r f inside (λ u. absurd (u refl));
      uncounted = uncounted c z d withdrawn k 0 0 r f inside (λ _. refl);
    }
  where
    gone : (i : ℕ) → i + 1 ≡ d → state (filed c d withdrawn k 0 0) (i + 1) ≡ standing → ⊥
    gone i x v =
        let g : ◌≡◌ {A = ℕ} withdrawn standing = sym (state-same c z d withdrawn r k 0 0) ∙ ap (state (filed c d withdrawn k 0 0)) (sym x) ∙ v in omega arith

    others : (i : ℕ) → i < 366 → (i + 1 ≡ d → ⊥) → state (filed c d withdrawn k 0 0) (i + 1) ≡ standing
        → many c.capacity (λ s. eqb (slot (filed c d withdrawn k 0 0) s) (i + 1)) ≡ 1
    others i l x v =
        other_count c z d withdrawn k 0 0 r f inside (i + 1) (λ g. x (sym g ∙ e)) (λ g. omega arith)
        ∙ f.one i l (sym (state_other c z d withdrawn r k 0 0 (i + 1) (day i l) x) ∙ v)
