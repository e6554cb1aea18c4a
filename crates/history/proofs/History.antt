-- After any run of calls with an accepted start in it the record holds together, its order, taps and slot count are those of the last such start,
-- each day's state is what the history says, and each slot in use holds the sum of the periods last accepted for its day and how many they are. Assumes nothing.
use mathlib.Core.Path.{◌≡◌, refl, sym, ap, subst, ◌∙◌}
use mathlib.Core.Bool.{Bool, true, false, cond, ◌&&◌, ◌||◌, or-false}
use mathlib.Core.List.{List, [], ◌∷◌}
use mathlib.Core.Logic.{◌⊎◌, inl, inr}
use Prim.Native.Nat.{ℕ, ◌*◌, ◌≤◌, ◌<◌}
use native.Mathlib.Decide.{ℕ_discrete}
use native.Mathlib.Omega.{arith}
use borrow.Author.Tests.{eq-eqb, ne_eqb, eqb-true}
use lib.Dec.{T, eqb}
use lib.IntN.{ℤ, pos, ◌+ℤ◌, ◌-ℤ◌}
use Rattle.sums.specs.Lists.{at, table, put, put_at}
use Rattle.sums.proofs.Tables.{length-table}
use Rattle.register.specs.Register.{P}
use Rattle.samples.specs.Samples.{cleared_wide, within}
use Rattle.nights.specs.Nights.{term}
use Rattle.nights.specs.declared.Night.{Night}
use Rattle.nights.proofs.Terms.{term_long, term-at}
use Rattle.records.specs.Record.{unseen, standing, withdrawn, state, slot, periods, base, sample, together, fresh, marked, filed}
use Rattle.campaign.specs.Calls.{start_outcome, file_outcome, shown_to, withdraw_outcome}
use Rattle.campaign.specs.Calls.{Shown}
use Rattle.history.specs.Run.{World, Call, start, judge, file, withdraw, counts, response, summary, after, answer, accepted, run, starts, under_way, begins, begun, names, makes, made, Heard, term_at, nothing, recording, heard}
use Rattle.records.specs.declared.Campaign.{Campaign}
use Rattle.records.proofs.Holding.{Together, holds-together}
use Rattle.records.proofs.Tallying.{no_slot}
use Rattle.records.proofs.Refiling.{Sized, Day, sized_filed, sized_marked, state-same, state_other, slot_same, slot_other, periods-same, periods_other}
use Rattle.history.proofs.Memory.{sample-same, sample_other, together_kept, together-withdrawn, together-marked}
use Rattle.campaign.proofs.Passing.{Begins}
use Rattle.history.proofs.Begun.{begun_sized, begun-state, begun-slot, begun-together}
use Rattle.history.proofs.Steps.{Starting, starting, Entering, entering, Withdrawing, withdrawing}
use Rattle.history.proofs.Steps as steps

-- a record and its memory that say what a history says, of the campaign c₀
pub record Says (c₀ c : Campaign) (store sums : List ℤ) (states : ℕ → ℕ) (hears : ℕ → Heard) : Type 0 where
  pub order : c.order ≡ c₀.order
  pub taps : c.taps ≡ c₀.taps
  pub capacity : c.capacity ≡ c₀.capacity
  pub edition : c.edition ≡ c₀.edition
  pub sized : Sized c
  pub holds : Together c store sums
  pub days : (d : ℕ) → Day d → state c d ≡ states d
  pub slot_hears : (s : ℕ) → s < c.capacity → (slot c s ≡ 0 → ⊥) → (j : ℕ) → j < P c.order → sample c store s j ≡ term_at (P c.order) (hears (slot c s)) j
  pub slot_counts : (s : ℕ) → s < c.capacity → (slot c s ≡ 0 → ⊥) → periods c s ≡ (hears (slot c s)).periods

-- the same campaign and the same history
says_ext : {c₀ c₁ c : Campaign} {store sums : List ℤ} {f g : ℕ → ℕ} {h k : ℕ → Heard} → c₀ ≡ c₁ → ((d : ℕ) → f d ≡ g d) → ((d : ℕ) → h d ≡ k d)
    → Says c₀ c store sums f h → Says c₁ c store sums g k
says_ext {c = c} t e q s =
    record {
      order = s.order ∙ ap (λ (x : Campaign). x.order) t;
      taps = s.taps ∙ ap (λ (x : Campaign). x.taps) t;
      capacity = s.capacity ∙ ap (λ (x : Campaign). x.capacity) t;
      edition = s.edition ∙ ap (λ (x : Campaign). x.edition) t;
      sized = s.sized;
      holds = s.holds;
      days = λ d r. s.days d r ∙ e d;
      slot_hears = λ i l u j m. s.slot_hears i l u j m ∙ ap (λ y. term_at (P c.order) y j) (q (slot c i));
      slot_counts = λ i l u. s.slot_counts i l u ∙ ap (λ (y : Heard). y.periods) (q (slot c i));
    }

-- a history of which day d is changed
abbrev changed : {A : Type 0} → ℕ → A → (ℕ → A) → ℕ → A
changed d v f e = cond (eqb d e) v (f e)

changed_same : {A : Type 0} (d : ℕ) (v : A) (f : ℕ → A) → changed d v f d ≡ v
changed_same d v f = ap (λ b. cond b v (f d)) (eq-eqb d d refl)

changed_other : {A : Type 0} (d e : ℕ) (v : A) (f : ℕ → A) → (e ≡ d → ⊥) → changed d v f e ≡ f e
changed_other d e v f n = ap (λ b. cond b v (f e)) (ne_eqb d e (λ x. n (sym x)))

module _ {c₀ c : Campaign} {store sums : List ℤ} {f : ℕ → ℕ} {h : ℕ → Heard} (s : Says c₀ c store sums f h) where
  some : (i : ℕ) → i < c.capacity → (slot c i ≡ 0 → ⊥) → Day (slot c i)
  some i l u = record { first = above (slot c i) u; last = (s.holds.filed.named i l u).0 }
    where
      above : (n : ℕ) → (n ≡ 0 → ⊥) → 1 ≤ n
      above n x = omega arith

  -- set aside
  says_aside : (d q : ℕ) (y : Heard) → Day d → (state c d ≡ standing → ⊥) → (q ≡ standing → ⊥) → q ≤ withdrawn
      → Says c₀ (marked c d q) store sums (changed d q f) (changed d y h)
  says_aside d q y r n a b =
      record {
        order = s.order;
        taps = s.taps;
        capacity = s.capacity;
        edition = s.edition;
        sized = sized_marked c s.sized d q r;
        holds = together-marked c store sums s.sized d q r s.holds n a b;
        days = λ e p. elim (ℕ_discrete e d) [
          | yes x ↦ ap (state (marked c d q)) x ∙ state-same c s.sized d q r 0 (slot c 0) (periods c 0) ∙ sym (ap (changed d q f) x ∙ changed_same d q f)
          | no x ↦ state_other c s.sized d q r 0 (slot c 0) (periods c 0) e p x ∙ s.days e p ∙ sym (changed_other d e q f x)
        ];
        slot_hears = λ i l u j m. s.slot_hears i l u j m
            ∙ ap (λ z. term_at (P c.order) z j) (sym (changed_other d (slot c i) y h (λ x. no_slot c s.holds.filed d i r.first n l x)));
        slot_counts = λ i l u. s.slot_counts i l u
            ∙ ap (λ (z : Heard). z.periods) (sym (changed_other d (slot c i) y h (λ x. no_slot c s.holds.filed d i r.first n l x)));
      }

  -- kept, and so the sum of its periods
  says_kept : (d k : ℕ) (y : Heard) → Day d → (state c d ≡ standing → ⊥) → k < c.capacity → slot c k ≡ 0 → 1 ≤ y.periods → y.periods ≤ 16
      → let z = term (P c.order) y.periods y.samples in ((j : ℕ) → j < P c.order → within y.periods (at z j) ≡ true)
      → Says c₀ (filed c d standing k d y.periods) (put_at (base c k) z store) (put (table (P c.order) (λ j. at sums j +ℤ at z j)) sums)
      (changed d standing f) (changed d y h)
  says_kept d k y r n l e least most good =
      let m = y.periods in
      let z = term (P c.order) m y.samples in
      let long = term_long (P c.order) m y.samples in
      record {
        order = s.order;
        taps = s.taps;
        capacity = s.capacity;
        edition = s.edition;
        sized = sized_filed c s.sized d standing r k d m;
        holds = together_kept c store sums s.sized d k m r s.holds l e n least most z long good;
        days = λ g p. elim (ℕ_discrete g d) [
          | yes x ↦ ap (state (filed c d standing k d m)) x ∙ state-same c s.sized d standing r k d m ∙ sym (ap (changed d standing f) x ∙ changed_same d standing f)
          | no x ↦ state_other c s.sized d standing r k d m g p x ∙ s.days g p ∙ sym (changed_other d g standing f x)
        ];
        slot_hears = λ i o u j p. elim (ℕ_discrete i k) [
          | yes x ↦
              ap (λ t. sample c (put_at (base c k) z store) t j) x ∙ sample-same c store z k l s.holds.store_long long j p
              ∙ term-at (P c.order) m y.samples j p ∙ sym (ap (λ v. term_at (P c.order) v j) (mine i x))
          | no x ↦
              sample_other c store z k l s.holds.store_long long i j x p ∙ s.slot_hears i o (λ v. u (slot_other c s.sized d standing r k d m i x ∙ v)) j p
              ∙ sym (ap (λ v. term_at (P c.order) v j) (others i x o))
        ];
        slot_counts = λ i o u. elim (ℕ_discrete i k) [
          | yes x ↦
              ap (periods (filed c d standing k d m)) x ∙ periods-same c s.sized d standing r k d m small ∙ sym (ap (λ (v : Heard). v.periods) (mine i x))
          | no x ↦
              periods_other c s.sized d standing r k d m i x ∙ s.slot_counts i o (λ v. u (slot_other c s.sized d standing r k d m i x ∙ v))
              ∙ sym (ap (λ (v : Heard). v.periods) (others i x o))
        ];
      }
    where
      small : k < 64
      small = omega (arith, s.holds.filed.most)

      -- the recording of the day in slot i
      mine : (i : ℕ) → i ≡ k → changed d y h (slot (filed c d standing k d y.periods) i) ≡ y
      mine i x = ap (changed d y h) (ap (slot (filed c d standing k d y.periods)) x ∙ slot_same c s.sized d standing r k d y.periods small) ∙ changed_same d y h

      others : (i : ℕ) → (i ≡ k → ⊥) → i < c.capacity → changed d y h (slot (filed c d standing k d y.periods) i) ≡ h (slot c i)
      others i x o =
          ap (changed d y h) (slot_other c s.sized d standing r k d y.periods i x)
          ∙ changed_other d (slot c i) y h (λ v. no_slot c s.holds.filed d i r.first n o v)

  -- withdrawn
  says_withdrawn : (d k : ℕ) → Day d → state c d ≡ standing → k < c.capacity → slot c k ≡ d
      → Says c₀ (filed c d withdrawn k 0 0) (put_at (base c k) (table (P c.order) (λ _. pos 0)) store)
      (put (table (P c.order) (λ j. at sums j -ℤ sample c store k j)) sums) (changed d withdrawn f) h
  says_withdrawn d k r v l e =
      record {
        order = s.order;
        taps = s.taps;
        capacity = s.capacity;
        edition = s.edition;
        sized = sized_filed c s.sized d withdrawn r k 0 0;
        holds = together-withdrawn c store sums s.sized d k r s.holds l e v;
        days = λ g p. elim (ℕ_discrete g d) [
          | yes x ↦ ap (state (filed c d withdrawn k 0 0)) x ∙ state-same c s.sized d withdrawn r k 0 0 ∙ sym (ap (changed d withdrawn f) x ∙ changed_same d withdrawn f)
          | no x ↦ state_other c s.sized d withdrawn r k 0 0 g p x ∙ s.days g p ∙ sym (changed_other d g withdrawn f x)
        ];
        slot_hears = λ i m u j o. elim (ℕ_discrete i k) [
          | yes x ↦ absurd (u (ap (slot (filed c d withdrawn k 0 0)) x ∙ slot_same c s.sized d withdrawn r k 0 0 (omega (arith, s.holds.filed.most))))
          | no x ↦
              let q = slot_other c s.sized d withdrawn r k 0 0 i x in
              sample_other c store (table (P c.order) (λ _. pos 0)) k l s.holds.store_long (length-table (P c.order) (λ _. pos 0)) i j x o
              ∙ s.slot_hears i m (λ z. u (q ∙ z)) j o ∙ sym (ap (λ t. term_at (P c.order) (h t) j) q)
        ];
        slot_counts = λ i m u. elim (ℕ_discrete i k) [
          | yes x ↦ absurd (u (ap (slot (filed c d withdrawn k 0 0)) x ∙ slot_same c s.sized d withdrawn r k 0 0 (omega (arith, s.holds.filed.most))))
          | no x ↦
              let q = slot_other c s.sized d withdrawn r k 0 0 i x in
              periods_other c s.sized d withdrawn r k 0 0 i x ∙ s.slot_counts i m (λ z. u (q ∙ z)) ∙ sym (ap (λ t. (h t).periods) q)
        ];
      }

-- ---- one call more

if_refused : {A : Type 0} (b a : Bool) (x y : A) → a ≡ false → cond (b && a) x y ≡ y
if_refused true a x y e = ap (λ z. cond z x y) e
if_refused false a x y e = refl

if_accepted : {A : Type 0} (b a : Bool) (x y : A) → a ≡ true → cond (b && a) x y ≡ cond b x y
if_accepted true a x y e = ap (λ z. cond z x y) e
if_accepted false a x y e = refl

-- whatever the test
pub if_alike : {A : Type 0} (b : Bool) (x : A) → cond b x x ≡ x
if_alike true x = refl
if_alike false x = refl

-- the world after a run says what its history says
abbrev pub SaysRun : World → List Call → Type 0
SaysRun w cs = Says (begun w cs) (run w cs).campaign (run w cs).store (run w cs).sums (made w cs) (heard w cs)

-- a refused call leaves everything
says_refused : (w : World) (cs : List Call) (call : Call) → SaysRun w cs → accepted (run w cs) call ≡ false → after (run w cs) call ≡ run w cs → SaysRun w (call ∷ cs)
unfolding run begun made heard
says_refused w cs call s a e =
    rw e
    (says_ext (ap (λ b. cond b (begins call (begun w cs)) (begun w cs)) (sym a))
    (λ d. sym (if_refused (names call d) (accepted (run w cs) call) (makes (run w cs) call) (made w cs d) a))
    (λ d. sym (if_refused (names call d) (accepted (run w cs) call) (recording (run w cs) call (heard w cs d)) (heard w cs d) a)) s)

-- a call that hands no record back names no day
says_asked : (w : World) (cs : List Call) (call : Call) → SaysRun w cs → ((d : ℕ) → names call d ≡ false) → ((c : Campaign) → begins call c ≡ c) → after (run w cs) call ≡ run w cs → SaysRun w (call ∷ cs)
unfolding run begun made heard
says_asked w cs call s n k e =
    rw e
    (says_ext (sym (ap (λ c. cond (accepted (run w cs) call) c (begun w cs)) (k (begun w cs)) ∙ if_alike (accepted (run w cs) call) (begun w cs)))
    (λ d. sym (ap (λ b. cond (b && accepted (run w cs) call) (makes (run w cs) call) (made w cs d)) (n d)))
    (λ d. sym (ap (λ b. cond (b && accepted (run w cs) call) (recording (run w cs) call (heard w cs d)) (heard w cs d)) (n d))) s)

-- an accepted start, whatever came before it
anew : (N taps C E : ℕ) (store sums : List ℤ) → Begins N taps C E store sums
    → Says (fresh N taps C E) (fresh N taps C E) (cleared_wide (C * P N) store) (cleared_wide (P N) sums) (λ d. unseen) (λ d. nothing)
anew N taps C E store sums b =
    record {
      order = refl;
      taps = refl;
      capacity = refl;
      edition = refl;
      sized = begun_sized N taps C E;
      holds = begun-together N taps C E store sums b;
      days = λ d r. begun-state N taps C E d;
      slot_hears = λ s l u. absurd (u (begun-slot N taps C E s));
      slot_counts = λ s l u. absurd (u (begun-slot N taps C E s));
    }

says_started : (w : World) (cs : List Call) (N taps C E : ℕ) → (SaysRun w cs ⊎ (accepted (run w cs) (start N taps C E) ≡ true))
    → Starting (run w cs) N taps C E (start_outcome (run w cs).campaign N taps C E (run w cs).store (run w cs).sums) → SaysRun w (start N taps C E ∷ cs)
unfolding run begun made heard
says_started w cs N taps C E (inl s) (steps.refused n e g i) = says_refused w cs (start N taps C E) s (ne_eqb (answer (run w cs) (start N taps C E)) 0 n) (rw (e, g, i))
says_started w cs N taps C E (inr a) (steps.refused n e g i) = absurd (n (eqb-true (answer (run w cs) (start N taps C E)) 0 a))
says_started w cs N taps C E p (steps.began a b e g i) =
    let t = eq-eqb (answer (run w cs) (start N taps C E)) 0 a in
    rw (e, g, i)
    (says_ext (ap (λ b. cond b (fresh N taps C E) (begun w cs)) (sym t))
    (λ d. ap (λ b. cond b unseen (made w cs d)) (sym t))
    (λ d. ap (λ b. cond b nothing (heard w cs d)) (sym t))
    (anew N taps C E (run w cs).store (run w cs).sums b))

module _ (w : World) (cs : List Call) (s : SaysRun w cs) where
  now : World
  now = run w cs

  holding : together (run w cs).campaign (run w cs).store (run w cs).sums ≡ true
  holding = (holds-together (run w cs).campaign (run w cs).store (run w cs).sums).1 s.holds

  -- an accepted filing, by what its record says
  entered_as : (d : ℕ) (night : Night) (y : List ℤ) (x : Shown) (q : ℕ) → answer (run w cs) (file d night y x) ≡ 0 → makes (run w cs) (file d night y x) ≡ q
      → {c : Campaign} {store sums : List ℤ} → Says (begun w cs) c store sums (changed d q (made w cs)) (changed d (recording (run w cs) (file d night y x) nothing) (heard w cs))
      → Says (begun w (file d night y x ∷ cs)) c store sums (made w (file d night y x ∷ cs)) (heard w (file d night y x ∷ cs))
  unfolding begun made heard
  entered_as d night y x q a m s =
      let e = file d night y x in
      let t = eq-eqb (answer (run w cs) (file d night y x)) 0 a in
      says_ext (sym (if_alike (accepted (run w cs) e) (begun w cs)))
      (λ i. sym (if_accepted (eqb d i) (accepted (run w cs) e) (makes (run w cs) e) (made w cs i) t ∙ ap (λ z. cond (eqb d i) z (made w cs i)) m))
      (λ i. sym (if_accepted (eqb d i) (accepted (run w cs) e) (recording (run w cs) e nothing) (heard w cs i) t)) s

  says_entered : (d : ℕ) (night : Night) (y : List ℤ) (x : Shown) → Entering (run w cs) d night y (file_outcome (run w cs).campaign (run w cs).store (run w cs).sums d night y (shown_to (run w cs).campaign night y x))
      → SaysRun w (file d night y x ∷ cs)
  unfolding run term
  says_entered d night y x (steps.refused n e g i) =
      says_refused w cs (file d night y x) s (ne_eqb (answer (run w cs) (file d night y x)) 0 n) (rw (e, g, i))
  says_entered d night y x (steps.aside q a m n b r v e g i) = rw (e, g, i) (entered_as d night y x q a m (says_aside s d q _ r v n b))
  says_entered d night y x (steps.kept k a m r v l f least most good e g i) =
      rw (e, g, i) (entered_as d night y x standing a m (says_kept s d k (recording (run w cs) (file d night y x) nothing) r v l f least most good))

  says_freed : (d : ℕ) → Withdrawing (run w cs) d (withdraw_outcome (run w cs).campaign (run w cs).store (run w cs).sums d) → SaysRun w (withdraw d ∷ cs)
  unfolding run begun made heard
  says_freed d (steps.refused n e g i) = says_refused w cs (withdraw d) s (ne_eqb (answer (run w cs) (withdraw d)) 0 n) (rw (e, g, i))
  says_freed d (steps.freed k a r v l f e g i) =
      rw (e, g, i)
      (says_ext (sym (if_alike (accepted (run w cs) (withdraw d)) (begun w cs)))
      (λ x. sym (if_accepted (eqb d x) (accepted (run w cs) (withdraw d)) withdrawn (made w cs x) (eq-eqb (answer (run w cs) (withdraw d)) 0 a)))
      (λ x. sym (if_alike (eqb d x && accepted (run w cs) (withdraw d)) (heard w cs x)))
      (says_withdrawn s d k r v l f))

  pub says_after : (call : Call) → SaysRun w (call ∷ cs)
  says_after (start N taps C E) = says_started w cs N taps C E (inl s) (starting (run w cs) N taps C E)
  says_after (judge N taps night y) = says_asked w cs (judge N taps night y) s (λ d. refl) (λ c. refl) refl
  says_after (file d night y x) = says_entered d night y x (entering (run w cs) d night y (shown_to (run w cs).campaign night y x) holding)
  says_after (withdraw d) = says_freed d (withdrawing (run w cs) d holding)
  says_after counts = says_asked w cs counts s (λ d. refl) (λ c. refl) refl
  says_after (response r mean room tags) = says_asked w cs (response r mean room tags) s (λ d. refl) (λ c. refl) refl
  says_after (summary room tags) = says_asked w cs (summary room tags) s (λ d. refl) (λ c. refl) refl

-- every run, from its first accepted start on
pub says : (w : World) (cs : List Call) → under_way w cs ≡ true → SaysRun w cs
unfolding under_way
says w [] u = absurd (subst T (sym u) tt)
says w (call ∷ cs) u = go (λ e. says w cs e) (under_way w cs) refl
  where
    first_of : (k : Call) → starts k && accepted (run w cs) k ≡ true → SaysRun w (k ∷ cs)
    first_of (start N taps C E) e = says_started w cs N taps C E (inr e) (starting (run w cs) N taps C E)
    first_of (judge N taps night y) e = absurd (subst T (sym e) tt)
    first_of (file d night y x) e = absurd (subst T (sym e) tt)
    first_of (withdraw d) e = absurd (subst T (sym e) tt)
    first_of counts e = absurd (subst T (sym e) tt)
    first_of (response r mean room tags) e = absurd (subst T (sym e) tt)
    first_of (summary room tags) e = absurd (subst T (sym e) tt)

    go : (under_way w cs ≡ true → SaysRun w cs) → (b : Bool) → under_way w cs ≡ b → SaysRun w (call ∷ cs)
    go before true e = says_after w cs (before e) call
    go before false e = first_of call (sym (or-false (starts call && accepted (run w cs) call)) ∙ sym (ap (λ b. (starts call && accepted (run w cs) call) || b) e) ∙ u)
