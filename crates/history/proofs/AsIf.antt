-- A kept entry withdrawn after calls on other days: the sums and the set of standing days are as if it had not come, provided none of those
-- calls was refused with 12. A start names every day, so none is among those calls. Withdrawn at once: store, sums and slots and periods are as they were.
-- For every run. Assumes nothing.
use mathlib.Core.Path.{◌≡◌, refl, sym, ap, ap₂, subst, ◌∙◌}
use mathlib.Core.Bool.{Bool, true, false, cond, not, ◌&&◌}
use mathlib.Core.List.{List, [], ◌∷◌, ◌++◌}
use Prim.Native.Nat.{ℕ, zero, suc, ◌+◌, ◌-◌, ◌<◌}
use native.Mathlib.Decide.{ℕ_discrete}
use native.Mathlib.Omega.{arith}
use borrow.Author.Tests.{eq-eqb, ne_eqb, eqb-true}
use lib.Dec.{T, eqb}
use lib.IntN.{ℤ, pos}
use Rattle.sums.specs.Sum.{sum}
use Rattle.sums.specs.Lists.{at, many}
use Rattle.sums.specs.Refusals.{first}
use Rattle.sums.proofs.First.{refused_first, passed_first, accepts, outcome_cases}
use Rattle.sums.proofs.Sum.{sum_ext, total_changed}
use Rattle.register.specs.Register.{P}
use Rattle.finding.specs.Finding.{finding}
use Rattle.nights.specs.Nights.{periods_of, settled}
use Rattle.nights.specs.declared.Night.{Night}
use Rattle.records.specs.Record.{standing, withdrawn, state, stands, days_in, together}
use Rattle.judging.specs.Judging.{night_checks, judging, same}
use Rattle.campaign.specs.Calls.{day_out, settled_of, full_checks, shown_as, shown_to, withdraw_checks, withdrawn_outcome, file_outcome, withdraw_outcome, state_of, keeps}
use Rattle.campaign.specs.Calls.{Shown}
use Rattle.campaign.proofs.EntryCases.{file_first}
use Rattle.history.specs.Run.{World, Call, start, judge, file, withdraw, counts, response, summary, after, answer, accepted, run, starts, under_way, begun, names, makes, made, Heard, term_at, recording, heard, Elsewhere}
use Rattle.records.specs.declared.Campaign.{Campaign}
use Rattle.campaign.specs.Calls.{Withdrawn}
use Rattle.records.proofs.Holding.{holds-together}
use Rattle.records.proofs.Tallying.{standing_most}
use Rattle.records.proofs.Refiling.{Day, day}
use Rattle.history.proofs.History.{SaysRun, says, if_alike}
use Rattle.history.proofs.UnderWay.{stays_under_way, same_campaign}
use Rattle.history.proofs.Steps.{Entering, entering}
use Rattle.history.proofs.Steps as steps
use Rattle.history.proofs.Undone.{Undone, undone, withdraw_accepted}
use Rattle.history.proofs.EveryRun.{sums_are}

-- ---- the answer of a filing and of a withdrawal, as one list of checks

-- those before the verdict, where the record holds together: of the record they look at the order, the taps and the day's state
abbrev by_numbers : ℕ → Night → List ℤ → Shown → ℕ → ℕ → ℕ → List (ℕ × Bool)
by_numbers d night y s N taps q =
    (10, day_out d)
    ∷ night_checks N night y
    ++ (11, eqb q standing)
    ∷ (23, not (same (shown_as (judging N taps night y) s) (judging N taps night y)))
    ∷ []

abbrev early : Campaign → ℕ → Night → List ℤ → Shown → List (ℕ × Bool)
early c d night y s = by_numbers d night y s c.order c.taps (state c d)

file_answer : (w : World) → together w.campaign w.store w.sums ≡ true → (d : ℕ) (night : Night) (y : List ℤ) (s : Shown)
    → answer w (file d night y s) ≡ first (early w.campaign d night y s ++ full_checks w.campaign night y)
file_answer w t d night y s =
    file_first w.campaign w.store w.sums d night y (shown_to w.campaign night y s)
    ∙ ap (λ b. cond (not b) 15 (first (early w.campaign d night y s ++ full_checks w.campaign night y))) t

withdraw_answer : (w : World) → together w.campaign w.store w.sums ≡ true → (d : ℕ)
    → answer w (withdraw d) ≡ first ((10, day_out d) ∷ (13, not (stands w.campaign d)) ∷ [])
unfolding withdraw_outcome
withdraw_answer w t d =
    outcome_cases {A = Withdrawn × List ℤ × List ℤ} (withdraw_checks w.campaign w.store w.sums d) tt
    (λ n. (record { answer = n; campaign = w.campaign }, w.store, w.sums)) (withdrawn_outcome w.campaign w.store w.sums d)
    (λ o. o.0.answer ≡ first ((10, day_out d) ∷ (13, not (stands w.campaign d)) ∷ []))
    (λ n h e. sym (sym (ap (λ b. cond (not b) 15 (first ((10, day_out d) ∷ (13, not (stands w.campaign d)) ∷ []))) t) ∙ e))
    (λ p. sym (accepts ((10, day_out d) ∷ (13, not (stands w.campaign d)) ∷ []) p.1))

-- ---- two runs: with the entry, and without it

-- two worlds with the same sums at the first p places and the same days standing
pub record AsIf (p : ℕ) (a b : World) : Type 0 where
  pub sums : (j : ℕ) → j < p → at a.sums j ≡ at b.sums j
  pub days : (e : ℕ) → Day e → stands a.campaign e ≡ stands b.campaign e

module _ (w₀ : World) (cs : List Call) (started : under_way w₀ cs ≡ true) (d : ℕ) (night : Night) (y : List ℤ) (x : Shown) (r : Day d) where
  -- the calls `between` after the entry, and the same with no entry
  abbrev with_it : List Call → List Call
  with_it between = between ++ (file d night y x ∷ cs)

  abbrev without_it : List Call → List Call
  without_it between = between ++ cs

  -- calls of the same campaign: none is a start
  record Onward (calls : List Call) : Type 0 where
    pub going : under_way w₀ calls ≡ true
    pub same : begun w₀ calls ≡ begun w₀ cs

  here : Onward cs
  here = record { going = started; same = refl }

  further : {calls : List Call} → Onward calls → (call : Call) → starts call ≡ false → Onward (call ∷ calls)
  further {calls} o call n = record { going = stays_under_way w₀ call calls o.going; same = same_campaign w₀ call calls n ∙ o.same }

  no_start : (call : Call) → names call d ≡ false → starts call ≡ false
  no_start (start N taps C E) e = e
  no_start (judge N taps other z) _ = refl
  no_start (file e other z u) _ = refl
  no_start (withdraw e) _ = refl
  no_start counts _ = refl
  no_start (response x1 x2 x3 x4) _ = refl
  no_start (summary x1 x2) _ = refl

  ever : {calls : List Call} → Onward calls → SaysRun w₀ calls
  ever {calls} o = says w₀ calls o.going

  holds : {calls : List Call} → Onward calls → together (run w₀ calls).campaign (run w₀ calls).store (run w₀ calls).sums ≡ true
  holds o = (holds-together _ _ _).1 (ever o).holds

  -- the two runs say the same of every other day
  record Alike (a b : List Call) : Type 0 where
    pub onward_a : Onward a
    pub onward_b : Onward b
    pub others : (e : ℕ) → Day e → (e ≡ d → ⊥) → made w₀ a e ≡ made w₀ b e
    pub hears : (e : ℕ) → Day e → (e ≡ d → ⊥) → heard w₀ a e ≡ heard w₀ b e
    pub mine : made w₀ a d ≡ standing
    pub none : made w₀ b d ≡ standing → ⊥

  module _ {a b : List Call} (s : Alike a b) where
    campaign_a : Campaign
    campaign_a = (run w₀ a).campaign

    campaign_b : Campaign
    campaign_b = (run w₀ b).campaign

    same-state : (e : ℕ) → Day e → (e ≡ d → ⊥) → state campaign_a e ≡ state campaign_b e
    unfolding campaign_a campaign_b
    same-state e p n = (ever s.onward_a).days e p ∙ s.others e p n ∙ sym ((ever s.onward_b).days e p)

    same_order : campaign_a.order ≡ campaign_b.order
    unfolding campaign_a campaign_b
    same_order = (ever s.onward_a).order ∙ ap (λ (x : Campaign). x.order) (s.onward_a.same ∙ sym s.onward_b.same) ∙ sym (ever s.onward_b).order

    same_taps : campaign_a.taps ≡ campaign_b.taps
    unfolding campaign_a campaign_b
    same_taps = (ever s.onward_a).taps ∙ ap (λ (x : Campaign). x.taps) (s.onward_a.same ∙ sym s.onward_b.same) ∙ sym (ever s.onward_b).taps

    -- a call makes the same of a day, and leaves the same recording, in both
    same-makes : (call : Call) → makes (run w₀ a) call ≡ makes (run w₀ b) call
    unfolding campaign_a campaign_b
    same-makes (start N taps C E) = refl
    same-makes (judge N taps v z) = refl
    same-makes (file e v z u) = ap (λ o. state_of (finding (settled (P o) v z))) same_order
    same-makes (withdraw e) = refl
    same-makes counts = refl
    same-makes (response x1 x2 x3 x4) = refl
    same-makes (summary x1 x2) = refl

    same-recording : (call : Call) (x : Heard) → recording (run w₀ a) call x ≡ recording (run w₀ b) call x
    unfolding campaign_a campaign_b
    same-recording (start N taps C E) x = refl
    same-recording (judge N taps v z) x = refl
    same-recording (file e v z u) x = ap (λ o. record { periods = periods_of v; samples = settled (P o) v z }) same_order
    same-recording (withdraw e) x = refl
    same-recording counts x = refl
    same-recording (response x1 x2 x3 x4) x = refl
    same-recording (summary x1 x2) x = refl

    -- one day more stands with the entry
    one_more : days_in campaign_a standing ≡ suc (days_in campaign_b standing)
    unfolding campaign_a campaign_b many
    one_more =
        let x : d - 1 + 1 ≡ d = omega (arith, r.first) in
        let t = total_changed 366 (d - 1) (λ i. cond (stands campaign_b (i + 1)) 1 0) (λ i. cond (stands campaign_a (i + 1)) 1 0) (omega (arith, r.first, r.last))
        (λ i l n. ap (λ q. cond (eqb q standing) 1 0) (same-state (i + 1) (day i l) (λ e. n (omega arith)))) in
        let f : ◌≡◌ {A = ℕ} (cond (stands campaign_a (d - 1 + 1)) 1 0) 1 = ap (λ q. cond {A = ℕ} q 1 0) (eq-eqb (state campaign_a (d - 1 + 1)) standing (ap (state campaign_a) x ∙ (ever s.onward_a).days d r ∙ s.mine)) in
        let g : ◌≡◌ {A = ℕ} (cond (stands campaign_b (d - 1 + 1)) 1 0) 0 = ap (λ q. cond {A = ℕ} q 1 0) (ne_eqb (state campaign_b (d - 1 + 1)) standing (λ e. s.none (sym ((ever s.onward_b).days d r) ∙ ap (state campaign_b) (sym x) ∙ e))) in
        omega arith

    -- a call on another day is accepted in both or in neither
    same-entry : (e : ℕ) (v : Night) (z : List ℤ) (u : Shown) → Day e → (e ≡ d → ⊥) → (answer (run w₀ a) (file e v z u) ≡ 12 → ⊥) → answer (run w₀ a) (file e v z u) ≡ answer (run w₀ b) (file e v z u)
    unfolding campaign_a campaign_b
    same-entry e v z u p n twelve =
        file_answer (run w₀ a) (holds s.onward_a) e v z u ∙ lists (first (early campaign_b e v z u)) refl ∙ sym (file_answer (run w₀ b) (holds s.onward_b) e v z u)
      where
        alike : early campaign_a e v z u ≡ early campaign_b e v z u
        alike =
            ap₂ (λ o q. by_numbers e v z u o campaign_a.taps q) same_order (same-state e p n)
            ∙ ap (λ t. by_numbers e v z u campaign_b.order t (state campaign_b e)) same_taps

        room : eqb (days_in campaign_b standing) campaign_b.capacity ≡ false
        room =
            ne_eqb (days_in campaign_b standing) campaign_b.capacity
            (λ q. omega (arith, one_more, standing_most campaign_a (ever s.onward_a).holds.filed, (ever s.onward_a).capacity, ap (λ (x : Campaign). x.capacity) (s.onward_a.same ∙ sym s.onward_b.same), (ever s.onward_b).capacity))

        and_none : (k : Bool) → k && false ≡ false
        and_none true = refl
        and_none false = refl

        passed : first (early campaign_b e v z u) ≡ 0 → first (full_checks campaign_a v z) ≡ 0
        passed q = go (keeps (finding (settled_of campaign_a v z)) && eqb (days_in campaign_a standing) campaign_a.capacity) refl
          where
            go : (k : Bool) → keeps (finding (settled_of campaign_a v z)) && eqb (days_in campaign_a standing) campaign_a.capacity ≡ k → first ((12, k) ∷ []) ≡ 0
            go false g = refl
            go true g =
                absurd (twelve (file_answer (run w₀ a) (holds s.onward_a) e v z u ∙ passed_first (early campaign_a e v z u) (full_checks campaign_a v z) tt (ap first alike ∙ q) ∙ ap (λ k. first ((12, k) ∷ [])) g))

        lists : (n : ℕ) → first (early campaign_b e v z u) ≡ n → first (early campaign_a e v z u ++ full_checks campaign_a v z) ≡ first (early campaign_b e v z u ++ full_checks campaign_b v z)
        lists zero q =
            passed_first (early campaign_a e v z u) (full_checks campaign_a v z) tt (ap first alike ∙ q) ∙ passed q
            ∙ sym (passed_first (early campaign_b e v z u) (full_checks campaign_b v z) tt q ∙ ap (λ k. first ((12, k) ∷ [])) (ap (λ k. keeps (finding (settled_of campaign_b v z)) && k) room ∙ and_none (keeps (finding (settled_of campaign_b v z)))))
        lists (suc n) q =
            refused_first (early campaign_a e v z u) (full_checks campaign_a v z) (λ g. omega (arith, sym (ap first alike ∙ q) ∙ g)) ∙ ap first alike
            ∙ sym (refused_first (early campaign_b e v z u) (full_checks campaign_b v z) (λ g. omega (arith, sym q ∙ g)))

    same_withdrawal : (e : ℕ) → Day e → (e ≡ d → ⊥) → answer (run w₀ a) (withdraw e) ≡ answer (run w₀ b) (withdraw e)
    unfolding campaign_a campaign_b
    same_withdrawal e p n =
        withdraw_answer (run w₀ a) (holds s.onward_a) e
        ∙ ap (λ q. first ((10, day_out e) ∷ (13, not (eqb q standing)) ∷ [])) (same-state e p n)
        ∙ sym (withdraw_answer (run w₀ b) (holds s.onward_b) e)

    -- so one call more keeps them alike
    module _ (call : Call) (other : names call d ≡ false) (twelve : answer (run w₀ a) call ≡ 12 → ⊥) where
      same-accepted : (e : ℕ) → Day e → (e ≡ d → ⊥) → names call e ≡ true → accepted (run w₀ a) call ≡ accepted (run w₀ b) call
      same-accepted e p n t = ap (λ k. eqb k 0) (go call other twelve t)
        where
          go : (k : Call) → names k d ≡ false → (answer (run w₀ a) k ≡ 12 → ⊥) → names k e ≡ true → answer (run w₀ a) k ≡ answer (run w₀ b) k
          go (start N taps C E) o h u = absurd (subst T o tt)
          go (judge N taps v z) _ h u = absurd (subst T (sym u) tt)
          go (file g v z x) _ h u =
              let q = eqb-true g e u in
              same-entry g v z x (subst Day (sym q) p) (λ x. n (sym q ∙ x)) h
          go (withdraw g) _ h u =
              let q = eqb-true g e u in
              same_withdrawal g (subst Day (sym q) p) (λ x. n (sym q ∙ x))
          go counts _ h u = absurd (subst T (sym u) tt)
          go (response x1 x2 x3 x4) _ h u = absurd (subst T (sym u) tt)
          go (summary x1 x2) _ h u = absurd (subst T (sym u) tt)

      -- what a call makes of a day, in both runs
      both : {A : Type 0} (e : ℕ) → Day e → (e ≡ d → ⊥) → (x z u v : A) → x ≡ z → u ≡ v
          → cond (names call e && accepted (run w₀ a) call) x u ≡ cond (names call e && accepted (run w₀ b) call) z v
      both e p n x z u v f q = ap (λ i. cond (names call e && accepted (run w₀ a) call) i u) f ∙ go (names call e) refl
        where
          go : (k : Bool) → names call e ≡ k → cond (k && accepted (run w₀ a) call) z u ≡ cond (k && accepted (run w₀ b) call) z v
          go true g = ap₂ (λ o i. cond o z i) (same-accepted e p n g) q
          go false g = q

      more_alike : Alike (call ∷ a) (call ∷ b)
      unfolding made heard
      more_alike =
          record {
            onward_a = further s.onward_a call (no_start call other);
            onward_b = further s.onward_b call (no_start call other);
            others = λ e p n. both e p n (makes (run w₀ a) call) (makes (run w₀ b) call) (made w₀ a e) (made w₀ b e) (same-makes call) (s.others e p n);
            hears = λ e p n.
                let q = s.hears e p n in
                both e p n (recording (run w₀ a) call (heard w₀ a e)) (recording (run w₀ b) call (heard w₀ b e)) (heard w₀ a e) (heard w₀ b e)
                (same-recording call (heard w₀ a e) ∙ ap (recording (run w₀ b) call) q) q;
            mine = ap (λ k. cond (k && accepted (run w₀ a) call) (makes (run w₀ a) call) (made w₀ a d)) other ∙ s.mine;
            none = λ e. s.none (sym (ap (λ k. cond (k && accepted (run w₀ b) call) (makes (run w₀ b) call) (made w₀ b d)) other) ∙ e);
          }

  -- ---- from the entry on

  module _ (entered_0 : answer (run w₀ cs) (file d night y x) ≡ 0) (kept : makes (run w₀ cs) (file d night y x) ≡ standing) where
    not_standing : made w₀ cs d ≡ standing → ⊥
    not_standing e = go (entering (run w₀ cs) d night y (shown_to (run w₀ cs).campaign night y x) (holds here))
      where
        go : Entering (run w₀ cs) d night y (file_outcome (run w₀ cs).campaign (run w₀ cs).store (run w₀ cs).sums d night y (shown_to (run w₀ cs).campaign night y x)) → ⊥
        go (steps.refused n g h i) = n entered_0
        go (steps.aside q b v n l p f g h i) = f ((ever here).days d r ∙ e)
        go (steps.kept k b v p n l f least most good g h i) = n ((ever here).days d r ∙ e)

    at_entry : Alike (file d night y x ∷ cs) cs
    unfolding made heard
    at_entry =
        record {
          onward_a = further here (file d night y x) refl;
          onward_b = here;
          others = λ e p n. other_day e n (makes (run w₀ cs) (file d night y x)) (made w₀ cs e);
          hears = λ e p n. other_day e n (recording (run w₀ cs) (file d night y x) (heard w₀ cs e)) (heard w₀ cs e);
          mine = ap₂ (λ k o. cond (k && o) (makes (run w₀ cs) (file d night y x)) (made w₀ cs d)) (eq-eqb d d refl) (eq-eqb (answer (run w₀ cs) (file d night y x)) 0 entered_0) ∙ kept;
          none = not_standing;
        }
      where
        other_day : {A : Type 0} (e : ℕ) → (e ≡ d → ⊥) → (i u : A) → cond (eqb d e && accepted (run w₀ cs) (file d night y x)) i u ≡ u
        other_day e n i u = ap (λ k. cond (k && accepted (run w₀ cs) (file d night y x)) i u) (ne_eqb d e (λ q. n (sym q)))

    alike : (between : List Call) → Elsewhere w₀ d (file d night y x ∷ cs) between → Alike (with_it between) (without_it between)
    unfolding Elsewhere
    alike [] b = at_entry
    alike (call ∷ between) b = more_alike (alike between b.2) call b.0 b.1

    pub as_if : (between : List Call) → Elsewhere w₀ d (file d night y x ∷ cs) between → (answer (run w₀ (with_it between)) (withdraw d) ≡ 0)
        × AsIf (P (begun w₀ cs).order) (run w₀ (withdraw d ∷ with_it between)) (run w₀ (without_it between))
    unfolding made heard
    as_if between b = (answered_0, record { sums = same_sums; days = same_days })
      where
        s : Alike (with_it between) (without_it between)
        s = alike between b

        after_all : Onward (withdraw d ∷ with_it between)
        after_all = further s.onward_a (withdraw d) refl

        stands-still : state (run w₀ (with_it between)).campaign d ≡ standing
        stands-still = (ever s.onward_a).days d r ∙ s.mine

        answered_0 : answer (run w₀ (with_it between)) (withdraw d) ≡ 0
        answered_0 =
            ap (λ o. o.0.answer)
            (withdraw_accepted (run w₀ (with_it between)).campaign (run w₀ (with_it between)).store (run w₀ (with_it between)).sums (holds s.onward_a) d r stands-still)

        -- after the withdrawal the entry's day does not stand, and the others are as before it
        gone : made w₀ (withdraw d ∷ with_it between) d ≡ withdrawn
        gone = ap₂ (λ k o. cond (k && o) withdrawn (made w₀ (with_it between) d)) (eq-eqb d d refl) (eq-eqb (answer (run w₀ (with_it between)) (withdraw d)) 0 answered_0)

        before : (e : ℕ) → (e ≡ d → ⊥) → made w₀ (withdraw d ∷ with_it between) e ≡ made w₀ (with_it between) e
        before e n = ap (λ k. cond (k && accepted (run w₀ (with_it between)) (withdraw d)) withdrawn (made w₀ (with_it between) e)) (ne_eqb d e (λ q. n (sym q)))

        unheard : (e : ℕ) → heard w₀ (withdraw d ∷ with_it between) e ≡ heard w₀ (with_it between) e
        unheard e = if_alike (eqb d e && accepted (run w₀ (with_it between)) (withdraw d)) (heard w₀ (with_it between) e)

        -- a day's part in the sums, in both runs
        part : (i j : ℕ) → i < 366
            → cond (eqb (made w₀ (withdraw d ∷ with_it between) (i + 1)) standing) (term_at (P (begun w₀ cs).order) (heard w₀ (withdraw d ∷ with_it between) (i + 1)) j) (pos 0)
            ≡ cond (eqb (made w₀ (without_it between) (i + 1)) standing) (term_at (P (begun w₀ cs).order) (heard w₀ (without_it between) (i + 1)) j) (pos 0)
        part i j l = elim (ℕ_discrete (i + 1) d) [
          | yes e ↦
              ap (λ q. cond (eqb q standing) (term_at (P (begun w₀ cs).order) (heard w₀ (withdraw d ∷ with_it between) (i + 1)) j) (pos 0)) (ap (made w₀ (withdraw d ∷ with_it between)) e ∙ gone)
              ∙ sym (ap (λ k. cond k (term_at (P (begun w₀ cs).order) (heard w₀ (without_it between) (i + 1)) j) (pos 0)) (ne_eqb (made w₀ (without_it between) (i + 1)) standing (λ q. s.none (ap (made w₀ (without_it between)) (sym e) ∙ q))))
          | no e ↦
              ap₂ (λ q z. cond (eqb q standing) (term_at (P (begun w₀ cs).order) z j) (pos 0)) (before (i + 1) e ∙ s.others (i + 1) (day i l) e) (unheard (i + 1) ∙ s.hears (i + 1) (day i l) e)
        ]

        -- the sums after calls of the same campaign
        sums_of : (calls : List Call) → Onward calls → (j : ℕ) → j < P (begun w₀ cs).order
            → at (run w₀ calls).sums j ≡ sum 366 (λ i. cond (eqb (made w₀ calls (i + 1)) standing) (term_at (P (begun w₀ cs).order) (heard w₀ calls (i + 1)) j) (pos 0))
        sums_of calls o j l =
            sums_are w₀ calls o.going j (subst (λ (x : Campaign). j < P x.order) (sym o.same) l)
            ∙ ap (λ (x : Campaign). sum 366 (λ i. cond (eqb (made w₀ calls (i + 1)) standing) (term_at (P x.order) (heard w₀ calls (i + 1)) j) (pos 0))) o.same

        same_sums : (j : ℕ) → j < P (begun w₀ cs).order → at (run w₀ (withdraw d ∷ with_it between)).sums j ≡ at (run w₀ (without_it between)).sums j
        same_sums j l =
            sums_of (withdraw d ∷ with_it between) after_all j l
            ∙ sum_ext 366 (λ i h. part i j h)
            ∙ sym (sums_of (without_it between) s.onward_b j l)

        same_days : (e : ℕ) → Day e → stands (run w₀ (withdraw d ∷ with_it between)).campaign e ≡ stands (run w₀ (without_it between)).campaign e
        same_days e p = elim (ℕ_discrete e d) [
          | yes q ↦
              ap (λ k. eqb k standing) ((ever after_all).days e p ∙ ap (made w₀ (withdraw d ∷ with_it between)) q ∙ gone)
              ∙ sym (ne_eqb (state (run w₀ (without_it between)).campaign e) standing (λ k. s.none (ap (made w₀ (without_it between)) (sym q) ∙ sym ((ever s.onward_b).days e p) ∙ k)))
          | no q ↦ ap (λ k. eqb k standing) ((ever after_all).days e p ∙ before e q ∙ s.others e p q ∙ sym ((ever s.onward_b).days e p))
        ]

  -- ---- and at once

  pub at_once : answer (run w₀ cs) (file d night y x) ≡ 0 → makes (run w₀ cs) (file d night y x) ≡ standing → Undone (run w₀ cs) (after (after (run w₀ cs) (file d night y x)) (withdraw d))
  at_once = undone (run w₀ cs) (ever here).sized (holds here) d night y x
