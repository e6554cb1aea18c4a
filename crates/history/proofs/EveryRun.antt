-- The third demand: after any run of calls each day's state, the sums and the answer are exactly what the history says. For every world
-- `w₀`, a record and lent memory whatever they hold, and every list of calls `cs`, the latest first, refused calls included, among which a start was
-- accepted. The order and the taps are those of the last such start. Assumes nothing.
use mathlib.Core.Path.{◌≡◌, refl, sym, ap, ap₂, subst, ◌∙◌}
use mathlib.Core.Bool.{Bool, true, false, cond}
use mathlib.Core.List.{List}
use Prim.Native.Nat.{ℕ, suc, ◌+◌, ◌-◌, ◌*◌, ◌<◌}
use native.Mathlib.Decide.{ℕ_discrete}
use native.Mathlib.Omega.{arith}
use borrow.Author.Tests.{eq-eqb, ne_eqb}
use lib.Dec.{eqb}
use lib.IntN.{ℤ, pos, nat_abs, ◌*ℤ◌, *ℤ-zero}
use Rattle.sums.specs.Sum.{sum, total}
use Rattle.sums.specs.Lists.{at, many}
use Rattle.sums.proofs.Everywhere.{many_ext, many-some}
use Rattle.sums.proofs.Sum.{sum_ext, sum_scale, pos-total}
use Rattle.sums.proofs.Tables.{at-put}
use Rattle.register.specs.Register.{P, wave, Accepted}
use Rattle.register.proofs.Judged.{generator}
use Rattle.response.specs.Response.{prediction}
use Rattle.response.specs.Response as formula
use Rattle.response.proofs.Linear.{response_ext, response-zero, response-sum}
use Rattle.response.proofs.Register.{predicted}
use Rattle.records.specs.Record.{unseen, standing, overloaded, dead, withdrawn, state, stands, days_in, slot, free, periods, periods_standing, together}
use Rattle.trend.specs.Calls.{counts_outcome, response_outcome, worked}
use Rattle.history.specs.Run.{World, Call, answer, run, under_way, begun, made, term_at, heard}
use Rattle.std.specs.Prelude.{Ok}
use Rattle.trend.proofs.Bounds.{counts_total}
use Rattle.records.proofs.Holding.{holds-together}
use Rattle.records.proofs.Tallying.{slots_as_days}
use Rattle.records.proofs.Refiling.{Day, day}
use Rattle.history.proofs.History.{SaysRun, says}
use Rattle.history.proofs.Answers.{never_fifteen, RoomFor, answers}

module _ (w₀ : World) (cs : List Call) (started : under_way w₀ cs ≡ true) where
  -- the world after the run, and the campaign's order and taps
  abbrev pub w : World
  w = run w₀ cs

  abbrev pub N : ℕ
  N = (begun w₀ cs).order

  abbrev pub taps : ℕ
  taps = (begun w₀ cs).taps

  history : SaysRun w₀ cs
  history = says w₀ cs started

  maximal : Accepted (begun w₀ cs).order (begun w₀ cs).taps
  maximal = subst (λ t. Accepted (begun w₀ cs).order t) history.taps (subst (λ n. Accepted n (run w₀ cs).campaign.taps) history.order history.holds.filed.accepted)

  -- ---- 0. The record is that of the last accepted start: its order, taps and slot count.

  pub same_order : (w.campaign.order ≡ N) × (w.campaign.taps ≡ taps) × (w.campaign.capacity ≡ (begun w₀ cs).capacity) × (w.campaign.edition ≡ (begun w₀ cs).edition)
  same_order = (history.order, history.taps, history.capacity, history.edition)

  -- ---- 1. The record holds together, so no call of the run answers 15.

  pub holds : together w.campaign w.store w.sums ≡ true
  holds = (holds-together _ _ _).1 history.holds

  pub no_fifteen : (call : Call) → answer w call ≡ 15 → ⊥
  no_fifteen = never_fifteen w holds

  -- ---- 2. Each day's state is what the last accepted call naming that day made it, or unseen.

  pub each_day : (d : ℕ) → Day d → state w.campaign d ≡ made w₀ cs d
  each_day = history.days

  -- so the counts are those of the history, and total 366
  unfoldable pub days_made : ℕ → ℕ
  days_made q = many 366 (λ i. eqb (made w₀ cs (i + 1)) q)

  days_are : (q : ℕ) → days_in w.campaign q ≡ days_made q
  unfolding days_made
  days_are q = many_ext 366 (λ i l. ap (λ s. eqb s q) (each_day (i + 1) (day i l)))

  pub counts_are : counts_outcome w.campaign w.store w.sums
      ≡ Ok (record {
        unseen = days_made unseen;
        standing = days_made standing;
        overloaded = days_made overloaded;
        dead = days_made dead;
        withdrawn = days_made withdrawn;
      })
  unfolding counts_outcome
  counts_are = rw (holds) (rw (days_are unseen, days_are standing, days_are overloaded, days_are dead, days_are withdrawn))

  pub counts_total_366 : days_made unseen + days_made standing + days_made overloaded + days_made dead + days_made withdrawn ≡ 366
  counts_total_366 =
      rw (← days_are unseen, ← days_are standing, ← days_are overloaded, ← days_are dead, ← days_are withdrawn)
      (counts_total w.campaign history.holds.filed)

  -- ---- 3. The sums are, place by place, the total of the last recordings accepted for exactly the days then standing, each the sum of its
  -- periods.

  pub sums_are : (j : ℕ) → j < P N
      → at w.sums j ≡ sum 366 (λ i. cond (eqb (made w₀ cs (i + 1)) standing) (term_at (P N) (heard w₀ cs (i + 1)) j) (pos 0))
  sums_are j l =
      let s = history in
      let m : j < P (run w₀ cs).campaign.order = omega (arith, ap P s.order) in
      s.holds.total j m
      ∙ sum_ext _ (λ k h. by_slot k h m)
      ∙ slots_as_days (run w₀ cs).campaign s.holds.filed (λ d. term_at (P N) (heard w₀ cs d) j)
      ∙ sum_ext 366 (λ i h. ap (λ q. cond (eqb q standing) (term_at (P N) (heard w₀ cs (i + 1)) j) (pos 0)) (s.days (i + 1) (day i h)))
    where
      by_slot : (k : ℕ) → k < (run w₀ cs).campaign.capacity → j < P (run w₀ cs).campaign.order
          → cond (free (run w₀ cs).campaign k) (pos 0) (at (run w₀ cs).store (k * P (run w₀ cs).campaign.order + j))
          ≡ cond (free (run w₀ cs).campaign k) (pos 0) (term_at (P N) (heard w₀ cs (slot (run w₀ cs).campaign k)) j)
      by_slot k h m = elim (ℕ_discrete (slot (run w₀ cs).campaign k) 0) [
        | yes e ↦ rw (eq-eqb (slot (run w₀ cs).campaign k) 0 e)
        | no e ↦ ap (λ z. cond (free (run w₀ cs).campaign k) (pos 0) z)
            (history.slot_hears k h e j m ∙ ap (λ n. term_at (P n) (heard w₀ cs (slot (run w₀ cs).campaign k)) j) history.order)
      ]

  -- and the record's periods are theirs
  pub periods_are : periods_standing w.campaign ≡ total 366 (λ i. cond (eqb (made w₀ cs (i + 1)) standing) (heard w₀ cs (i + 1)).periods 0)
  periods_are =
      ap nat_abs
      (pos-total (run w₀ cs).campaign.capacity (periods (run w₀ cs).campaign)
      ∙ sum_ext _ by_slot
      ∙ slots_as_days (run w₀ cs).campaign history.holds.filed (λ d. pos (heard w₀ cs d).periods)
      ∙ sum_ext 366 (λ i h. ap (λ q. cond (eqb q standing) (pos (heard w₀ cs (i + 1)).periods) (pos 0)) (history.days (i + 1) (day i h))
      ∙ sym (pos_cond (eqb (made w₀ cs (i + 1)) standing) (heard w₀ cs (i + 1)).periods))
      ∙ sym (pos-total 366 (λ i. cond (eqb (made w₀ cs (i + 1)) standing) (heard w₀ cs (i + 1)).periods 0)))
    where
      pos_cond : (b : Bool) (n : ℕ) → pos (cond b n 0) ≡ cond b (pos n) (pos 0)
      pos_cond true n = refl
      pos_cond false n = refl

      by_slot : (k : ℕ) → k < (run w₀ cs).campaign.capacity
          → pos (periods (run w₀ cs).campaign k) ≡ cond (free (run w₀ cs).campaign k) (pos 0) (pos (heard w₀ cs (slot (run w₀ cs).campaign k)).periods)
      by_slot k h = elim (ℕ_discrete (slot (run w₀ cs).campaign k) 0) [
        | yes e ↦ rw (eq-eqb (slot (run w₀ cs).campaign k) 0 e) (ap pos (history.holds.filed.uncounted k (omega (arith, history.holds.filed.most)) e))
        | no e ↦ rw (ne_eqb (slot (run w₀ cs).campaign k) 0 e) (ap pos (history.slot_counts k h e))
      ]

  -- what stands is not nothing
  pub some_day : (d : ℕ) → Day d → made w₀ cs d ≡ standing → days_in w.campaign standing ≡ 0 → ⊥
  some_day d y e z =
      let x : d - 1 + 1 ≡ d = omega (arith, y.first) in
      let v : state w.campaign (d - 1 + 1) ≡ standing = ap (state w.campaign) x ∙ each_day d y ∙ e in
      omega (
        arith,
        many-some 366 (λ i. stands w.campaign (i + 1)) (d - 1) (omega (arith, y.first, y.last)) (eq-eqb (state w.campaign (d - 1 + 1)) standing v),
      )

  -- the response from the sums is the total of the responses of the days standing
  pub by_days : (k : ℕ) → formula.response (P N) (wave N taps) (at w.sums) k
      ≡ sum 366 (λ i. cond (eqb (made w₀ cs (i + 1)) standing) (formula.response (P N) (wave N taps) (term_at (P N) (heard w₀ cs (i + 1))) k) (pos 0))
  by_days k =
      response_ext (P N) (wave N taps) sums_are k
      ∙ response-sum (P N) (wave N taps) 366 (λ i j. cond (eqb (made w₀ cs (i + 1)) standing) (term_at (P N) (heard w₀ cs (i + 1)) j) (pos 0)) k
      ∙ sum_ext 366 (λ i _. go i (eqb (made w₀ cs (i + 1)) standing))
    where
      go : (i : ℕ) (b : Bool) → formula.response (P N) (wave N taps) (λ j. cond b (term_at (P N) (heard w₀ cs (i + 1)) j) (pos 0)) k
          ≡ cond b (formula.response (P N) (wave N taps) (term_at (P N) (heard w₀ cs (i + 1))) k) (pos 0)
      go i true = refl
      go i false = response-zero (P N) (wave N taps) k

  -- ---- 4. If at least one day stands and each period of each such recording is the circular convolution of its own whole-number response with
  -- the sequence, the response answers 0 and r at every place is exactly (P+1) times the sum of those responses.

  module _ (h : ℕ → ℕ → ℕ → ℤ)
      (convolved : (d : ℕ) → Day d → made w₀ cs d ≡ standing → (p : ℕ) → p < (heard w₀ cs d).periods → (j : ℕ) → j < P N
      → at (heard w₀ cs d).samples (p * P N + j) ≡ prediction (P N) (wave N taps) (h d p) j) where
    -- the sum of a day's responses, and of those of the days standing
    abbrev of_day : ℕ → ℕ → ℤ
    of_day d k = sum (heard w₀ cs d).periods (λ p. h d p k)

    unfoldable pub responses : ℕ → ℤ
    responses k = sum 366 (λ i. cond (eqb (made w₀ cs (i + 1)) standing) (sum (heard w₀ cs (i + 1)).periods (λ p. h (i + 1) p k)) (pos 0))

    one_day : (i k : ℕ) → i < 366 → k < P N
        → cond (eqb (made w₀ cs (i + 1)) standing) (formula.response (P N) (wave N taps) (term_at (P N) (heard w₀ cs (i + 1))) k) (pos 0)
        ≡ pos (suc (P N)) *ℤ cond (eqb (made w₀ cs (i + 1)) standing) (of_day (i + 1) k) (pos 0)
    one_day i k l m = elim (ℕ_discrete (made w₀ cs (i + 1)) standing) [
      | yes e ↦ rw (eq-eqb (made w₀ cs (i + 1)) standing e) (by_periods e)
      | no e ↦ rw (ne_eqb (made w₀ cs (i + 1)) standing e) (sym (*ℤ-zero (pos (suc (P N)))))
    ]
      where
        by_periods : made w₀ cs (i + 1) ≡ standing → formula.response (P N) (wave N taps) (term_at (P N) (heard w₀ cs (i + 1))) k ≡ pos (suc (P N)) *ℤ of_day (i + 1) k
        by_periods e =
            response-sum (P N) (wave N taps) (heard w₀ cs (i + 1)).periods (λ p j. at (heard w₀ cs (i + 1)).samples (p * P N + j)) k
            ∙ sum_ext (heard w₀ cs (i + 1)).periods (λ p o.
            response_ext (P N) (wave N taps) (convolved (i + 1) (day i l) e p o) k ∙ predicted N taps (generator maximal) (h (i + 1) p) k m)
            ∙ sum_scale (heard w₀ cs (i + 1)).periods (pos (suc (P N))) (λ p. h (i + 1) p k)

    from_sums : (k : ℕ) → k < P N → formula.response (P N) (wave N taps) (at w.sums) k ≡ pos (suc (P N)) *ℤ responses k
    unfolding responses
    from_sums k m =
        by_days k ∙ sum_ext 366 (λ i l. one_day i k l m)
        ∙ sum_scale 366 (pos (suc (P N))) (λ i. cond (eqb (made w₀ cs (i + 1)) standing) (of_day (i + 1) k) (pos 0))

    pub recovered : (d : ℕ) → Day d → made w₀ cs d ≡ standing → (r mean room : List ℤ) (tags : List ℕ) → RoomFor N r mean room tags
        → let o = response_outcome w.campaign w.store w.sums r mean room tags in
        (o.0 ≡ 0) × ((k : ℕ) → k < P N → at o.1 k ≡ pos (suc (P N)) *ℤ responses k)
    recovered d y e r mean room tags long =
        let s = history in
        let a = answers (run w₀ cs).campaign (run w₀ cs).store (run w₀ cs).sums r mean room tags holds (subst (λ n. RoomFor n r mean room tags) (sym s.order) long) (some_day d y e) in (
          ap (λ o. o.0) a,
          λ k m. ap (λ o. at o.1 k) a
              ∙ at-put (P (run w₀ cs).campaign.order) (worked (run w₀ cs).campaign (run w₀ cs).sums) r k (pos 0) (omega (arith, ap P s.order))
              ∙ ap₂ (λ n t. formula.response (P n) (wave n t) (at (run w₀ cs).sums) k) s.order s.taps
              ∙ from_sums k m,
        )
