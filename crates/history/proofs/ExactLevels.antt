-- Document 01, "Summary", and document 02, request 1: where the periods standing are a power of two in number, a summary with room enough answers with levels, and each of the
-- three that a summary carries is exactly its r over (P+1)·n. Of any record that holds together, so of every one that a run hands back. Assumes
-- nothing.
use mathlib.Core.Path.{◌≡◌, ap, subst}
use mathlib.Core.Bool.{Bool, true, false, cond, not}
use mathlib.Core.List.{List}
use Prim.Native.Nat.{ℕ, ◌+◌, ◌^◌, ◌≤◌}
use native.Mathlib.Omega.{arith}
use borrow.Author.Tests.{eq-eqb, ne_eqb}
use lib.Dec.{eqb}
use lib.Ieee.{Float}
use lib.Ieee.Exact.{HasValue}
use lib.IntN.{ℤ, nat_abs}
use lib.ListN.{length}
use lib.Pow.{pow_pos}
use Rattle.sums.specs.Refusals.{answered}
use Rattle.sums.proofs.First.{accepts}
use Rattle.register.specs.Register.{P}
use Rattle.samples.specs.Samples.{work_short, cleared_wide, cleared_tags}
use Rattle.samples.proofs.Rooms.{work_enough}
use Rattle.records.specs.Record.{standing, days_in, periods_standing, together}
use Rattle.trend.specs.Calls.{worked, divisor, extremes_of, levels_of, summary_checks, summary_outcome}
use Rattle.records.specs.declared.Campaign.{Campaign}
use Rattle.trend.specs.declared.Levels.{Levels}
use Rattle.trend.specs.declared.Summary.{Summary}
use Rattle.trend.specs.declared.Summary.TheVariants.{Nothing, Measured, Refused}
use Rattle.history.specs.Run.{World, Call, run, under_way}
use Rattle.history.proofs.EveryRun.{holds}
use Rattle.records.proofs.Holding.{holds-together}
use Rattle.records.proofs.Totals.{periods_days}
use Rattle.trend.proofs.Leveling.{is_negative, levels_exact}

-- a double that is r over (P+1)·n: read from its bits as f·2^e it has r's sign, and f·(P+1)·n·2^e is |r|, the power of two put on r's side where e is
-- below 0
abbrev pub Reads : Campaign → ℤ → Float → Type 0
Reads c r x = HasValue x (is_negative r) (nat_abs r) (divisor c)

pub record Exact (c : Campaign) (sums : List ℤ) (l : Levels) : Type 0 where
  pub highest : Reads c (extremes_of (P c.order) (worked c sums)).highest l.highest
  pub lowest : Reads c (extremes_of (P c.order) (worked c sums)).lowest l.lowest
  pub peak : Reads c (extremes_of (P c.order) (worked c sums)).peak l.peak

-- the levels of a record, and what a summary hands back with them
abbrev pub levels : Campaign → List ℤ → Levels
levels c sums = levels_of (P c.order) (worked c sums) (divisor c)

abbrev measured : Campaign → List ℤ → List ℤ → List ℕ → Summary × List ℤ × List ℕ
measured c sums room tags = (Measured (levels c sums), cleared_wide (P c.order + 1) room, cleared_tags (P c.order) tags)

module _ (c : Campaign) (store sums room : List ℤ) (tags : List ℕ) (h : together c store sums ≡ true) where
  -- a summary carries no other levels than these
  pub carried : (l : Levels) → (summary_outcome c store sums room tags).0 ≡ Measured l → levels c sums ≡ l
  unfolding summary_outcome
  carried l = rw h (by_checks (work_short (P c.order) (length room) (length tags)) (eqb (days_in c standing) 0))
    where
      by_checks : (short none : Bool)
          → (answered (cond short 6 0) (λ n. (Refused n, room, tags)) (cond none (Nothing, room, tags) (measured c sums room tags))).0 ≡ Measured l
          → levels c sums ≡ l
      by_checks true none e = let z : ◌≡◌ {A = ℕ} 0 1 = cc in absurd (omega arith)
      by_checks false true e = let z : ◌≡◌ {A = ℕ} 0 1 = cc in absurd (omega arith)
      by_checks false false e = cc

  -- and it carries none where no day stands
  pub carries_some : (l : Levels) → (summary_outcome c store sums room tags).0 ≡ Measured l → days_in c standing ≡ 0 → ⊥
  unfolding summary_outcome
  carries_some l e z = by_checks (work_short (P c.order) (length room) (length tags)) (rw (h, eq-eqb (days_in c standing) 0 z) at e)
    where
      by_checks : (short : Bool) → (answered {A = Summary × List ℤ × List ℕ} (cond short 6 0) (λ n. (Refused n, room, tags)) (Nothing, room, tags)).0 ≡ Measured l → ⊥
      by_checks true e = let z : ◌≡◌ {A = ℕ} 0 1 = cc in omega arith
      by_checks false e = let z : ◌≡◌ {A = ℕ} 0 1 = cc in omega arith

  -- where a day stands, and the room is enough, it carries them
  pub measures : (days_in c standing ≡ 0 → ⊥) → P c.order + 1 ≤ length room → P c.order ≤ length tags
      → (summary_outcome c store sums room tags).0 ≡ Measured (levels c sums)
  unfolding summary_outcome
  measures some long wide =
      rw (
        accepts (summary_checks c store sums room tags) (ap not h, (work_enough (P c.order) (length room) (length tags) long wide, tt)),
        ne_eqb (days_in c standing) 0 some,
      )

  module _ (m : ℕ) (e : periods_standing c ≡ 2 ^ m) where
    pub levels_carried : (l : Levels) → (summary_outcome c store sums room tags).0 ≡ Measured l → Exact c sums l
    levels_carried l q =
        let level-at = levels_exact c store sums ((holds-together c store sums).0 h) m e in
        subst (Exact c sums) (carried l q) (record { highest = level-at _; lowest = level-at _; peak = level-at _ })

    pub carries_levels : P c.order + 1 ≤ length room → P c.order ≤ length tags → (summary_outcome c store sums room tags).0 ≡ Measured (levels c sums)
    carries_levels = measures (λ z. omega (arith, pow_pos m, periods_days c ((holds-together c store sums).0 h).filed))

-- so after any run in which a start was accepted
pub run_levels_carried : (w₀ : World) (cs : List Call) → under_way w₀ cs ≡ true → let w = run w₀ cs in (m : ℕ) → periods_standing w.campaign ≡ 2 ^ m
    → (room : List ℤ) (tags : List ℕ) (l : Levels) → (summary_outcome w.campaign w.store w.sums room tags).0 ≡ Measured l → Exact w.campaign w.sums l
run_levels_carried w₀ cs u m e room tags l =
    let w = run w₀ cs in
    levels_carried w.campaign w.store w.sums room tags (holds w₀ cs u) m e l
