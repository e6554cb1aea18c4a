-- An accepted call leaves zeros in the working room that it used. Assumes nothing.
use mathlib.Core.Path.{◌≡◌, refl, sym, subst}
use mathlib.Core.Bool.{Bool, true, false, cond}
use mathlib.Core.List.{List}
use Prim.Native.Nat.{ℕ, zero, suc, ◌+◌}
use native.Mathlib.Omega.{arith}
use lib.Dec.{eqb}
use lib.IntN.{ℤ, pos}
use Rattle.sums.specs.Lists.{table, put}
use Rattle.sums.specs.Refusals.{first, answered}
use Rattle.sums.proofs.First.{accepted_is}
use Rattle.sums.proofs.Tables.{at-put}
use Rattle.register.specs.Register.{P}
use Rattle.response.specs.Calls.{recording_checks, recording_outcome}
use Rattle.samples.specs.Samples.{cleared_wide, cleared_tags}
use Rattle.records.specs.Record.{standing, days_in}
use Rattle.records.specs.declared.Campaign.{Campaign}
use Rattle.trend.specs.Calls.{response_checks, response_outcome, worked, divisor, levels_of, summary_checks, summary_outcome}
use Rattle.trend.specs.declared.Levels.{Levels}
use Rattle.trend.specs.declared.Summary.{Summary}
use Rattle.trend.specs.declared.Summary.TheVariants.{Nothing, Measured, Refused}
use Rattle.demands.specs.Buffers.{Cleared}

zeros : {A : Type 0} (none : A) (n : ℕ) (l : List A) → Cleared none n (put (table n (λ _. none)) l)
zeros none n l = record { within = λ i z h. at-put n (λ _. none) l i z h }

-- P+1 wide numbers and P tags
abbrev RoomCleared : ℕ → List ℤ → List ℕ → Type 0
RoomCleared N room tags = Cleared (pos 0) (P N + 1) room × Cleared 0 (P N) tags

both : (N : ℕ) (room : List ℤ) (tags : List ℕ) → RoomCleared N (cleared_wide (P N + 1) room) (cleared_tags (P N) tags)
both N room tags = (zeros (pos 0) (P N + 1) room, zeros 0 (P N) tags)

pub recording_clears : (N taps : ℕ) (y out room : List ℤ) (tags : List ℕ) → let o = recording_outcome N taps y out room tags in o.0 ≡ 0
    → RoomCleared N o.2 o.3
unfolding recording_outcome
recording_clears N taps y out room tags e =
    subst (λ (o : ℕ × List ℤ × List ℤ × List ℕ). RoomCleared N o.2 o.3)
    (sym (accepted_is (recording_checks N taps y out room tags) (λ (o : ℕ × List ℤ × List ℤ × List ℕ). o.0) _ _ (λ n. refl) e)) (both N room tags)

pub response_clears : (c : Campaign) (store sums r mean room : List ℤ) (tags : List ℕ) → let o = response_outcome c store sums r mean room tags in o.0 ≡ 0
    → RoomCleared c.order o.3 o.4
unfolding response_outcome
response_clears c store sums r mean room tags e =
    subst (λ (o : ℕ × List ℤ × List ℤ × List ℤ × List ℕ). RoomCleared c.order o.3 o.4)
    (sym (accepted_is (response_checks c store sums r mean room tags) (λ (o : ℕ × List ℤ × List ℤ × List ℤ × List ℕ). o.0) _ _ (λ n. refl) e))
    (both c.order room tags)

-- where a day stands, for then there are levels
pub summary_clears : (c : Campaign) (store sums room : List ℤ) (tags : List ℕ) (l : Levels) → let o = summary_outcome c store sums room tags in
    o.0 ≡ Measured l → RoomCleared c.order o.1 o.2
unfolding summary_outcome
summary_clears c store sums room tags l = by_answer (first (summary_checks c store sums room tags)) (eqb (days_in c standing) 0)
  where
    made : Summary × List ℤ × List ℕ
    made = (Measured (levels_of (P c.order) (worked c sums) (divisor c)), cleared_wide (P c.order + 1) room, cleared_tags (P c.order) tags)

    by_answer : (n : ℕ) (none : Bool) → let o = answered n (λ n. (Refused n, room, tags)) (cond none (Nothing, room, tags) made) in
        o.0 ≡ Measured l → RoomCleared c.order o.1 o.2
    by_answer (suc n) none e = let z : ◌≡◌ {A = ℕ} 0 1 = cc in absurd (omega arith)
    by_answer zero true e = let z : ◌≡◌ {A = ℕ} 0 1 = cc in absurd (omega arith)
    by_answer zero false e = both c.order room tags
