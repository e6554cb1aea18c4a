-- `meter::judgements::judge_night` meets its contract. Assumes nothing.
use mathlib.Core.Path.{◌≡◌, refl, sym, ap, ◌∙◌}
use mathlib.Core.List.{List}
use Prim.Native.Nat.{ℕ}
use lib.IntN.{ℤ}
use Rattle.sums.specs.Refusals.{meant}
use Rattle.register.specs.Calls.{told}
use Rattle.nights.specs.declared.Night.{Night}
use Rattle.judging.specs.Judging.{judge_outcome, judged_number}
use Rattle.judging.specs.declared.Judgement.{Judgement}
use Rattle.judging.proofs.Judgements.{judge_told}
use Rattle.meter.specs.Doors.{judged_means, judged_out, judge_door}
use Rattle.meter.proofs.Showing.{means_number}
use Rattle.meter.proofs.Telling.{handed_on}
use Rattle.meter.proofs.judgements.judge_night.Goals as goal

abbrev renumbered : ℕ → ℕ × ℕ × ℕ → ℕ × ℕ × ℕ
renumbered n o = (n, o.1, o.2)

module _ (N taps : ℕ) (night : Night) (y : List ℤ) (state value : ℕ) {j : Judgement} (e : j ≡ judge_outcome N taps night y) {n q v : ℕ}
    (w : (n, (q, v)) ≡ meant (state, value) (judged_means j.verdict)) where
  -- what is written is the door's outcome, with the period that goes with its number
  written : ((n, q, v) ≡ judge_door N taps night y state value) × (j.period ≡ told N taps n 0)
  written = (
    ap (λ (o : ℕ × (ℕ × ℕ)). (o.0, o.1.0, o.1.1)) w ∙ ap (λ (k : Judgement). judged_out state value k.verdict) e,
    ap (λ (k : Judgement). k.period) e ∙ judge_told N taps night y
        ∙ sym (ap (λ k. told N taps k 0) (ap (λ (o : ℕ × (ℕ × ℕ)). o.0) w ∙ means_number j.verdict ∙ ap (λ (k : Judgement). judged_number k.verdict) e)),
  )

pub returns : goal.returns
returns c =
    let a = c.args in
    handed_on a.order a.taps a.period.now renumbered refl
    (written a.order a.taps a.night a.y.now a.state.now a.value.now c.judge-judgement.ensures c.write_judged.ensures) (refl, c.write_period.ensures)
