-- `judging::judging::judge` meets its contract: the taps decide 1 to 4, and what is heard of the night the rest. Assumes nothing.
use mathlib.Core.Path.{◌≡◌, refl, sym, ap, ◌∙◌}
use mathlib.Core.List.{List}
use Prim.Native.Nat.{ℕ, zero, suc}
use lib.IntN.{ℤ}
use Rattle.std.specs.Prelude.{Result, Ok, Err}
use Rattle.sums.specs.Refusals.{first, answered}
use Rattle.sums.proofs.First.{not_first, refused_early, passed_early}
use Rattle.refusals.specs.Causes.{number, steps}
use Rattle.refusals.specs.declared.Refusal.{Refusal}
use Rattle.refusals.proofs.Causes.{never_0}
use Rattle.register.specs.Register.{period}
use Rattle.register.specs.Calls.{told, taps_checks, taps_answer}
use Rattle.register.proofs.HowShort.{period-told}
use Rattle.register.proofs.Answered.{took, refused_by, silent}
use Rattle.finding.specs.declared.Finding.{Finding}
use Rattle.nights.specs.declared.Night.{Night}
use Rattle.judging.specs.Judging.{night_checks, found_in, heard_as, judged_of, judge_outcome}
use Rattle.judging.specs.declared.Judged.{Judged}
use Rattle.judging.specs.declared.Judged.TheVariants as judged
use Rattle.judging.specs.declared.Judgement.{Judgement}
use Rattle.judging.proofs.Heard.{refused_heard}
use Rattle.judging.proofs.judging.judge.Goals as goal

abbrev of : Judged → ℕ → Judgement
of v p = record { verdict = v; period = p }

module _ (N taps : ℕ) (night : Night) (y : List ℤ) where
  -- the judgement of what is heard
  abbrev by-hearing : Result Finding ℕ → Judgement
  by-hearing (Err n) = of (judged.Refused n) (told N taps n 0)
  by-hearing (Ok f) = of (judged_of f) (told N taps 0 0)

  refused : (d : Refusal) → number d ≡ taps_answer N taps → steps d ≡ told N taps (number d) 0
      → of (judged.Refused (number d)) (steps d) ≡ judge_outcome N taps night y
  unfolding judge_outcome taps_answer
  refused d e q = ap (of (judged.Refused (number d))) q ∙ sym (refused_early _ _ (taps_checks N taps) (night_checks N night y) (number d) e (never_0 d))

  module _ (z : taps_answer N taps ≡ 0) where
    passed : by-hearing (heard_as N night y) ≡ judge_outcome N taps night y
    unfolding judge_outcome taps_answer
    passed = go (first (night_checks N night y)) ∙ sym (passed_early _ _ (taps_checks N taps) (night_checks N night y) 0 tt (sym z) refl)
      where
        go : (k : ℕ) → by-hearing (answered k Err (Ok (found_in N night y))) ≡ answered k (λ k. of (judged.Refused k) (told N taps k 0)) (of (judged_of (found_in N night y)) (told N taps 0 0))
        go zero = refl
        go (suc k) = refl

    heard_refused : (d : Refusal) → Err (number d) ≡ heard_as N night y → of (judged.Refused (number d)) (steps d) ≡ judge_outcome N taps night y
    heard_refused d e =
        let n = (refused_heard N night y (number d) (sym e)).0 in
        ap (of (judged.Refused (number d))) (silent N taps d (λ f. not_first 4 (night_checks N night y) tt (n ∙ f))) ∙ ap by-hearing e ∙ passed

    heard_found : (f : Finding) (p : ℕ) → Ok f ≡ heard_as N night y → p ≡ period N taps → of (judged_of f) p ≡ judge_outcome N taps night y
    heard_found f p e q = ap (of (judged_of f)) q ∙ ap by-hearing e ∙ passed

pub returns-in-Err : goal.returns-in-Err
returns-in-Err c =
    let a = c.args in
    let d = c.in-Err.refusal in
    c.refused.ensures ∙ refused a.order a.taps a.night a.y.now d (refused_by a.order a.taps d c.in-Err.ensures) (period-told a.order a.taps c.in-Err.ensures)

pub hear-requires : goal.hear-requires
hear-requires c = (took c.args.order c.args.taps c.in-Ok.ensures).accepted.shaped.most

pub returns-in-Err-hear : goal.returns-in-Err-hear
returns-in-Err-hear c =
    let a = c.args in
    c.refused-in-Err-hear.ensures
    ∙ heard_refused a.order a.taps a.night a.y.now (took a.order a.taps c.in-Ok.ensures).passed c.in-Err-hear.refusal c.in-Err-hear.ensures

pub returns-in-Ok-hear : goal.returns-in-Ok-hear
returns-in-Ok-hear c =
    let a = c.args in
    let t = took a.order a.taps c.in-Ok.ensures in
    ap (λ v. of v c.in-Ok.period) c.judged_of.ensures
    ∙ heard_found a.order a.taps a.night a.y.now t.passed c.in-Ok-hear.found c.in-Ok.period c.in-Ok-hear.ensures t.whole
