-- `campaign::starting::start` meets its contract. Assumes nothing.
use mathlib.Core.Path.{◌≡◌, refl, sym, ap, ◌∙◌}
use mathlib.Core.List.{List}
use Prim.Native.Nat.{ℕ, ◌*◌}
use lib.IntN.{ℤ}
use lib.ListN.{drop}
use Rattle.sums.specs.Refusals.{first}
use Rattle.sums.proofs.First.{refused_with, accepted_with}
use Rattle.std.specs.Prelude.{Ok, Err}
use Rattle.refusals.specs.Causes.{said}
use Rattle.refusals.specs.declared.Answer.{Answer}
use Rattle.refusals.specs.declared.Refusal.{Refusal}
use Rattle.refusals.proofs.Causes.{never_0}
use Rattle.register.specs.Calls.{answer_of}
use Rattle.register.proofs.HowShort.{passed_taps, period-told}
use Rattle.register.proofs.Judged.{accepted_exactly, maximal_period}
use Rattle.samples.specs.Samples.{cleared_wide}
use Rattle.records.specs.Record.{fresh}
use Rattle.campaign.specs.Calls.{start_checks, start_outcome}
use Rattle.records.specs.declared.Campaign.{Campaign}
use Rattle.campaign.specs.Calls.{Started}
use Rattle.campaign.proofs.starting.start.Goals as goal

module _ (c : Campaign) (N taps C E : ℕ) (store sums : List ℤ) where
  -- the checks' first refusal
  abbrev asked : ℕ
  asked = first (start_checks N taps C E store sums)

  refused : (d : Refusal) → said (Err d) ≡ answer_of N taps asked
      → ◌≡◌ {A = Started × List ℤ × List ℤ} (record { answer = said (Err d); campaign = c }, store, sums) (start_outcome c N taps C E store sums)
  unfolding start_outcome
  refused d w =
      rw w (sym (refused_with _ _ (start_checks N taps C E store sums) asked refl (λ z. never_0 d (ap (λ (a : Answer). a.number) w ∙ z))))

  accepted : (p : ℕ) → said (Ok p) ≡ answer_of N taps asked → {r : Campaign} {s u : List ℤ}
      → r ≡ fresh N taps C E → s ≡ cleared_wide (C * p) store → u ≡ cleared_wide p sums
      → ◌≡◌ {A = Started × List ℤ × List ℤ} (record { answer = said (Ok p); campaign = r }, s, u) (start_outcome c N taps C E store sums)
  unfolding start_outcome
  accepted p w q s t =
      let z : asked ≡ 0 = sym (ap (λ (a : Answer). a.number) w) in
      let a = (accepted_exactly N taps).0 (passed_taps N taps (drop 4 (start_checks N taps C E store sums)) z) in
      let full = period-told N taps w ∙ (maximal_period N taps a.shaped.tapped).1 a.maximal in
      rw (w ∙ ap (answer_of N taps) z, q, s ∙ ap (λ n. cleared_wide (C * n) store) full, t ∙ ap (λ n. cleared_wide n sums) full)
      (sym (accepted_with _ _ (start_checks N taps C E store sums) asked refl z))

pub returns-in-Err : goal.returns-in-Err
returns-in-Err c =
    let a = c.args in
    rw c.refused.ensures (refused a.c a.order a.taps a.capacity a.edition a.store.now a.sums.now c.in-Err.refusal c.in-Err.ensures)

pub returns : goal.returns
returns c =
    let a = c.args in
    accepted a.c a.order a.taps a.capacity a.edition a.store.now a.sums.now c.in-Ok.period c.in-Ok.ensures c.blank.ensures c.fill_front.ensures c.fill_front-2.ensures
