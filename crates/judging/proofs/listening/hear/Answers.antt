-- `judging::listening::hear` meets its contract: where no sample is at a rail or beyond, none is out of the range and what follows the run_in is clear. Assumes nothing.
use mathlib.Core.Path.{◌≡◌, refl, sym, ap, ◌∙◌}
use mathlib.Core.Bool.{Bool, false, not}
use mathlib.Core.List.{List, [], ◌∷◌}
use Prim.Native.Nat.{ℕ, ◌-◌, ◌*◌, ◌≤◌}
use native.Mathlib.Nat.{add-mul}
use native.Mathlib.Omega.{arith}
use borrow.Author.Tests.{eq-eqb}
use borrow.Author.Rules.{part_to_end}
use lib.Dec.{eqb}
use lib.IntN.{ℤ}
use lib.ListN.{length, take, drop}
use Rattle.std.specs.Prelude.{Ok, Err}
use Rattle.sums.specs.Lists.{at}
use Rattle.sums.specs.Refusals.{outcome}
use Rattle.samples.specs.Samples.{some_out}
use Rattle.register.specs.Register.{P}
use Rattle.finding.specs.Finding.{rail_of, finding, some_loud}
use Rattle.finding.proofs.Loud.{clear, ranged, dropped}
use Rattle.nights.specs.Nights.{lead, periods_of, periods_out, night_length, settled}
use Rattle.nights.specs.declared.Night.{Night}
use Rattle.judging.specs.Judging.{heard_as}
use Rattle.judging.proofs.listening.hear.Goals as goal
use Rattle.judging.proofs.listening.hear.Goals.{After-night_length, After-run_in-from, Else-periods_out, Else-some_loud, Else-y-night_length}

-- what is heard, by what the three tests say
module _ (N : ℕ) (night : Night) (y : List ℤ) where
  by_tests : {a b c : Bool} → periods_out night ≡ a → eqb (length y) (night_length (P N) night) ≡ b → some_out (length y) (at y) ≡ c
      → outcome ((18, a) ∷ (5, not b) ∷ (7, c) ∷ []) Err (Ok (finding (settled (P N) night y))) ≡ heard_as N night y
  by_tests e f g = rw (e, f, g) refl

-- past the first test
few : (c : Else-periods_out) → periods_out c.args.night ≡ false
few c = sym c.periods_out.ensures ∙ c.if-periods_out.false

-- the length that it must have
wanted : (c : After-night_length) → let a = c.args in c.night_length.result ≡ night_length (P a.order) a.night
wanted c = c.night_length.ensures ∙ ap (λ n. night_length n c.args.night) c.full_period-period.ensures

-- past the second
long : (c : Else-y-night_length) → let a = c.args in length a.y.now ≡ night_length (P a.order) a.night
long c = c.if-y-night_length.false ∙ wanted c.before

-- the run_in lies in the recording, and what is lent is what follows it
run-in-is : (c : After-run_in-from) → let a = c.args in c.run_in-from.result ≡ lead a.night * P a.order
run-in-is c = c.run_in-from.ensures ∙ ap (λ n. lead c.args.night * n) c.full_period-period.ensures

inside : (c : After-run_in-from) → c.run_in-from.result ≤ length c.args.y.now
inside c =
    let a = c.args in
    rw (run-in-is c) (omega (arith, long c.before, add-mul (lead a.night) (periods_of a.night) (P a.order)))

settled_is : (c : After-run_in-from) → let a = c.args in let k = c.run_in-from.result in
    take (length a.y.now - k) (drop k a.y.now) ≡ settled (P a.order) a.night a.y.now
settled_is c =
    let y = c.args.y.now in
    part_to_end y c.run_in-from.result ∙ ap (λ k. drop k y) (run-in-is c)

-- what is heard where the first two tests pass
heard : (c : After-run_in-from) → let a = c.args in (b : Bool) → some_out (length a.y.now) (at a.y.now) ≡ b
    → outcome ((7, b) ∷ []) Err (Ok (finding (settled (P a.order) a.night a.y.now))) ≡ heard_as a.order a.night a.y.now
heard c b o =
    let a = c.args in
    by_tests a.order a.night a.y.now (few c.before.before.before.before) (eq-eqb _ _ (long c.before)) o

-- no sample is at a rail or beyond
quiet : (c : Else-some_loud) → some_loud c.args.y.now ≡ false
quiet c = sym c.some_loud.ensures ∙ c.if-some_loud.false

pub look_clear-requires : goal.look_clear-requires
look_clear-requires c =
    let y = c.args.y.now in
    ap rail_of (part_to_end y c.run_in-from.result) ∙ clear (drop c.run_in-from.result y) (dropped y (quiet (goal.at.look_clear-requires c).Else-some_loud) c.run_in-from.result (inside (goal.at.look_clear-requires c).After-run_in-from))

pub returns : goal.returns
returns c =
    ap Ok (c.look_clear.ensures ∙ ap finding (settled_is (goal.at.returns c).After-run_in-from)) ∙ heard (goal.at.returns c).After-run_in-from false (ranged c.args.y.now (quiet (goal.at.returns c).Else-some_loud))
