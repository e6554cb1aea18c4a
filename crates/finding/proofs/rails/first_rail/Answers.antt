-- `finding::rails::first_rail` meets its contract: the first place at a rail lies ahead. Assumes nothing.
use mathlib.Core.Path.{◌≡◌, sym, ap, ◌∙◌}
use mathlib.Core.Bool.{cond}
use mathlib.Core.List.{List}
use Prim.Native.Nat.{ℕ, ◌<◌}
use native.Mathlib.Omega.{arith}
use borrow.Author.Tests.{lt-ltb, le-ltb}
use lib.IntN.{ℤ}
use lib.ListN.{length}
use mir.Syntax.{w32}
use Rattle.std.proofs.Common.{Some, None}
use Rattle.sums.specs.Lists.{at}
use Rattle.sums.proofs.Bound.{read}
use Rattle.samples.specs.Samples.{rail}
use Rattle.finding.specs.Finding.{rail_place, rail_of}
use Rattle.sums.proofs.Seek.{ahead_more, ahead_here, ahead_end}
use Rattle.finding.proofs.rails.first_rail.Invariants.{test}
use Rattle.finding.proofs.rails.first_rail.Goals as goal
use Rattle.finding.proofs.rails.first_rail.Goals.{After-at_rail}

-- a first place within the recording, and none
found : (y : List ℤ) (j : ℕ) → j < length y → j ≡ rail_place y → Some j ≡ rail_of y
found y j l e = ap Some e ∙ sym (ap (λ b. cond b (Some (rail_place y)) None) (lt-ltb (rail_place y) (length y) (omega arith)))

none : (y : List ℤ) → length y ≡ rail_place y → None ≡ rail_of y
none y e = sym (ap (λ b. cond b (Some (rail_place y)) None) (le-ltb (rail_place y) (length y) (omega arith)))

said : (c : After-at_rail) → c.at_rail.result ≡ test c.args.y.now c.loop-j.j
said c = c.at_rail.ensures ∙ ap rail (read w32 (at c.args.y.now c.loop-j.j) (omega arith))

pub loop-j-preserved : goal.loop-j-preserved
loop-j-preserved c =
    ahead_more (test c.args.y.now) (omega arith) c.loop-j.invariant (sym (said (goal.at.loop-j-preserved c).After-at_rail) ∙ c.if-at_rail.false)

pub returns-then-at_rail : goal.returns-then-at_rail
returns-then-at_rail c =
    found c.args.y.now c.loop-j.j (omega arith) (ahead_here (test c.args.y.now) (omega arith) c.loop-j.invariant (sym (said (goal.at.returns-then-at_rail c).After-at_rail) ∙ c.if-at_rail.true))

pub returns : goal.returns
returns c =
    let e : c.loop-j.j ≡ length c.args.y.now = omega arith in
    none c.args.y.now (sym e ∙ ahead_end (test c.args.y.now) (omega arith) c.loop-j.invariant)
