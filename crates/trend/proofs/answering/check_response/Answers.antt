-- `trend::answering::check_response` meets its contract: each return rewrites with the tests that led there. Assumes nothing.
use mathlib.Core.Path.{◌≡◌, sym, ◌∙◌}
use mathlib.Core.Bool.{true}
use Prim.Native.Nat.{◌≤◌}
use native.Mathlib.Omega.{arith}
use Rattle.register.proofs.Word.{small}
use Rattle.records.specs.Record.{together}
use Rattle.records.proofs.Holding.{holds-together}
use Rattle.trend.proofs.answering.check_response.Goals as goal
use Rattle.trend.proofs.answering.check_response.Goals.{Else-not-holds}

-- past the first test
whole : (c : Else-not-holds) → let a = c.args in together a.c.now a.store.now a.sums.now ≡ true
whole c = sym c.holds.ensures ∙ c.if-not-holds.false

order-most : (c : Else-not-holds) → c.args.c.now.order ≤ 16
order-most c = ((holds-together _ _ _).0 (whole c)).filed.accepted.shaped.most

pub full_period-requires : goal.full_period-requires
full_period-requires c = order-most c

pub answer_short-requires : goal.answer_short-requires
answer_short-requires c = omega (arith, c.full_period.ensures, small (order-most (goal.at.answer_short-requires c).Else-not-holds))
