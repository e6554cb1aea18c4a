-- `records::stored::store_holds` meets its contract: the places before `from` hold together. Assumes nothing.
use mathlib.Core.Path.{◌≡◌, refl, sym, ◌∙◌}
use mathlib.Core.Bool.{true≢false}
use Prim.Native.Nat.{◌+◌}
use native.Mathlib.Omega.{arith}
use Rattle.records.specs.Blocks.{Block}
use Rattle.records.proofs.Reading.{next_block, a_block}
use Rattle.records.proofs.stored.store_holds.Goals as goal
use Rattle.records.proofs.stored.store_holds.Goals.{Else-not-block_holds}

-- with the block that was read, the places up to its end do
further : (c : Else-not-block_holds) → let r = c.args.c.now in
    Block r.slots r.periods r.capacity c.args.period c.args.store.now c.args.sums.now 0 (c.loop-from.from + c.min-count.result)
further c = next_block c.loop-from.invariant.1 (c.block_holds.ensures.0 c.if-not-block_holds.false)

pub loop-from-preserved : goal.loop-from-preserved
loop-from-preserved c =
    let e : c.loop-from.from + c.min-count.result ≡ c.loop-from.from + 1024 = omega arith in
    (omega arith, rw e at (further (goal.at.loop-from-preserved c).Else-not-block_holds))

pub returns-then-not-block_holds : goal.returns-then-not-block_holds
returns-then-not-block_holds c = (
  λ e. absurd (true≢false (sym e)),
  λ b. absurd (true≢false (sym (c.block_holds.ensures.1 (a_block b (omega arith))) ∙ c.if-not-block_holds.true)),
)

pub returns-else-not-block_holds : goal.returns-else-not-block_holds
returns-else-not-block_holds c =
    let e : c.loop-from.from + c.min-count.result ≡ c.args.period = omega arith in
    (λ t. rw e at (further (goal.at.returns-else-not-block_holds c).Else-not-block_holds), λ b. refl)
