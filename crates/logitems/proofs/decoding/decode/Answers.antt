-- `logitems::decoding::decode` meets its contract: each return rewrites with the tests that led there. Assumes nothing.
use mathlib.Core.Path.{◌≡◌, sym, ap, ap₂, ◌∙◌}
use Prim.Native.Nat.{◌+◌}
use native.Mathlib.Omega.{arith}
use borrow.Author.Tests.{eq-eqb}
use lib.ListN.{length}
use Rattle.logitems.specs.Kinds.{byte_of}
use Rattle.logitems.specs.Phases.{may_stand}
use Rattle.logitems.specs.Log.{byte_at, decoded}
use Rattle.logitems.specs.declared.Found.TheVariants as found
use Rattle.logitems.proofs.Standing.{unknown_barred, barred, short, whole}
use Rattle.logitems.proofs.decoding.decode.Goals as goal
use Rattle.logitems.proofs.decoding.decode.Goals.{In-Ok}

-- the byte of the kind is the first
first : (c : In-Ok) → byte_of c.in-Ok.kind ≡ byte_at c.args.bytes.now 0
first c = c.in-Ok.ensures ∙ c.in-Some.ensures.item.3.1 0

some : (c : In-Ok) → length c.args.bytes.now ≡ 0 → ⊥
some c e = let h = c.in-Some.ensures.item.3.0 in omega arith

pub returns-in_default : goal.returns-in_default
unfolding decoded
returns-in_default c =
    let h = c.in_default.ensures.item.3 in
    let e : length c.args.bytes.now ≡ 0 = omega arith in
    simp (eq-eqb _ 0 e) c.at_end.ensures

pub returns-in_default-try_from : goal.returns-in_default-try_from
returns-in_default-try_from c =
    let a = c.args in
    let h = c.in-Some.ensures.item.3 in
    barred a.phase a.period a.bytes.now a.ended (λ e. omega arith)
    (ap (may_stand a.phase a.period) (sym (h.1 0)) ∙ unknown_barred a.phase a.period _ c.in_default-try_from.ensures.1)

pub returns-then-not-may_stand : goal.returns-then-not-may_stand
returns-then-not-may_stand c =
    let a = c.args in
    let k = (goal.at.returns-then-not-may_stand c).In-Ok in
    barred a.phase a.period a.bytes.now a.ended (some k) (rw (first k) at (sym c.may_stand.ensures ∙ c.if-not-may_stand.true))

pub returns-then-bytes-body : goal.returns-then-bytes-body
returns-then-bytes-body c =
    let a = c.args in
    let k = (goal.at.returns-then-bytes-body c).In-Ok in
    c.cut.ensures
    ∙ short a.phase a.period a.bytes.now a.ended (some k) (rw (first k) at (sym c.may_stand.ensures ∙ c.if-not-may_stand.false))
    (rw (c.body_length-body.ensures, first k) at c.if-bytes-body.true)

pub returns : goal.returns
returns c =
    let a = c.args in
    let k = (goal.at.returns c).In-Ok in
    ap₂ (λ i n. found.Whole i (n + 1)) (rw (first k) at c.item_at.ensures) (rw (first k) at c.body_length-body.ensures)
    ∙ whole a.phase a.period a.bytes.now a.ended (some k) (rw (first k) at (sym c.may_stand.ensures ∙ c.if-not-may_stand.false))
    (rw (c.body_length-body.ensures, first k) at c.if-bytes-body.false)
