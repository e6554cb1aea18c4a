-- `register::doubling::tag_at` meets its contract: the tag is that of the bits passed. Assumes nothing.
use mathlib.Core.Path.{◌≡◌, sym, ap, ◌∙◌}
use Prim.Native.Nat.{ℕ, ◌+◌, ◌-◌, ◌*◌, ◌/◌, ◌%◌, ◌^◌, ◌<◌}
use native.Mathlib.Nat.{div-eq_of_lt, div-div-eq-div-mul, pow-suc}
use native.Mathlib.Omega.{arith}
use Rattle.register.specs.Register.{tag as tag_of}
use Rattle.register.proofs.Divisors.{doubled, joined-lt}
use Rattle.register.proofs.Windows.{tag-lt}
use Rattle.register.proofs.doubling.tag_at.Goals as goal
use Rattle.register.proofs.doubling.tag_at.Goals.{In-loop-k}

-- the bits down to place k are those down to the next, twice, and one more
split : (m k : ℕ) → 0 < k → m / 2 ^ k + m / 2 ^ k + m / 2 ^ (k - 1) % 2 ≡ m / 2 ^ (k - 1)
split m k h =
    let s : 2 ^ (k - 1) * 2 ≡ 2 ^ k = sym (pow-suc 2 (k - 1)) ∙ ap (λ n. 2 ^ n) (omega arith) in
    let e : m / 2 ^ (k - 1) / 2 ≡ m / 2 ^ k = div-div-eq-div-mul m (2 ^ (k - 1)) 2 ∙ ap (λ x. m / x) s in
    omega arith

now-lt : (c : In-loop-k) → c.loop-k.tag < 2 ^ c.args.order
now-lt c = rw c.loop-k.invariant (tag-lt c.args.order c.args.taps c.requires.1 (c.args.m / 2 ^ c.loop-k.k))

pub loop-k-init : goal.loop-k-init
unfolding tag_of
loop-k-init c = let a = c.args in sym (ap (tag_of a.order a.taps) (div-eq_of_lt c.requires.2))

pub join-requires : goal.join-requires
join-requires c = (c.requires.0, c.requires.1, now-lt c)

pub step_by-tag-requires : goal.step_by-tag-requires
step_by-tag-requires c =
    (c.requires.0, c.requires.1.fits, rw c.join.ensures (joined-lt c.args.order c.args.taps c.requires.1 c.loop-k.tag c.loop-k.tag c.args.order (now-lt (goal.at.step_by-tag-requires c).In-loop-k)), omega arith)

pub loop-k-preserved : goal.loop-k-preserved
loop-k-preserved c =
    let l = c.loop-k in
    let a = c.args in
    doubled a.order a.taps c.requires.1 (a.m / 2 ^ l.k) (a.m / 2 ^ (l.k - 1) % 2) l.invariant c.join.ensures c.step_by-tag.ensures
    ∙ ap (tag_of a.order a.taps) (split a.m l.k (omega arith))
