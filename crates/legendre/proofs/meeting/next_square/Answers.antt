-- `legendre::meeting::next_square` meets its contract: what comes to p or more has gone round once. Assumes nothing.
use mathlib.Core.Path.{◌≡◌, sym, ap, ◌∙◌}
use Prim.Native.Nat.{ℕ, ◌+◌, ◌-◌, ◌*◌, ◌%◌, ◌<◌}
use native.Mathlib.Nat.{mod-lt, mod-eq_of_lt, add-mod_right}
use native.Mathlib.Omega.{arith}
use Rattle.legendre.proofs.Squares.{next-square}
use Rattle.legendre.proofs.meeting.next_square.Goals as goal
use Rattle.legendre.proofs.meeting.next_square.Goals.{Start}

-- the square lies in the period
below : (c : Start) → c.args.square < c.args.p
below c = let a = c.args in omega (arith, c.requires.2, mod-lt (a.i * a.i) {m = a.p} (omega (arith, c.requires.1)))

pub returns-then-next-p : goal.returns-then-next-p
returns-then-next-p c =
    let a = c.args in
    sym (mod-eq_of_lt c.if-next-p.true) ∙ next-square a.p a.i a.square c.requires.2

pub returns-else-next-p : goal.returns-else-next-p
returns-else-next-p c =
    let a = c.args in
    let n = a.square + 2 * a.i + 1 in
    let e : n ≡ n - a.p + a.p = omega (arith, c.if-next-p.false) in
    sym (ap (λ (m : ℕ). m % a.p) e ∙ add-mod_right (n - a.p) a.p ∙ mod-eq_of_lt (omega (arith, below (goal.at.returns-else-next-p c).Start, c.requires.1, c.if-next-p.false)))
    ∙ next-square a.p a.i a.square c.requires.2
