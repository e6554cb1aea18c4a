-- `register::taps::prime` meets its contract: no number passed divides q. Assumes nothing.
use mathlib.Core.Path.{sym}
use Prim.Native.Nat.{◌*◌, ◌≤◌, ◌<◌}
use native.Mathlib.Nat.{mul-le-mul}
use native.Mathlib.Omega.{arith}
use Rattle.register.proofs.Factors.{root_below, not_prime, by_root}
use Rattle.register.proofs.taps.prime.Goals as goal
use Rattle.register.proofs.taps.prime.Goals.{Else-q-e-eq0}

-- a number that is tried has a square of at most q
below : (c : Else-q-e-eq0) → c.loop-e.e < 256
below c =
    let q = c.args.q in
    let e = c.loop-e.e in
    let s : e * e ≤ q = omega arith in
    root_below s (omega arith)

pub returns-then-q-e-eq0 : goal.returns-then-q-e-eq0
returns-then-q-e-eq0 c =
    let q = c.args.q in
    let e = c.loop-e.e in
    let same : e ≤ e = omega arith in
    sym (not_prime q (record { it = e; two = c.loop-e.invariant.0; below = omega (arith, mul-le-mul c.loop-e.invariant.0 same); divides = c.if-q-e-eq0.true }))

pub returns : goal.returns
returns c =
    let q = c.args.q in
    sym (by_root q c.loop-e.e (omega arith) (omega arith) c.loop-e.invariant.2)
