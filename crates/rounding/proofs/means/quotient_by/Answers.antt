-- `rounding::means::quotient_by` meets its contract, by the laws of `Reciprocal`. Assumes nothing.
use mathlib.Core.Path.{◌≡◌, ap, ◌∙◌}
use Prim.Native.Nat.{◌*◌, ◌/◌, ◌^◌}
use native.Mathlib.Nat.{div-mul-le_self}
use native.Mathlib.Omega.{arith}
use lib.Dec.{eqb}
use Rattle.rounding.specs.Rounding.{settled}
use Rattle.rounding.proofs.Reciprocal.{product_fits, by_product}
use Rattle.rounding.proofs.means.quotient_by.Goals as goal
use Rattle.rounding.proofs.means.quotient_by.Goals.{Start}

quotient : (c : Start) → let a = c.args in a.x / 2 ^ a.shift * a.m / 2 ^ 40 ≡ a.x / (2 * a.d)
quotient c = by_product c.requires.most c.args.x c.args.d c.args.shift c.args.m c.requires.split c.requires.short

pub overflow_mul-q : goal.overflow_mul-q
overflow_mul-q c =
    let a = c.args in
    record { fits = product_fits c.requires.most a.x a.d a.shift a.m c.requires.split c.requires.short c.requires.small }

pub overflow_mul-q-2 : goal.overflow_mul-q-2
overflow_mul-q-2 c = rw (quotient c) (record { fits = omega (arith, div-mul-le_self c.args.x (2 * c.args.d), c.ranges.x) })

pub returns : goal.returns
returns c =
    let a = c.args in
    c.settle.ensures ∙ ap (λ q. settled a.edition (eqb (q * (2 * a.d)) a.x) q) (quotient (goal.at.returns c).Start)
