-- `rounding::means::near_by` meets its contract, by the laws of `Reciprocal`; a product tells a half. Assumes nothing.
use mathlib.Core.Path.{◌≡◌, ap, ◌∙◌}
use Prim.Native.Nat.{◌+◌, ◌*◌, ◌/◌, ◌<◌, ◌^◌}
use native.Mathlib.Omega.{arith}
use lib.Dec.{eqb}
use Rattle.rounding.specs.Rounding.{nearest, settled, nearest_in}
use Rattle.rounding.proofs.Halves.{half-told}
use Rattle.rounding.proofs.Reciprocal.{split_some, sum_fits, near_exact}
use Rattle.rounding.proofs.means.near_by.Goals as goal
use Rattle.rounding.proofs.means.near_by.Goals.{Start}

by-half : (c : Start) → let a = c.args in let x = 2 * a.a + a.d in
    settled a.edition (eqb (x / (2 * a.d) * (2 * a.d)) x) (x / (2 * a.d)) ≡ nearest_in a.edition a.a a.d
unfolding nearest nearest_in
by-half c =
    let a = c.args in
    ap (λ h. settled a.edition h (nearest a.a a.d)) (half-told a.a a.d (split_some 362 a.d a.shift a.m c.requires.0))

fits : (c : Start) → 2 * c.args.a + c.args.d < 2 ^ 59
fits c = sum_fits c.args.a c.args.d c.args.shift c.args.m c.requires.0 c.requires.1

pub overflow_mul-a : goal.overflow_mul-a
overflow_mul-a c = omega (arith, fits c)

pub overflow_add-a : goal.overflow_add-a
overflow_add-a c = omega (arith, fits c)

pub quotient_by-requires : goal.quotient_by-requires
quotient_by-requires c = near_exact c.args.a c.args.d c.args.shift c.args.m c.requires.0 c.requires.1

pub returns : goal.returns
returns c = c.quotient_by.ensures ∙ by-half (goal.at.returns c).Start
