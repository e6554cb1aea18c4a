-- `rounding::means::mean_by_product` meets its contract: a sample's size is 2^23 at most. Assumes nothing.
use mathlib.Core.Path.{◌≡◌, ap, ◌∙◌}
use Prim.Native.Nat.{◌^◌, ◌≤◌}
use native.Mathlib.Omega.{arith}
use lib.IntN.{nat_abs}
use mir.Syntax.{w64}
use mir.ValLaws.{to_z-of_z}
use Rattle.rounding.specs.Rounding.{nearest_in, rounded}
use Rattle.samples.proofs.Sizes.{sample_size}
use Rattle.rounding.proofs.Halves.{close}
use Rattle.rounding.proofs.Reciprocal.{split_some}
use Rattle.rounding.proofs.Signs.{rounded_size}
use Rattle.rounding.proofs.means.mean_by_product.Goals as goal

pub near_by-requires : goal.near_by-requires
near_by-requires c =
    let a = c.args in
    let sized : c.unsigned_abs.result ≡ nat_abs a.r = c.unsigned_abs.ensures.value ∙ ap nat_abs (to_z-of_z w64 a.r c.ranges.r) in
    let small : nearest_in a.edition (nat_abs a.r) a.d ≤ 2 ^ 23 =
    omega (arith, sample_size (rounded a.edition a.r a.d) c.requires.1, rounded_size a.edition a.r a.d) in
    (c.requires.0, rw sized (omega (arith, small, close a.edition a.r a.d (split_some 362 a.d a.shift a.m c.requires.0))))
