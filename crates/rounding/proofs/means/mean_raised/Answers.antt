-- `rounding::means::mean_raised` meets its contract, by the laws of `Raised` and `Reciprocal`. Assumes nothing.
use mathlib.Core.Path.{◌≡◌, sym, ap, subst, ◌∙◌}
use mathlib.Core.Bool.{Bool, true, false}
use Prim.Native.Nat.{ℕ, ◌*◌, ◌/◌, ◌^◌, ◌≤◌, ◌<◌}
use native.Mathlib.Nat.{mul-le-mul_right}
use native.Mathlib.Omega.{arith}
use lib.Dec.{eqb}
use lib.IntN.{pos, nat_abs, ◌-ℤ◌}
use mir.Syntax.{w32, w64}
use mir.Val.{SFits, to_z, of_z}
use mir.ValLaws.{to_z-of_z}
use Rattle.sums.proofs.Bound.{nat_abs-sub, small_fits}
use Rattle.samples.proofs.Sizes.{sample_size, sample_fits}
use Rattle.rounding.specs.Rounding.{to_even, settled, nearest_in, rounded}
use Rattle.rounding.proofs.Signs.{as_signed, rounded_size}
use Rattle.rounding.proofs.Halves.{near_high}
use Rattle.rounding.proofs.Raised.{Raises, raises, raised_nonneg}
use Rattle.rounding.proofs.Reciprocal.{split_some, split_small}
use Rattle.rounding.proofs.means.mean_raised.Goals as goal
use Rattle.rounding.proofs.means.mean_raised.Goals.{After-quotient_by, After-raise-x, Start}

some : (c : Start) → 0 < c.args.d
some c = split_some 255 c.args.d c.args.shift c.args.m c.requires.0

few : (c : Start) → 2 * c.args.d ≤ 2 ^ 27 * 255
few c = split_small 255 c.args.d c.args.shift c.args.m c.requires.0

back-r : (c : Start) → to_z w64 (of_z w64 c.args.r) ≡ c.args.r
back-r c = to_z-of_z w64 c.args.r c.ranges.r

size_small : (c : Start) → nat_abs c.args.r < 2 ^ 60
size_small c =
    let a = c.args in
    let n : nearest_in to_even (nat_abs a.r) a.d ≤ 8388608 = omega (arith, sample_size (rounded to_even a.r a.d) c.requires.1, rounded_size to_even a.r a.d) in
    omega (arith, few c, near_high to_even a.r a.d (some c), mul-le-mul_right (2 * a.d) n)

module _ (c : After-raise-x) where
  abbrev x : ℕ
  x = c.raise-x.result

  abbrev d : ℕ
  d = c.args.d

  raised : Raises c.args.r d x
  raised = raises c.args.r d x (some c.before) (rw (back-r c.before) at c.raise-x.ensures) c.requires.1

small : (c : After-quotient_by) → c.quotient_by.result ≤ 2 ^ 24
small c = rw c.quotient_by.ensures (go (eqb (x c.before / (2 * d c.before) * (2 * d c.before)) (x c.before)))
  where
    go : (h : Bool) → settled to_even h (x c.before / (2 * d c.before)) ≤ 2 ^ 24
    go true = omega (arith, (raised c.before).quotient)
    go false = omega (arith, (raised c.before).quotient)

less-fits : (c : After-quotient_by) → SFits w64 (pos c.quotient_by.result -ℤ pos 8388608)
less-fits c =
    small_fits w64 (pos c.quotient_by.result -ℤ pos 8388608) (omega (arith, nat_abs-sub (pos c.quotient_by.result) (pos 8388608), small c))

signed : (c : After-quotient_by) → to_z w64 c.quotient_by.result ≡ pos c.quotient_by.result
signed c = as_signed c.quotient_by.result (omega (arith, small c))

pub raise-x-requires : goal.raise-x-requires
raise-x-requires c =
    let a = c.args in
    (omega (arith, few c), rw (back-r c) (size_small c), rw (back-r c) (raised_nonneg a.r a.d (some c) c.requires.1))

pub quotient_by-requires : goal.quotient_by-requires
quotient_by-requires c =
    record { most = 255; few = omega arith; split = c.requires.0; short = omega (arith, (raised c).quotient); small = (raised c).quotient }

pub overflow_cast-result : goal.overflow_cast-result
overflow_cast-result c = small_fits w64 (pos c.quotient_by.result) (omega (arith, small c))

pub overflow_sub-result : goal.overflow_sub-result
overflow_sub-result c = rw (signed c) (less-fits c)

-- the mean, before it is cast
mean : (c : After-quotient_by) → to_z w64 (of_z w64 (to_z w64 c.quotient_by.result -ℤ pos 8388608)) ≡ rounded to_even c.args.r c.args.d
mean c =
    rw (signed c)
    (to_z-of_z w64 (pos c.quotient_by.result -ℤ pos 8388608) (less-fits c) ∙ ap (λ n. pos n -ℤ pos 8388608) c.quotient_by.ensures ∙ (raised c.before).back)

pub overflow_cast-result-2 : goal.overflow_cast-result-2
overflow_cast-result-2 c = subst (SFits w32) (sym (mean c)) (sample_fits (rounded to_even c.args.r c.args.d) c.requires.1)

pub returns : goal.returns
returns c = to_z-of_z w32 _ (overflow_cast-result-2 c) ∙ mean c
