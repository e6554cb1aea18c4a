-- The cycle of calls {block, halves, transform}: each half, and then one level or two. Assumes nothing.
use mathlib.Core.Path.{◌≡◌, refl, sym, ap, ◌∙◌}
use mathlib.Core.List.{List}
use Prim.Native.Nat.{ℕ, suc, ◌*◌, ◌-◌, ◌/◌, ◌^◌, ◌<◌}
use native.Mathlib.Nat.{pow-suc}
use native.Mathlib.Omega.{arith}
use lib.IntN.{ℤ}
use lib.ListN.{length}
use Rattle.hadamard.specs.Transform.{loudness}
use Rattle.hadamard.proofs.Spectrum.{spectrum-one}
use Rattle.hadamard.proofs.Pieces.{Level, left_asks, right_asks, level-asks, level_is}
use Rattle.hadamard.proofs.Pieces.{Deep, whole, rest_asks, quarters_are, quads_ask, quads_are}
use Rattle.hadamard.proofs.recursion.+block_halves_transform.Goals as goal

module _ (n : ℕ) (v : List ℤ) where
  -- what `halves` is given
  given : (length v ≡ 2 ^ suc n) × (loudness v < 2 ^ 63) → Level (suc n) n (length v / 2) v
  given asked = record { order = refl; is_half = omega (arith, asked.0, pow-suc 2 n); asked = asked }

  -- what `transform` is given for one level
  level : 0 < n → (length v ≡ 2 ^ n) × (loudness v < 2 ^ 63) → Level n (n - 1) (length v / 2) v
  level some asked =
      let order : n ≡ suc (n - 1) = omega arith in
      record { order = order; is_half = omega (arith, asked.0, ap (λ (k : ℕ). 2 ^ k) order, pow-suc 2 (n - 1)); asked = asked }

  -- and for two
  levels : 1 < n → (length v ≡ 2 ^ n) × (loudness v < 2 ^ 63) → Deep n (n - 2) (length v / 2 / 2) (length v / 2) v
  levels some asked =
      let order : n ≡ suc (suc (n - 2)) = omega arith in
      let e : 2 ^ n ≡ 2 ^ (n - 2) * 2 * 2 =
      ap (λ (k : ℕ). 2 ^ k) order ∙ pow-suc 2 (suc (n - 2)) ∙ ap (λ (k : ℕ). k * 2) (pow-suc 2 (n - 2)) in
      record { order = order; is_q = omega (arith, asked.0, e); is_half = omega (arith, asked.0, e); asked = asked }

pub halves-block-requires : goal.halves-block-requires
halves-block-requires t c = (omega arith, left_asks (given c.args.n c.args.v.now c.requires))

pub halves-block-requires-2 : goal.halves-block-requires-2
halves-block-requires-2 t c = (omega arith, right_asks (given c.args.n c.args.v.now c.requires) c.block.ensures)

pub transform-returns-then-n-eq0 : goal.transform-returns-then-n-eq0
transform-returns-then-n-eq0 t c =
    let e : c.args.n ≡ 0 = omega arith in
    let long : length c.args.v.now ≡ 1 = rw e at c.requires.0 in
    rw e (sym (spectrum-one c.args.v.now long))

pub transform-butterflies-requires : goal.transform-butterflies-requires
transform-butterflies-requires t c = level-asks (level c.args.n c.args.v.now (omega arith) c.requires) c.halves.ensures

pub transform-returns-then-n-lt6 : goal.transform-returns-then-n-lt6
transform-returns-then-n-lt6 t c = level_is (level c.args.n c.args.v.now (omega arith) c.requires) c.halves.ensures c.butterflies.ensures

pub transform-halves-requires-2 : goal.transform-halves-requires-2
transform-halves-requires-2 t c = (omega arith, left_asks (whole (levels c.args.n c.args.v.now (omega arith) c.requires)))

pub transform-halves-requires-3 : goal.transform-halves-requires-3
transform-halves-requires-3 t c =
    (omega arith, rest_asks (levels c.args.n c.args.v.now (omega arith) c.requires) c.halves-2.ensures)

pub transform-quads-requires : goal.transform-quads-requires
transform-quads-requires t c =
    let D = levels c.args.n c.args.v.now (omega arith) c.requires in
    quads_ask D (quarters_are D c.halves-2.ensures c.halves-3.ensures)

pub transform-returns : goal.transform-returns
transform-returns t c =
    let D = levels c.args.n c.args.v.now (omega arith) c.requires in
    quads_are D (quarters_are D c.halves-2.ensures c.halves-3.ensures) c.quads.ensures
