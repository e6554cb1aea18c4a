-- `prediction::direct::predicted_out` meets its contract: the sum has the terms passed. Assumes nothing.
use mathlib.Core.Path.{◌≡◌, ap, subst, ◌∙◌}
use Prim.Native.Nat.{ℕ, suc, ◌-◌, ◌%◌, ◌^◌, ◌≤◌, ◌<◌}
use native.Mathlib.Omega.{arith}
use mathlib.Core.Bool.{false}
use mathlib.Core.List.{List}
use lib.IntN.{ℤ, nat_abs, ◌+ℤ◌, ◌*ℤ◌}
use lib.ListN.{length}
use mir.Syntax.{w64}
use mir.Val.{to_z, of_z}
use mir.ValLaws.{to_z-of_z}
use Rattle.sums.specs.Sum.{sign}
use Rattle.sums.specs.Lists.{at}
use Rattle.sums.proofs.Bound.{small_fits, nat_abs-+}
use Rattle.sums.proofs.Somewhere.{none_of}
use Rattle.register.specs.Register.{P}
use Rattle.register.proofs.Word.{small}
use Rattle.samples.specs.Samples.{sample_out, some_out}
use Rattle.samples.proofs.Sizes.{sample_size}
use Rattle.prediction.proofs.Terms.{Summed, signed-size, summed_none, summed_more, summed_all}
use Rattle.prediction.proofs.direct.predicted_out.Goals as goal

-- a small number that went through the machine's bits
through : {z v : ℤ} → z ≡ v → nat_abs v ≤ 2 ^ 23 → to_z w64 (of_z w64 z) ≡ v
through {z} e q = to_z-of_z w64 z (small_fits w64 z (omega (arith, ap nat_abs e))) ∙ e

-- the value that comes next, and its size
module _ (N : ℕ) (h : List ℤ) (i : ℕ) (quiet : some_out (length h) (at h) ≡ false) (long : length h ≡ P N) (to : i ≤ P N) (some : 0 < i) where
  value_size : nat_abs (at h (i - 1)) ≤ 2 ^ 23
  value_size = sample_size (at h (i - 1)) (none_of (λ k. sample_out (at h k)) (length h) quiet (i - 1) (omega arith))

  -- the term that comes next, of the machine's x
  module _ {x : ℤ} (e : x ≡ at h (i - 1)) where
    x_size : nat_abs (to_z w64 (of_z w64 x)) ≤ 2 ^ 23
    x_size = omega (arith, ap nat_abs (through e value_size), value_size)

    signed_is : (w : ℕ) {r : ℤ} → r ≡ to_z w64 (of_z w64 x) *ℤ sign (w % 2) → to_z w64 (of_z w64 r) ≡ at h (i - 1) *ℤ sign (w % 2)
    signed_is w q =
        through (q ∙ ap (λ z. z *ℤ sign (w % 2)) (through e value_size)) (omega (arith, signed-size (at h (i - 1)) w, value_size))

pub loop-i-init : goal.loop-i-init
loop-i-init c = rw c.requires.h_len.0 (summed_none c.requires.h_len.1)

pub signed-y-requires : goal.signed-y-requires
signed-y-requires c =
    x_size c.args.register.order c.args.h.now c.loop-i.i c.requires.h_value c.requires.h_len.0 c.loop-i.invariant.to c.loop-i-test.true
    c.widened.ensures

pub overflow_add-y : goal.overflow_add-y
overflow_add-y c =
    let w = c.step-w.result in
    let y = to_z w64 c.loop-i.y-bits in
    let v = at c.args.h.now (c.loop-i.i - 1) in
    let q : nat_abs v ≤ 2 ^ 23 =
    value_size c.args.register.order c.args.h.now c.loop-i.i c.requires.h_value c.requires.h_len.0 c.loop-i.invariant.to c.loop-i-test.true in
    rw (signed_is c.args.register.order c.args.h.now c.loop-i.i c.requires.h_value c.requires.h_len.0 c.loop-i.invariant.to c.loop-i-test.true
    c.widened.ensures w c.signed-y.ensures)
    (small_fits w64 (y +ℤ v *ℤ sign (w % 2))
    (omega (
      arith,
      nat_abs-+ y (v *ℤ sign (w % 2)),
      signed-size v w,
      q,
      c.loop-i.invariant.small,
      c.loop-i.invariant.to,
      small c.args.register.accepted.shaped.most,
    )))

pub loop-i-preserved : goal.loop-i-preserved
loop-i-preserved c =
    let a = c.args in
    let y = to_z w64 c.loop-i.y-bits in
    let e : c.loop-i.i ≡ suc (c.loop-i.i - 1) = omega arith in
    summed_more c.args.register.accepted (subst (λ (n : ℕ). Summed a.register.order a.register.taps a.h.now a.window y c.loop-i.w n) e c.loop-i.invariant)
    (value_size a.register.order a.h.now c.loop-i.i c.requires.h_value c.requires.h_len.0 c.loop-i.invariant.to c.loop-i-test.true)
    c.step-w.ensures
    (to_z-of_z w64 (y +ℤ to_z w64 (of_z w64 c.signed-y.result)) (overflow_add-y c)
    ∙ ap (λ z. y +ℤ z) (signed_is a.register.order a.h.now c.loop-i.i c.requires.h_value c.requires.h_len.0 c.loop-i.invariant.to c.loop-i-test.true
    c.widened.ensures c.step-w.result c.signed-y.ensures))

pub returns : goal.returns
returns c = λ j e.
    let a = c.args in
    let y = to_z w64 c.loop-i.y-bits in
    let z : c.loop-i.i ≡ 0 = omega arith in
    c.sample_out.ensures
    ∙ ap sample_out (summed_all (subst (λ (n : ℕ). Summed a.register.order a.register.taps a.h.now a.window y c.loop-i.w n) z c.loop-i.invariant) j e)
