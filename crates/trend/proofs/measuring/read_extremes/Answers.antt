-- `trend::measuring::read_extremes` meets its contract: each extreme is that of the last places passed, and the tag is that of the delay reached.
-- Assumes nothing.
use mathlib.Core.Path.{◌≡◌, refl, sym, ap, ◌∙◌}
use mathlib.Core.Bool.{Bool, true, false, cond}
use mathlib.Core.List.{List}
use Prim.Native.Nat.{ℕ, suc, ◌+◌, ◌-◌, ◌^◌, ◌<◌, ◌≤◌}
use native.Mathlib.Omega.{arith}
use lib.IntN.{ℤ, nat_abs, ◌-ℤ◌}
use lib.ListN.{length}
use lib.Signed.{lt_z, le_z}
use Rattle.std.specs.Int.{int_max, int_min}
use Rattle.sums.proofs.Diff.{ints, parts}
use mir.Syntax.{w64}
use mir.Val.{of_z, to_z}
use Rattle.sums.specs.Lists.{at}
use Rattle.sums.proofs.Bound.{read}
use Rattle.register.specs.Register.{P, Accepted, tag as tag_of, tag-step as tag_step_of}
use Rattle.register.proofs.Windows.{tag-lt, tag-next}
use Rattle.sums.proofs.Equal.{minus_le}
use Rattle.sums.proofs.Scanning.{best_one, best_more, best_all}
use Rattle.trend.proofs.measuring.read_extremes.Invariants.{value, plain, minus, sized}
use Rattle.trend.proofs.measuring.read_extremes.Goals as goal

module _ (order taps period : ℕ) (t : List ℤ) (a : Accepted order taps) (p : (period ≡ P order) × (period < length t)) where
  -- the tags are below 2 ^ order, and the first is 1
  below : (m : ℕ) → tag_of order taps m < 2 ^ order
  below = tag-lt order taps a.shaped.tapped

  one : 1 < 2 ^ order
  unfolding tag_of
  one = below 0

  -- what is read at a tag is not large
  readable : ((w : ℕ) → w ≤ period → nat_abs (at t w) < 2 ^ 62) → (m w : ℕ) → w ≡ tag_of order taps m
      → (w < length t) × (nat_abs (at t w) < 2 ^ 62) × (nat_abs (at t 0) < 2 ^ 62)
  readable small m w e =
      let h = below m in
      (omega (arith, p.0, p.1), small w (omega (arith, p.0)), small 0 (omega arith))

  -- the next tag is that of the delay one longer, the first of the delay 1
  first : (x : ℕ) → x ≡ tag_step_of order taps 1 → x ≡ tag_of order taps 1
  unfolding tag_of
  first x s = tag-next order taps a.shaped.tapped {m = 0} refl refl s

  next : (i tag x : ℕ) → tag ≡ tag_of order taps i → x ≡ tag_step_of order taps tag → x ≡ tag_of order taps (i + 1)
  next i tag x h s = tag-next order taps a.shaped.tapped h (omega arith) s

  -- what was read is what stands at the place of that delay
  here : (i w : ℕ) → i ≤ period → w ≡ tag_of order taps i → at t w -ℤ at t 0 ≡ value order taps t period (period - i)
  here i w l e =
      let back : period - (period - i) ≡ i = omega arith in
      ap (λ u. at t u -ℤ at t 0) (e ∙ ap (tag_of order taps) (sym back))

-- of two numbers, the one that counts at least as much
higher_is : (x y : ℤ) → int_max x y ≡ cond (le_z x y) y x
higher_is x y = go (lt_z y x) (le_z x y) refl refl
  where
    go : (s t : Bool) → lt_z y x ≡ s → le_z x y ≡ t → cond s x y ≡ cond t y x
    go true true p q = absurd (omega (ints, p, q))
    go true false p q = refl
    go false true p q = refl
    go false false p q = absurd (omega (ints, p, q))

lower_is : (x y : ℤ) → int_min x y ≡ cond (le_z (minus x) (minus y)) y x
lower_is x y = go (lt_z y x) (le_z y x) refl refl ∙ ap (λ b. cond b y x) (sym (minus_le x y))
  where
    go : (s t : Bool) → lt_z y x ≡ s → le_z y x ≡ t → cond s y x ≡ cond t y x
    go true true p q = refl
    go true false p q = absurd (omega (ints, p, q))
    go false true p q = let same : x ≡ y = rw (parts x, parts y) (omega (ints, p, q)) in same
    go false false p q = refl

pub reading-highest-requires : goal.reading-highest-requires
reading-highest-requires c =
    let a = c.args in
    let r = c.requires in
    readable a.register.order a.register.taps a.period a.t.now a.register.accepted r.period_in_bounds r.by_index _ c.tag_step-tag.result (first a.register.order a.register.taps a.period a.t.now a.register.accepted r.period_in_bounds _ c.tag_step-tag.ensures)

pub loop-init : goal.loop-init
loop-init c =
    let a = c.args in
    let r = c.requires.period_in_bounds in
    let v = value a.register.order a.register.taps a.t.now a.period in
    let some : 1 ≤ a.period = omega (arith, one a.register.order a.register.taps a.period a.t.now a.register.accepted r, r.0) in
    let f = first a.register.order a.register.taps a.period a.t.now a.register.accepted r _ c.tag_step-tag.ensures in
    let e : suc (a.period - 1) ≡ a.period = omega arith in
    let z : to_z w64 (of_z w64 c.reading-highest.result) ≡ v (a.period - 1) =
    read w64 c.reading-highest.result c.reading-highest.type_inv ∙ c.reading-highest.ensures ∙ here a.register.order a.register.taps a.period a.t.now a.register.accepted r 1 _ some f in
    (some, f, best_one plain v _ e z, best_one minus v _ e z, best_one sized v _ e z)

pub reading-z-requires : goal.reading-z-requires
reading-z-requires c =
    let a = c.args in
    let r = c.requires in
    readable a.register.order a.register.taps a.period a.t.now a.register.accepted r.period_in_bounds r.by_index _ c.tag_step-tag-in-loop.result
    (next a.register.order a.register.taps a.period a.t.now a.register.accepted r.period_in_bounds c.loop.counter c.loop.tag _ c.loop.invariant.1 c.tag_step-tag-in-loop.ensures)

pub loop-preserved : goal.loop-preserved
loop-preserved c =
    let a = c.args in
    let r = c.requires.period_in_bounds in
    let n = c.loop.counter in
    let v = value a.register.order a.register.taps a.t.now a.period in
    let f = next a.register.order a.register.taps a.period a.t.now a.register.accepted r n c.loop.tag _ c.loop.invariant.1 c.tag_step-tag-in-loop.ensures in
    let less : n + 1 ≤ a.period = omega arith in
    let z : to_z w64 (of_z w64 c.reading-z.result) ≡ v (a.period - (n + 1)) =
    read w64 c.reading-z.result c.reading-z.type_inv ∙ c.reading-z.ensures ∙ here a.register.order a.register.taps a.period a.t.now a.register.accepted r (n + 1) _ less f in
    let e : a.period - n ≡ suc (a.period - (n + 1)) = omega arith in
    let i = rw e at c.loop.invariant in (
      less,
      f,
      best_more plain v _ i.2 z (read w64 c.max-highest.result c.max-highest.type_inv ∙ c.max-highest.ensures.value ∙ higher_is (to_z w64 c.loop.highest-bits) (to_z w64 (of_z w64 c.reading-z.result))),
      best_more minus v _ i.3 z (read w64 c.min-lowest.result c.min-lowest.type_inv ∙ c.min-lowest.ensures.value ∙ lower_is (to_z w64 c.loop.lowest-bits) (to_z w64 (of_z w64 c.reading-z.result))),
      best_more sized v _ i.4 z (read w64 c.larger-peak.result c.larger-peak.type_inv ∙ c.larger-peak.ensures),
    )

pub returns : goal.returns
returns c =
    let a = c.args in
    let v = value a.register.order a.register.taps a.t.now a.period in
    let e : a.period - c.loop.counter ≡ 0 = omega arith in
    let i = rw e at c.loop.invariant in
    rw (best_all plain v _ i.2, best_all minus v _ i.3, best_all sized v _ i.4)

pub tag_step-tag-requires-in-loop : goal.tag_step-tag-requires-in-loop
tag_step-tag-requires-in-loop c =
    let a = c.args in
    rw c.loop.invariant.1 (below a.register.order a.register.taps a.period a.t.now a.register.accepted c.requires.period_in_bounds c.loop.counter)
