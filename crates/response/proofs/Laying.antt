-- Numbers laid out at the places of a walk: where each stands at its place and 0 is stored at place 0, the room is laid out; and the windows
-- walked in two strands. Assumes nothing.
use mathlib.Core.Path.{◌≡◌, refl, ap, ◌∙◌}
use mathlib.Core.List.{List}
use Prim.Native.Nat.{ℕ, ◌+◌, ◌/◌, ◌≤◌, ◌<◌}
use native.Mathlib.Omega.{arith}
use lib.IntN.{ℤ, pos}
use lib.ListN.{length, set, length-set}
use lib.Seq.{get_or-set_same, get_or-set_other}
use Rattle.sums.proofs.Perm.{Visits}
use Rattle.sums.proofs.Placed.{Placed, placed_none, placed_more, placed_two}
use Rattle.register.specs.Register.{P, step, window, Accepted}
use Rattle.response.specs.Route.{Laid}
use Rattle.response.proofs.FastRoute.{windows_walk}
use Rattle.response.proofs.Strands.{odd, Forth, forth_none, forth_more, forth_last, Windows, windows-none, windows_lt, windows_more}

pub laid : {P : ℕ} {place : ℕ → ℕ} {y : ℕ → ℤ} {was v : List ℤ} {done : ℕ → Type 0} → Visits P place → P < length was
    → Placed (pos 0) P place y done was v → ((j : ℕ) → j < P → done j) → Laid P place y was (set v 0 (pos 0))
laid {place = place} {v = v} walk room p every =
    record {
      long = length-set v 0 (pos 0) ∙ p.long;
      empty = get_or-set_same v 0 (pos 0) (pos 0) (omega (arith, p.long));
      each = λ j l. let low = walk.low j l in get_or-set_other v 0 (place j) (pos 0) (pos 0) (λ q. omega arith) ∙ p.each j (every j l) l;
      tail = λ i l. get_or-set_other v 0 i (pos 0) (pos 0) (λ q. omega arith) ∙ p.rest i (λ j m q. let high = walk.high j m in omega arith);
    }

-- ---- by the windows, in two strands of h

-- j turns are done
pub record Walked (N taps h : ℕ) (y : ℕ → ℤ) (was : List ℤ) (j first second : ℕ) (v : List ℤ) : Type 0 where
  pub windows : Windows N taps h j first second
  pub placed : Placed (pos 0) (P N) (window N taps) y (Forth h j) was v

module _ {N taps h : ℕ} {y : ℕ → ℤ} {was : List ℤ} where
  pub walked_none : {first second : ℕ} → first ≡ P N → second ≡ window N taps h → Walked N taps h y was 0 first second was
  walked_none e f = record { windows = windows-none e f; placed = placed_none (λ i d _. forth_none i d) }

  module _ (r : Accepted N taps) (half : h ≡ P N / 2) (room : P N < length was) {j first second : ℕ} {v u : List ℤ}
      (w : Walked N taps h y was j first second v) where
    pub walked_more : {a b : ℤ} {first' second' : ℕ} → j < h → a ≡ y j → b ≡ y (h + j) → u ≡ set (set v first a) second b
        → first' ≡ step N taps first → second' ≡ step N taps second → Walked N taps h y was (j + 1) first' second' u
    walked_more l f g e m n =
        let o = odd r.shaped.tapped refl in
        let p = w.windows in
        record {
          windows = windows_more p l m n;
          placed = rw e (placed_two (windows_walk N taps r).apart (Forth h (j + 1)) j (h + j) w.placed
              (omega arith) (omega (arith, windows_lt p)) (p.near, p.far) (f, g) (λ i d _. forth_more i d));
        }

    pub walked_all : {a : ℤ} → h ≤ j → a ≡ y (h + h) → u ≡ set (set v second a) 0 (pos 0) → Laid (P N) (window N taps) y was u
    walked_all l f e =
        let o = odd r.shaped.tapped refl in
        let p = w.windows in
        let end : j ≡ h = omega (arith, p.to) in
        let walk = windows_walk N taps r in
        rw e (laid walk room
        (placed_more walk.apart (λ i. i < P N) (h + h) (rw end at w.placed) (omega arith) (omega (arith, windows_lt p)) (p.far ∙ ap (λ k. window N taps (h + k)) end) f
        (λ i d _ n. forth_last i (omega arith) n))
        (λ i d. d))
