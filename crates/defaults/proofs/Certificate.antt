-- Each entry of the default taps is maximal, seen by running it: antt computes the 2 ^ N - 1 windows of every order from 2 to 16. `run` is
-- written for that, and costs little for each window where few taps are set. Assumes nothing.
use mathlib.Core.Path.{◌≡◌, refl, sym, ap, ◌∙◌, subst}
use mathlib.Core.Logic.{⊎_elim}
use mathlib.Core.List.{List, [], ◌∷◌}
use mathlib.Core.Bool.{Bool, true, false, ◌&&◌}
use Prim.Native.Nat.{ℕ, zero, suc, ◌+◌, ◌-◌, ◌*◌, ◌/◌, ◌%◌, ◌^◌, ◌≤◌, ◌<◌}
use native.Mathlib.Nat.{add-zero, eq-or-lt_of_le, le_of_suc-le-suc, div-one, div-div-eq-div-mul}
use native.Mathlib.Omega.{arith}
use borrow.Author.Tests.{eqb-false}
use lib.Dec.{T, eqb, ltb, eqb→eq, ltb→lt}
use lib.Arith.{lt-one}
use lib.Pow.{pow_pos, suc_ones}
use Rattle.sums.proofs.First.{T-both}
use Rattle.register.specs.Register.{dot, step, window, Generator, Accepted}
use Rattle.defaults.specs.Calls.{default_rows, takes}
use Rattle.register.proofs.Dot.{dot-step, dot-zero}

-- the values of the bits that are set
abbrev weights : ℕ → ℕ → ℕ → List ℕ
weights zero a d = []
weights (suc n) a d = elim (a % 2) [ zero ↦ weights n (a / 2) (d * 2) | suc b ↦ d ∷ weights n (a / 2) (d * 2) ]

-- the sum of the bits of those values, but for an even number
abbrev picked : List ℕ → ℕ → ℕ
picked [] w = 0
picked (d ∷ ds) w = w / d + picked ds w

abbrev next : List ℕ → ℕ → ℕ → ℕ
next ds p w = (w + picked ds w % 2 * p) / 2

-- the window after f steps more, or 0 where a window before that one was all ones
abbrev run : List ℕ → ℕ → ℕ → ℕ → ℕ
run ds p zero w = w
run ds p (suc f) w = elim (eqb (suc w) p) [ true ↦ 0 | false ↦ run ds p f (next ds p w) ]

-- the last window of the period, if none before it was all ones
abbrev last : ℕ → ℕ → ℕ
last N taps = run (weights N taps 1) (2 ^ N) (2 ^ N - 2) (next (weights N taps 1) (2 ^ N) (2 ^ N - 1))

abbrev pub certified : ℕ → ℕ → Bool
certified N taps = eqb (last N taps) (2 ^ N - 1) && (ltb 0 N && (eqb (taps % 2) 1 && ltb taps (2 ^ N)))

-- ---- what the test tells

picked_dot : (n a d w : ℕ) → a < 2 ^ n → picked (weights n a d) w % 2 ≡ dot a (w / d)
picked_dot zero a d w h = sym (ap (λ (x : ℕ). dot x (w / d)) (lt-one h) ∙ dot-zero (w / d))
picked_dot (suc n) a d w h = go (a % 2) refl (picked_dot n (a / 2) (d * 2) w (omega arith) ∙ ap (dot (a / 2)) (sym (div-div-eq-div-mul w d 2)))
  where
    go : (b : ℕ) → a % 2 ≡ b → picked (weights n (a / 2) (d * 2)) w % 2 ≡ dot (a / 2) (w / d / 2)
        → picked (elim b as (λ (x : ℕ). List ℕ) [ zero ↦ weights n (a / 2) (d * 2) | suc c ↦ d ∷ weights n (a / 2) (d * 2) ]) w % 2 ≡ dot a (w / d)
    go zero e ih = omega (arith, dot-step a (w / d))
    go (suc zero) e ih = omega (arith, dot-step a (w / d))
    go (suc (suc b)) e ih = omega arith

module _ (N taps : ℕ) (fits : taps < 2 ^ N) where
  next-step : (w : ℕ) → next (weights N taps 1) (2 ^ N) w ≡ step N taps w
  unfolding step
  next-step w = ap (λ (d : ℕ). (w + d * 2 ^ N) / 2) (picked_dot N taps 1 w fits ∙ ap (dot taps) (div-one w))

  -- what a run tells that ends in all ones
  Ran : ℕ → ℕ → Type 0
  Ran k f = (window N taps (k + f) ≡ 2 ^ N - 1) × ((i : ℕ) → k ≤ i → i < k + f → window N taps i ≡ 2 ^ N - 1 → ⊥)

  sound : 0 < 2 ^ N - 1 → (f w k : ℕ) → w ≡ window N taps k → run (weights N taps 1) (2 ^ N) f w ≡ 2 ^ N - 1 → Ran k f
  unfolding Ran window
  sound p zero w k e h = (ap (window N taps) (add-zero k) ∙ sym e ∙ h, λ i a b. omega arith)
  sound p (suc f) w k e h =
      go (eqb (suc w) (2 ^ N)) refl h (λ r. sound p f (next (weights N taps 1) (2 ^ N) w) (suc k) (next-step w ∙ ap (step N taps) e) r)
    where
      rest : ℕ
      rest = run (weights N taps 1) (2 ^ N) f (next (weights N taps 1) (2 ^ N) w)

      go : (b : Bool) → eqb (suc w) (2 ^ N) ≡ b → elim b as (λ (x : Bool). ℕ) [ true ↦ 0 | false ↦ rest ] ≡ 2 ^ N - 1
          → (rest ≡ 2 ^ N - 1 → Ran (suc k) f) → Ran k (suc f)
      go true t h ih = absurd (omega arith)
      go false t h ih =
          let r = ih h in
          let s : suc k + f ≡ k + suc f = omega arith in (
            ap (window N taps) (sym s) ∙ r.0,
            λ i a b q.
                ⊎_elim (λ (z : k ≡ i). eqb-false (suc w) (2 ^ N) t (ap suc (e ∙ ap (window N taps) z ∙ q) ∙ suc_ones N)) (λ l. r.1 i l (omega arith) q)
                (eq-or-lt_of_le a),
          )

pub certify : (N taps : ℕ) → T (certified N taps) → Generator N taps
unfolding Ran window
certify zero taps t = absurd t
certify (suc n) taps t =
    let N = suc n in
    let a = T-both (eqb (last N taps) (2 ^ N - 1)) _ t in
    let b = T-both (ltb 0 N) _ a.1 in
    let c = T-both (eqb (taps % 2) 1) _ b.1 in
    let fits = ltb→lt taps (2 ^ N) c.1 in
    let long : 0 < 2 ^ N - 1 = omega (arith, pow_pos n) in
    let r = sound N taps fits long (2 ^ N - 2) (next (weights N taps 1) (2 ^ N) (2 ^ N - 1)) 1 (next-step N taps fits (2 ^ N - 1)) (eqb→eq (last N taps) (2 ^ N - 1) a.0) in
    let e : 1 + (2 ^ N - 2) ≡ 2 ^ N - 1 = omega (arith, pow_pos n) in
    record {
      tapped = record { some = omega arith; fits = fits; low = eqb→eq (taps % 2) 1 c.0 };
      maximal =
          record {
            returns = ap (window N taps) (sym e) ∙ r.0;
            first = λ k p l. r.1 k p (omega arith);
          };
    }

-- ---- the default taps, orders 2 to 16

-- the n orders from 2 on, with the taps that they take
abbrev all : ℕ → Bool
all zero = true
all (suc k) = certified (2 + k) (takes default_rows (2 + k)) && all k

each : (n k : ℕ) → T (all n) → k < n → Generator (2 + k) (takes default_rows (2 + k))
each zero k t l = absurd (omega arith)
each (suc n) k t l =
    let two = T-both (certified (2 + n) (takes default_rows (2 + n))) (all n) t in
    ⊎_elim (λ (e : k ≡ n). subst (λ (m : ℕ). Generator (2 + m) (takes default_rows (2 + m))) (sym e) (certify (2 + n) _ two.0))
    (λ b. each n k two.1 b) (eq-or-lt_of_le (le_of_suc-le-suc l))

-- each entry is accepted
pub default_accepted : (N : ℕ) → 2 ≤ N → N ≤ 16 → Accepted N (takes default_rows N)
default_accepted N l h =
    let e : 2 + (N - 2) ≡ N = omega arith in
    let g = subst (λ (m : ℕ). Generator m (takes default_rows m)) e (each 15 (N - 2) tt (omega arith)) in
    record { shaped = record { least = l; most = h; tapped = g.tapped }; maximal = g.maximal }
