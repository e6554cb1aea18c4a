-- Taps are accepted exactly when the order is 2 to 16, the taps lie in it, tap 0 is set, and the register first returns to all ones after
-- P steps. With tap 0 set it does return, so `period` is the first return for all taps that come so far. Assumes nothing.
use mathlib.Core.Path.{◌≡◌, sym, ap, ◌∙◌}
use mathlib.Core.Logic.{◌↔◌}
use mathlib.Core.Bool.{false}
use mathlib.Core.List.{[], ◌∷◌}
use Prim.Native.Nat.{ℕ, ◌+◌, ◌%◌, ◌^◌, ◌≤◌, ◌<◌}
use native.Mathlib.Nat.{mod-lt, zero-lt-suc}
use native.Mathlib.Decide.{dec_lt}
use native.Mathlib.Omega.{arith}
use borrow.Author.Tests.{ltb-false, leb-false, eqb-true, eqb-false, le-ltb, lt-leb, eq-eqb, ne_eqb, not-false}
use lib.Dec.{eqb, ltb}
use lib.Pow.{pow-lt}
use Rattle.sums.specs.Refusals.{first}
use Rattle.sums.proofs.First.{passes, passed_first, or-false}
use Rattle.sums.proofs.Seek.{First, seek-first, first_unique}
use Rattle.register.specs.Register.{window, period, P, Tapped, Maximal, Generator, Shaped, Accepted}
use Rattle.register.specs.Calls.{order_out, taps_out, tap_clear, not_maximal, shape_checks, taps_checks, taps_answer}
use Rattle.register.proofs.Orbit.{comes_back}

-- ---- the first return

-- r steps lead back to all ones, and no fewer
pub record FirstReturn (N taps r : ℕ) : Type 0 where
  pub some : 0 < r
  pub within : r ≤ P N
  pub here : window N taps r ≡ P N
  pub before : (k : ℕ) → 0 < k → k < r → window N taps k ≡ P N → ⊥

sought : (N taps : ℕ) → First (λ k. eqb (window N taps k) (P N)) (P N) 1 (period N taps)
unfolding period
sought N taps = seek-first (λ k. eqb (window N taps k) (P N)) (P N) 1

pub first_return : (N taps : ℕ) → Tapped N taps → FirstReturn N taps (period N taps)
first_return N taps t = elim (dec_lt (period N taps) (1 + P N)) [ yes l ↦ found l | no n ↦ absurd (never (omega (arith, f.to))) ]
  where
    f : First (λ k. eqb (window N taps k) (P N)) (P N) 1 (period N taps)
    f = sought N taps

    away : (k : ℕ) → 0 < k → k < period N taps → window N taps k ≡ P N → ⊥
    away k p l = eqb-false (window N taps k) (P N) (f.before k p l)

    found : period N taps < 1 + P N → FirstReturn N taps (period N taps)
    found l =
        record { some = f.from; within = omega arith; here = eqb-true (window N taps (period N taps)) (P N) (f.here l); before = away }

    never : period N taps ≡ 1 + P N → ⊥
    never e = away (P N) (omega (arith, pow-lt t.some)) (omega arith) (comes_back N taps t (λ k p l. away k p (omega arith)))

-- it comes after P steps just where the register is maximal
pub maximal_period : (N taps : ℕ) → Tapped N taps → (period N taps ≡ P N) ↔ Maximal N taps
maximal_period N taps t = (
  λ e. let r = first_return N taps t in
      record { returns = ap (window N taps) (sym e) ∙ r.here; first = λ k p l. r.before k p (omega arith) },
  λ m. first_unique (λ k. eqb (window N taps k) (P N)) (sought N taps) (record {
    from = omega (arith, pow-lt t.some);
    to = omega arith;
    before = λ k p l. ne_eqb (window N taps k) (P N) (m.first k p l);
    here = λ _. eq-eqb (window N taps (P N)) (P N) m.returns;
  }),
)

-- ---- the checks 1, 2 and 3

pub from_passed : (N taps : ℕ) → order_out N ≡ false → taps_out N taps ≡ false → tap_clear taps ≡ false → Shaped N taps
from_passed N taps one two three =
    let order = or-false (ltb N 2) (ltb 16 N) one in
    let l = ltb-false N 2 order.0 in
    let odd = eqb-false (taps % 2) 0 three in
    let bit = mod-lt taps (zero-lt-suc 1) in
    record {
      least = l;
      most = ltb-false 16 N order.1;
      tapped = record { some = omega arith; fits = leb-false (2 ^ N) taps two; low = omega arith };
    }

pub shaped : (N taps : ℕ) → first (shape_checks N taps) ≡ 0 → Shaped N taps
shaped N taps h = let p = passes (shape_checks N taps) tt h in from_passed N taps p.0 p.1.0 p.1.1.0

pub passes_shape : (N taps : ℕ) → Shaped N taps → first (shape_checks N taps) ≡ 0
passes_shape N taps s =
    simp (le-ltb N 2 s.least, le-ltb 16 N s.most, lt-leb (2 ^ N) taps s.tapped.fits, ne_eqb (taps % 2) 0 (odd s.tapped.low))
  where
    odd : taps % 2 ≡ 1 → taps % 2 ≡ 0 → ⊥
    odd o e = omega arith

-- ---- taps check: 1, 2, 3, 4

pub accepted_exactly : (N taps : ℕ) → (taps_answer N taps ≡ 0) ↔ Accepted N taps
unfolding taps_answer
accepted_exactly N taps = (to, from)
  where
    to : first (taps_checks N taps) ≡ 0 → Accepted N taps
    to h =
        let p = passes (taps_checks N taps) tt h in
        let s = from_passed N taps p.0 p.1.0 p.1.1.0 in
        let e = eqb-true (period N taps) (P N) (not-false (eqb (period N taps) (P N)) p.1.1.1.0) in
        record { shaped = s; maximal = (maximal_period N taps s.tapped).0 e }

    from : Accepted N taps → first (taps_checks N taps) ≡ 0
    from a =
        passed_first (shape_checks N taps) ((4, not_maximal N taps) ∷ []) tt (passes_shape N taps a.shaped)
        ∙ simp (eq-eqb (period N taps) (P N) ((maximal_period N taps a.shaped.tapped).1 a.maximal))

pub generator : {N taps : ℕ} → Accepted N taps → Generator N taps
generator a = record { tapped = a.shaped.tapped; maximal = a.maximal }
