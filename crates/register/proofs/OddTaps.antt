-- A register that first returns to all ones after P steps has tap 0 set: with it clear the window 1 would be followed by 0, and 0 by nothing
-- else. So of the taps below 2^N the check accepts exactly those of a maximal register. Assumes nothing.
use mathlib.Core.Path.{◌≡◌, sym, ap, ◌∙◌}
use mathlib.Core.Logic.{◌↔◌}
use Prim.Native.Nat.{ℕ, zero, suc, ◌+◌, ◌-◌, ◌*◌, ◌/◌, ◌%◌, ◌^◌, ◌≤◌, ◌<◌}
use native.Mathlib.Nat.{suc-add, zero-add, add-zero, zero-mul, mod-lt, zero-lt-suc}
use native.Mathlib.Decide.{ℕ_discrete}
use native.Mathlib.Omega.{arith}
use lib.Pow.{pow-lt}
use Rattle.sums.proofs.Perm.{Visits, visits_all}
use Rattle.register.specs.Register.{P, dot, step, window, Maximal}
use Rattle.register.specs.Calls.{taps_answer}
use Rattle.register.proofs.Dot.{dot_comm, dot-one}
use Rattle.register.proofs.Windows.{window-lt}
use Rattle.register.proofs.Orbit.{step-zero, none_again}
use Rattle.register.proofs.Judged.{accepted_exactly}

module _ (N taps : ℕ) (some : 0 < N) (m : Maximal N taps) where
  -- two windows that are the same stay the same
  along : (i j n : ℕ) → window N taps i ≡ window N taps j → window N taps (n + i) ≡ window N taps (n + j)
  unfolding window
  along i j zero e = ap (window N taps) (zero-add i) ∙ e ∙ ap (window N taps) (sym (zero-add j))
  along i j (suc n) e =
      ap (window N taps) (suc-add n i) ∙ ap (step N taps) (along i j n e) ∙ ap (window N taps) (sym (suc-add n j))

  -- once 0, always 0
  stays : (k n : ℕ) → window N taps k ≡ 0 → window N taps (n + k) ≡ 0
  unfolding window
  stays k zero e = ap (window N taps) (zero-add k) ∙ e
  stays k (suc n) e = ap (window N taps) (suc-add n k) ∙ ap (step N taps) (stays k n e) ∙ step-zero N taps

  long : 1 ≤ P N
  long = omega (arith, pow-lt some)

  never : (k : ℕ) → k ≤ P N → window N taps k ≡ 0 → ⊥
  never k l e =
      let s : P N - k + k ≡ P N = omega arith in
      let z : P N ≡ 0 = sym m.returns ∙ ap (window N taps) (sym s) ∙ stays k (P N - k) e in
      omega (arith, long)

  -- from two the same the register would be back too soon
  later : (i j : ℕ) → i < j → j < P N → window N taps i ≡ window N taps j → ⊥
  unfolding window
  later i j l h e =
      let s : P N - i + i ≡ P N = omega arith in
      let t : P N - i + j ≡ j - i + P N = omega arith in
      let back : window N taps (j - i + P N) ≡ P N = ap (window N taps) (sym t) ∙ sym (along i j (P N - i) e) ∙ ap (window N taps) s ∙ m.returns in
      let soon : window N taps (j - i + P N) ≡ window N taps (j - i + 0) = along (P N) 0 (j - i) m.returns in
      m.first (j - i) (omega arith) (omega arith) (ap (window N taps) (sym (add-zero (j - i))) ∙ sym soon ∙ back)

  visits : Visits (P N) (window N taps)
  visits =
      record {
        low = λ j l. let n = never j (omega arith) in omega arith;
        high = λ j _. omega (arith, window-lt N taps j);
        apart = none_again N taps later;
      }

  pub tap_0_set : taps % 2 ≡ 1
  unfolding window step
  tap_0_set = elim (ℕ_discrete (taps % 2) 0) [
    | yes e ↦ absurd (clear e (visits_all (P N) (window N taps) visits 1 (omega arith) long))
    | no n ↦ let b = mod-lt taps (zero-lt-suc 1) in omega arith
  ]
    where
      clear : taps % 2 ≡ 0 → (j : ℕ) × (j < P N) × (window N taps j ≡ 1) → ⊥
      clear e f =
          let d : dot taps 1 ≡ 0 = dot_comm taps 1 ∙ dot-one taps ∙ e in
          let next : step N taps 1 ≡ 0 = ap (λ (x : ℕ). (1 + x * 2 ^ N) / 2) d ∙ ap (λ (x : ℕ). (1 + x) / 2) (zero-mul (2 ^ N)) in
          never (suc f.0) f.1 (ap (step N taps) f.2 ∙ next)

-- ---- taps for N stages are accepted exactly when the register first returns to all ones after P steps

pub accepted_maximal : (N taps : ℕ) → 2 ≤ N → N ≤ 16 → taps < 2 ^ N → (taps_answer N taps ≡ 0) ↔ Maximal N taps
accepted_maximal N taps l h fits = (
  λ e. ((accepted_exactly N taps).0 e).maximal,
  λ m. (accepted_exactly N taps).1 (record {
    shaped = record { least = l; most = h; tapped = record { some = omega arith; fits = fits; low = tap_0_set N taps (omega arith) m } };
    maximal = m;
  }),
)
