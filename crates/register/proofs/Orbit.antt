-- The windows of a register with tap 0 set: none is 0, and while it has not come back to all ones no two are the same. So it comes back
-- after P steps at the latest, and where it does so first after P, a period meets every nonzero window exactly once. Assumes nothing.
use mathlib.Core.Path.{◌≡◌, sym, ap, ◌∙◌}
use Prim.Native.Nat.{ℕ, zero, suc, ◌+◌, ◌-◌, ◌*◌, ◌/◌, ◌^◌, ◌<◌}
use native.Mathlib.Nat.{suc-add, zero-add, zero-mul, suc-mul, add_assoc, add-zero}
use native.Mathlib.Decide.{dec_lt}
use native.Mathlib.Omega.{arith}
use lib.IntN.{ℤ, ◌+ℤ◌}
use lib.Pow.{pow_pos, pow-lt, suc_ones}
use Rattle.sums.specs.Sum.{sum}
use Rattle.sums.proofs.Sum.{sum_front}
use Rattle.sums.proofs.Perm.{Visits, sum-visits, visits_all}
use Rattle.register.specs.Register.{step, window, Tapped, Maximal, P}
use Rattle.register.proofs.Dot.{dot-zero, dot_comm}
use Rattle.register.proofs.Windows.{step_inj, window-lt}

pub step-zero : (N taps : ℕ) → step N taps 0 ≡ 0
unfolding step
step-zero N taps = ap (λ (d : ℕ). (0 + d * 2 ^ N) / 2) (dot_comm taps 0 ∙ dot-zero taps) ∙ ap (λ (x : ℕ). (0 + x) / 2) (zero-mul (2 ^ N))

-- where no window comes again later, no two are the same
pub none_again : (N taps : ℕ) → ((i j : ℕ) → i < j → j < P N → window N taps i ≡ window N taps j → ⊥)
    → (i j : ℕ) → i < P N → j < P N → window N taps i ≡ window N taps j → i ≡ j
none_again N taps later i j hi hj e = elim (dec_lt i j) [
  | yes l ↦ absurd (later i j l hj e)
  | no a ↦ elim (dec_lt j i) [ yes l ↦ absurd (later j i l hi (sym e)) | no b ↦ omega arith ]
]

module _ (N taps : ℕ) (t : Tapped N taps) where
  -- two windows that are the same were the same at the start
  pub back : (i d : ℕ) → window N taps i ≡ window N taps (i + d) → window N taps d ≡ P N
  unfolding window
  back zero d h = ap (window N taps) (sym (zero-add d)) ∙ sym h
  back (suc i) d h =
      back i d
      (step_inj N taps (window N taps i) (window N taps (i + d)) t
      (window-lt N taps i) (window-lt N taps (i + d)) (h ∙ ap (window N taps) (suc-add i d)))

  -- a window that is not 0 never becomes 0
  pub step-pos : (w : ℕ) → w < 2 ^ N → step N taps w ≡ 0 → w ≡ 0
  step-pos w l h = step_inj N taps w 0 t l (pow_pos N) (h ∙ sym (step-zero N taps))

  pub window-pos : (k : ℕ) → window N taps k ≡ 0 → ⊥
  unfolding window
  window-pos zero h = omega (arith, pow-lt t.some)
  window-pos (suc k) h = window-pos k (step-pos (window N taps k) (window-lt N taps k) h)

  pub window-some : (k : ℕ) → 0 < window N taps k
  window-some k = let n = window-pos k in omega arith

  -- ---- while it has not come back

  module _ (away : (k : ℕ) → 0 < k → k < P N → window N taps k ≡ P N → ⊥) where
    later : (i j : ℕ) → i < j → j < P N → window N taps i ≡ window N taps j → ⊥
    later i j l h e =
        let s : j ≡ i + (j - i) = omega arith in
        away (j - i) (omega arith) (omega arith) (back i (j - i) (e ∙ ap (window N taps) s))

    pub distinct : (i j : ℕ) → i < P N → j < P N → window N taps i ≡ window N taps j → i ≡ j
    distinct = none_again N taps later

    pub visits : Visits (P N) (window N taps)
    visits = record { low = λ j _. window-some j; high = λ j _. omega (arith, window-lt N taps j); apart = distinct }

    -- a sum over the windows goes once over every number below 2 ^ N but 0
    pub once_each : (f : ℕ → ℤ) → f 0 +ℤ sum (P N) (λ j. f (window N taps j)) ≡ sum (2 ^ N) f
    once_each f =
        ap (λ (z : ℤ). f 0 +ℤ z) (sum-visits (P N) (window N taps) visits f)
        ∙ sym (sum_front (P N) f)
        ∙ ap (λ (k : ℕ). sum k f) (suc_ones N)

    -- and the next step comes back
    pub comes_back : window N taps (P N) ≡ P N
    unfolding window
    comes_back = go (visits_all (P N) (window N taps) visits (window N taps (P N)) (window-some (P N)) (omega (arith, window-lt N taps (P N))))
      where
        at : (j : ℕ) → j < P N → window N taps j ≡ window N taps (P N) → window N taps (P N) ≡ P N
        at zero l e = sym e
        at (suc j) l e =
            let s : P N ≡ suc j + (P N - suc j) = omega arith in
            absurd (away (P N - suc j) (omega arith) (omega arith) (back (suc j) (P N - suc j) (e ∙ ap (window N taps) s)))

        go : (j : ℕ) × (j < P N) × (window N taps j ≡ window N taps (P N)) → window N taps (P N) ≡ P N
        go f = at f.0 f.1 f.2

  -- ---- a maximal register

  module _ (m : Maximal N taps) where
    pub met_once : (w : ℕ) → 0 < w → w < 2 ^ N
        → (j : ℕ) × (j < P N) × (window N taps j ≡ w) × ((i : ℕ) → i < P N → window N taps i ≡ w → i ≡ j)
    met_once w p l =
        let f = visits_all (P N) (window N taps) (visits m.first) w p (omega arith) in
        (f.0, f.1, f.2, λ i h e. distinct m.first i f.0 h f.1 (e ∙ sym f.2))

    pub window-period : (k : ℕ) → window N taps (k + P N) ≡ window N taps k
    unfolding window
    window-period zero = ap (window N taps) (zero-add (P N)) ∙ m.returns
    window-period (suc k) = ap (window N taps) (suc-add k (P N)) ∙ ap (step N taps) (window-period k)

    -- places count modulo the period
    pub window_rounds : (m k : ℕ) → window N taps (k + m * P N) ≡ window N taps k
    window_rounds zero k = ap (window N taps) (ap (λ (a : ℕ). k + a) (zero-mul (P N)) ∙ add-zero k)
    window_rounds (suc m) k =
        ap (window N taps) (ap (λ (a : ℕ). k + a) (suc-mul m (P N)) ∙ sym (add_assoc k (m * P N) (P N)))
        ∙ window-period (k + m * P N) ∙ window_rounds m k
