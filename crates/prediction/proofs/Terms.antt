-- A predicted sample worked out term by term, from the last value of the response to the first, while the register goes on from the sample's window.
-- Assumes nothing.
use mathlib.Core.Path.{◌≡◌, sym, ap, ◌∙◌}
use mathlib.Core.Bool.{false}
use mathlib.Core.List.{List}
use Prim.Native.Nat.{ℕ, suc, ◌+◌, ◌-◌, ◌*◌, ◌%◌, ◌^◌, ◌≤◌, ◌<◌}
use native.Mathlib.Omega.{arith}
use lib.IntN.{ℤ, pos, nat_abs, ◌+ℤ◌, ◌*ℤ◌, +ℤ_idl, +ℤ_idr, +ℤ_assoc, +ℤ_comm, *ℤ_comm}
use Rattle.sums.specs.Sum.{sum, total, sign}
use Rattle.sums.specs.Lists.{at}
use Rattle.sums.proofs.Bound.{nat_abs-+}
use Rattle.sums.proofs.Sign.{nat_abs-sign-*}
use Rattle.sums.proofs.Somewhere.{some-none}
use Rattle.sums.proofs.Sum.{sum-suc, total_ext, nat_abs-total}
use Rattle.samples.specs.Samples.{sample_out, some_out}
use Rattle.samples.proofs.Sizes.{size_inside}
use Rattle.register.specs.Register.{P, step, window, bit, wave, Accepted}
use Rattle.register.proofs.Correlation.{wave-mod}
use Rattle.register.proofs.Judged.{generator}
use Rattle.register.proofs.Windows.{step-lt, window-next}
use Rattle.response.specs.Response.{prediction}
use Rattle.prediction.specs.Calls.{predicted}

-- h(i)·x(j-i)
abbrev term : ℕ → ℕ → List ℤ → ℕ → ℕ → ℤ
term N taps h j i = at h i *ℤ wave N taps ((j + (P N - i)) % P N)

pub signed-size : (x : ℤ) (w : ℕ) → nat_abs (x *ℤ sign (w % 2)) ≡ nat_abs x
signed-size x w = ap nat_abs (*ℤ_comm x (sign (w % 2))) ∙ nat_abs-sign-* (w % 2) x

-- y has the terms from i on, and the register has gone P - i steps from the window at j
pub record Summed (N taps : ℕ) (h : List ℤ) (from : ℕ) (y : ℤ) (w i : ℕ) : Type 0 where
  pub to : i ≤ P N
  pub small : nat_abs y ≤ 2 ^ 23 * (P N - i)
  pub low : w < 2 ^ N
  pub place : (j : ℕ) → from ≡ window N taps j → w ≡ window N taps (j + (P N - i))
  pub rest : (j : ℕ) → from ≡ window N taps j → sum i (term N taps h j) +ℤ y ≡ predicted N taps h j

module _ {N taps : ℕ} {h : List ℤ} {from : ℕ} where
  pub summed_none : from < 2 ^ N → Summed N taps h from (pos 0) from (P N)
  unfolding prediction
  summed_none l =
      record {
        to = omega arith;
        small = omega arith;
        low = l;
        place = λ j e. let n : j ≡ j + (P N - P N) = omega arith in e ∙ ap (window N taps) n;
        rest = λ j e. +ℤ_idr (sum (P N) (term N taps h j));
      }

  module _ (a : Accepted N taps) {y : ℤ} {w k : ℕ} (s : Summed N taps h from y w (suc k)) where
    -- the term that comes next
    next : {w' : ℕ} → w' ≡ step N taps w → (j : ℕ) → from ≡ window N taps j → (w' ≡ window N taps (j + (P N - k))) × (at h k *ℤ sign (w' % 2) ≡ term N taps h j k)
    unfolding wave bit
    next m j e =
        let n : j + (P N - suc k) + 1 ≡ j + (P N - k) = omega (arith, s.to) in
        let p = window-next N taps (j + (P N - suc k)) (s.place j e) m ∙ ap (window N taps) n in
        (p, ap (λ z. at h k *ℤ z) (ap (λ v. sign (v % 2)) p ∙ sym (wave-mod N taps (generator a) (j + (P N - k)))))

    pub summed_more : {w' : ℕ} {z : ℤ} → nat_abs (at h k) ≤ 2 ^ 23 → w' ≡ step N taps w → z ≡ y +ℤ at h k *ℤ sign (w' % 2) → Summed N taps h from z w' k
    summed_more {w'} {z} q m e =
        record {
          to = omega (arith, s.to);
          small = omega (
            arith,
            s.to,
            s.small,
            q,
            ap nat_abs e,
            nat_abs-+ y (at h k *ℤ sign (w' % 2)),
            signed-size (at h k) w',
          );
          low = rw m (step-lt N taps w s.low);
          place = λ j f. (next m j f).0;
          rest = λ j f.
              ap (λ x. sum k (term N taps h j) +ℤ x) (e ∙ ap (λ x. y +ℤ x) (next m j f).1)
              ∙ turned (sum k (term N taps h j)) y (term N taps h j k)
              ∙ ap (λ x. x +ℤ y) (sym (sum-suc k (term N taps h j)))
              ∙ s.rest j f;
        }
      where
        turned : (p x t : ℤ) → p +ℤ (x +ℤ t) ≡ (p +ℤ t) +ℤ x
        turned p x t = ap (λ u. p +ℤ u) (+ℤ_comm x t) ∙ sym (+ℤ_assoc p t x)

  pub summed_all : {y : ℤ} {w : ℕ} → Summed N taps h from y w 0 → (j : ℕ) → from ≡ window N taps j → y ≡ predicted N taps h j
  unfolding sum
  summed_all {y} s j e = sym (+ℤ_idl y) ∙ s.rest j e

-- no predicted sample is larger than the sizes of the response's values together, so where these are small none is out of the range
pub never_loud : (N taps : ℕ) (h : List ℤ) → total (P N) (λ i. nat_abs (at h i)) ≤ 8388607 → some_out (P N) (predicted N taps h) ≡ false
unfolding prediction wave bit
never_loud N taps h l =
    some-none (λ j. sample_out (predicted N taps h j)) (P N)
    (λ j _. size_inside (predicted N taps h j)
    (omega (arith, nat_abs-total (P N) (term N taps h j), total_ext (P N) {f = λ i. nat_abs (term N taps h j i)} (λ i _. signed-size (at h i) (window N taps ((j + (P N - i)) % P N))))))
