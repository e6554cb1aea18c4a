-- A sum may be taken in any order. Assumes nothing.
use Prim.Native.Nat.{ℕ, zero, suc, pred, ◌<◌, ◌≤◌}
use mathlib.Core.Path.{◌≡◌, refl, sym, ap, ap₂, ◌∙◌}
use mathlib.Core.Bool.{cond}
use mathlib.Core.Logic.{◌⊎◌, inl, inr, ⊎_elim}
use native.Mathlib.Nat.{suc-pred-eq_of_pos}
use native.Mathlib.Decide.{ℕ_discrete}
use native.Mathlib.Omega.{arith}
use borrow.Author.Tests.{eq-eqb, ne_eqb}
use lib.Dec.{eqb}
use lib.IntN.{ℤ, pos, nat_abs, ◌+ℤ◌, ◌-ℤ◌, ◌*ℤ◌, zero-*ℤ, +ℤ_idr}
use Rattle.sums.specs.Sum.{sum, delta}
use Rattle.sums.proofs.Diff.{parts, diffs, ints}
use Rattle.sums.proofs.Sum.{sum_ext, sum-zero, sum-+, sum-delta, delta-same, delta_other}

-- a and b change places
swap : ℕ → ℕ → ℕ → ℕ
swap a b j = cond (eqb j a) b (cond (eqb j b) a j)

swap_l : (a b : ℕ) → swap a b a ≡ b
unfolding swap
swap_l a b = rw (eq-eqb a a refl)

swap_r : (a b : ℕ) → swap a b b ≡ a
unfolding swap
swap_r a b = elim (ℕ_discrete b a) [ yes e ↦ rw (eq-eqb b a e) e | no e ↦ rw (ne_eqb b a e, eq-eqb b b refl) ]

swap_other : (a b j : ℕ) → (j ≡ a → ⊥) → (j ≡ b → ⊥) → swap a b j ≡ j
unfolding swap
swap_other a b j h k = rw (ne_eqb j a h, ne_eqb j b k)

swap-swap : (a b j : ℕ) → swap a b (swap a b j) ≡ j
swap-swap a b j = elim (ℕ_discrete j a) [
  | yes e ↦ rw e (ap (swap a b) (swap_l a b) ∙ swap_r a b)
  | no e ↦ elim (ℕ_discrete j b) [
    | yes k ↦ rw k (ap (swap a b) (swap_r a b) ∙ swap_l a b)
    | no k ↦ ap (swap a b) (swap_other a b j e k) ∙ swap_other a b j e k
  ]
]

-- the last place of a sum with an earlier one, p
module _ (m p : ℕ) (f : ℕ → ℤ) (h : p < m) where
  swapped : (j : ℕ) → j < m → f (swap m p j) ≡ f j +ℤ delta p j *ℤ (f m -ℤ f p)
  swapped j k = elim (ℕ_discrete j p) [ yes e ↦ here e | no e ↦ there e ]
    where
      here : j ≡ p → f (swap m p j) ≡ f j +ℤ delta p j *ℤ (f m -ℤ f p)
      here e = rw (e, swap_r m p, delta-same p) (rw (parts (f m), parts (f p)) (simp diffs (omega ints)))

      there : (j ≡ p → ⊥) → f (swap m p j) ≡ f j +ℤ delta p j *ℤ (f m -ℤ f p)
      there e = rw (swap_other m p j (omega arith) e, delta_other p j e) (sym (ap (λ z. f j +ℤ z) (zero-*ℤ (f m -ℤ f p)) ∙ +ℤ_idr (f j)))

  sum_swapped : sum (suc m) (λ j. f (swap m p j)) ≡ sum (suc m) f
  unfolding sum
  sum_swapped =
      ap₂ (λ a b. a +ℤ b)
      (sum_ext m swapped ∙ sum-+ m f (λ j. delta p j *ℤ (f m -ℤ f p)) ∙ ap (λ z. sum m f +ℤ z) (sum-delta m p (λ j. f m -ℤ f p) h))
      (ap f (swap_l m p))
      ∙ rw (parts (sum m f), parts (f m), parts (f p)) (simp diffs (omega ints))

swap_same : (a j : ℕ) → swap a a j ≡ j
swap_same a j = elim (ℕ_discrete j a) [ yes e ↦ rw e (swap_l a a) | no e ↦ swap_other a a j e e ]

sum_swap_last : (m p : ℕ) (f : ℕ → ℤ) → p < suc m → sum (suc m) (λ j. f (swap m p j)) ≡ sum (suc m) f
sum_swap_last m p f h = elim (ℕ_discrete p m) [
  | yes e ↦ sum_ext (suc m) (λ j k. ap f (ap (λ n. swap m n j) e ∙ swap_same m j))
  | no e ↦ sum_swapped m p f (omega arith)
]

-- a map of the numbers below n that is one to one
pub record Permutes (n : ℕ) (g : ℕ → ℕ) : Type 0 where
  pub within : (j : ℕ) → j < n → g j < n
  pub apart : (i j : ℕ) → i < n → j < n → g i ≡ g j → i ≡ j

-- the last value brought home by a swap: what is left permutes one number less
module _ (m : ℕ) (g : ℕ → ℕ) (P : Permutes (suc m) g) where
  home : ℕ → ℕ
  home j = swap m (g m) (g j)

  home_within : (j : ℕ) → j < m → home j < m
  unfolding home
  home_within j h = elim (ℕ_discrete (g j) m) [ yes e ↦ moved e | no e ↦ kept e ]
    where
      new : g j ≡ g m → ⊥
      new e = let q = P.apart j m (omega arith) (omega arith) e in omega arith

      moved : g j ≡ m → swap m (g m) (g j) < m
      moved e = rw (e, swap_l m (g m)) (let o = P.within m (omega arith) in let d : g m ≡ m → ⊥ = λ q. new (e ∙ sym q) in omega arith)

      kept : (g j ≡ m → ⊥) → swap m (g m) (g j) < m
      kept e = rw (swap_other m (g m) (g j) e new) (let o = P.within j (omega arith) in omega arith)

  home_permutes : Permutes m home
  unfolding home
  home_permutes = record {
    within = home_within;
    apart = λ i j h k e. P.apart i j (omega arith) (omega arith) (sym (swap-swap m (g m) (g i)) ∙ ap (swap m (g m)) e ∙ swap-swap m (g m) (g j));
  }

pub sum_perm : (n : ℕ) (f : ℕ → ℤ) (g : ℕ → ℕ) → Permutes n g → sum n (λ j. f (g j)) ≡ sum n f
unfolding sum home
sum_perm zero f g P = refl
sum_perm (suc m) f g P =
    ap₂ (λ a b. a +ℤ b)
    (sum_ext m (λ j h. ap f (sym (swap-swap m (g m) (g j)))) ∙ sum_perm m (λ j. f (swap m (g m) j)) (home m g P) (home_permutes m g P))
    (ap f (sym (swap_l m (g m))))
    ∙ sum_swap_last m (g m) f (P.within m (omega arith))

-- and so each number below n is a value
find : (n : ℕ) (g : ℕ → ℕ) (w : ℕ) → ((j : ℕ) × (j < n) × (g j ≡ w)) ⊎ ((j : ℕ) → j < n → g j ≡ w → ⊥)
find zero g w = inr (λ j h e. absurd (omega arith))
find (suc n) g w = elim (ℕ_discrete (g n) w) [
  | yes e ↦ inl (n, omega arith, e)
  | no e ↦ ⊎_elim (λ f. inl (f.0, omega arith, f.2)) (λ f. inr (λ j h q. last f e j h q)) (find n g w)
]
  where
    last : ((j : ℕ) → j < n → g j ≡ w → ⊥) → (g n ≡ w → ⊥) → (j : ℕ) → j < suc n → g j ≡ w → ⊥
    last f e j h q = elim (ℕ_discrete j n) [ yes i ↦ e (ap g (sym i) ∙ q) | no i ↦ f j (omega arith) q ]

pub hits : (n : ℕ) (g : ℕ → ℕ) → Permutes n g → (w : ℕ) → w < n → (j : ℕ) × (j < n) × (g j ≡ w)
hits n g P w h = ⊎_elim (λ f. f) (λ f. absurd (none f)) (find n g w)
  where
    none : ((j : ℕ) → j < n → g j ≡ w → ⊥) → ⊥
    none f =
        let z : ◌≡◌ {A = ℕ} 0 1 = ap nat_abs (sym (sum-zero n) ∙ sum_ext n (λ j k. sym (ap (λ d. d *ℤ pos 1) (delta_other w (g j) (f j k)))) ∙ sum_perm n (λ j. delta w j *ℤ pos 1) g P ∙ sum-delta n w (λ j. pos 1) h) in
        omega arith

-- ---- a walk that is each time at another of the numbers 1 to n is at all of them, as a register's windows are

pub record Visits (n : ℕ) (W : ℕ → ℕ) : Type 0 where
  pub low : (j : ℕ) → j < n → 0 < W j
  pub high : (j : ℕ) → j < n → W j ≤ n
  pub apart : (i j : ℕ) → i < n → j < n → W i ≡ W j → i ≡ j

module _ (n : ℕ) (W : ℕ → ℕ) (v : Visits n W) where
  from_zero : Permutes n (λ j. pred (W j))
  from_zero =
      record {
        within = λ j h. let l = v.low j h in let k = v.high j h in omega arith;
        apart =
            λ i j h k e.
            v.apart i j h k (sym (suc-pred-eq_of_pos (v.low i h)) ∙ ap suc e ∙ suc-pred-eq_of_pos (v.low j k));
      }

  pub sum-visits : (f : ℕ → ℤ) → sum n (λ j. f (W j)) ≡ sum n (λ i. f (suc i))
  sum-visits f =
      sum_ext n (λ j h. ap f (sym (suc-pred-eq_of_pos (v.low j h)))) ∙ sum_perm n (λ i. f (suc i)) (λ j. pred (W j)) from_zero

  pub visits_all : (w : ℕ) → 0 < w → w ≤ n → (j : ℕ) × (j < n) × (W j ≡ w)
  visits_all w p l =
      let f = hits n (λ j. pred (W j)) from_zero (pred w) (omega arith) in
      (f.0, f.1, sym (suc-pred-eq_of_pos (v.low f.0 f.1)) ∙ ap suc f.2 ∙ suc-pred-eq_of_pos p)
