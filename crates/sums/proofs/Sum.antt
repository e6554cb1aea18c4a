-- The laws of finite sums. Assumes nothing.
use Prim.Native.Nat.{ℕ, zero, suc, ◌+◌, ◌*◌, ◌-◌, ◌%◌, ◌≤◌, ◌<◌, zero-le}
use mathlib.Core.Path.{◌≡◌, refl, sym, ap, ap₂, ◌∙◌, subst}
use native.Mathlib.Nat.{add-zero, add-suc, add_comm, mul-add, mod-lt, mod-eq_of_lt, add-mod-mod, add-mod_right}
use native.Mathlib.Decide.{ℕ_discrete}
use borrow.Author.Tests.{eq-eqb, ne_eqb}
use native.Mathlib.Numerals.{add-one}
use native.Mathlib.Omega.{arith}
use lib.IntN.{ℤ, pos, neg_ℤ, nat_abs, ◌+ℤ◌, ◌-ℤ◌, ◌*ℤ◌, +ℤ_idr, +ℤ_idl, +ℤ_assoc, +ℤ_comm, neg_ℤ-+ℤ, *ℤ-zero, zero-*ℤ, *ℤ_comm}
use Rattle.sums.specs.Sum.{sum, total, delta}
use Rattle.sums.proofs.Ring.{ring, *ℤ-+ℤ, one-*ℤ, +ℤ_mix}
use Rattle.sums.proofs.Bound.{nat_abs-+}

pub sum-suc : (n : ℕ) (f : ℕ → ℤ) → sum (suc n) f ≡ sum n f +ℤ f n
unfolding sum
sum-suc n f = refl

-- only the terms below n count
pub sum_ext : (n : ℕ) {f g : ℕ → ℤ} → ((i : ℕ) → i < n → f i ≡ g i) → sum n f ≡ sum n g
unfolding sum
sum_ext zero h = refl
sum_ext (suc n) h = ap₂ (λ a b. a +ℤ b) (sum_ext n (λ i k. h i (omega arith))) (h n (omega arith))

-- the first term, and the others
pub sum_front : (n : ℕ) (f : ℕ → ℤ) → sum (suc n) f ≡ f 0 +ℤ sum n (λ i. f (suc i))
unfolding sum
sum_front zero f = +ℤ_comm (pos 0) (f 0)
sum_front (suc n) f = ap (λ a. a +ℤ f (suc n)) (sum_front n f) ∙ +ℤ_assoc (f 0) (sum n (λ i. f (suc i))) (f (suc n))

-- n ones
pub sum_one : (n : ℕ) → sum n (λ i. pos 1) ≡ pos n
unfolding sum
sum_one zero = refl
sum_one (suc n) = ap (λ a. a +ℤ pos 1) (sum_one n) ∙ ap pos (add-one n)

-- linear
pub sum-zero : (n : ℕ) → sum n (λ i. pos 0) ≡ pos 0
unfolding sum
sum-zero zero = refl
sum-zero (suc n) = ap (λ a. a +ℤ pos 0) (sum-zero n)

pub sum-+ : (n : ℕ) (f g : ℕ → ℤ) → sum n (λ i. f i +ℤ g i) ≡ sum n f +ℤ sum n g
unfolding sum
sum-+ zero f g = refl
sum-+ (suc n) f g = ap (λ a. a +ℤ (f n +ℤ g n)) (sum-+ n f g) ∙ +ℤ_mix (sum n f) (sum n g) (f n) (g n)

pub sum-neg : (n : ℕ) (f : ℕ → ℤ) → sum n (λ i. neg_ℤ (f i)) ≡ neg_ℤ (sum n f)
unfolding sum
sum-neg zero f = refl
sum-neg (suc n) f = ap (λ a. a +ℤ neg_ℤ (f n)) (sum-neg n f) ∙ sym (neg_ℤ-+ℤ (sum n f) (f n))

pub sum-sub : (n : ℕ) (f g : ℕ → ℤ) → sum n (λ i. f i -ℤ g i) ≡ sum n f -ℤ sum n g
sum-sub n f g = sum-+ n f (λ i. neg_ℤ (g i)) ∙ ap (λ a. sum n f +ℤ a) (sum-neg n g)

pub sum_scale : (n : ℕ) (c : ℤ) (f : ℕ → ℤ) → sum n (λ i. c *ℤ f i) ≡ c *ℤ sum n f
unfolding sum
sum_scale zero c f = sym (*ℤ-zero c)
sum_scale (suc n) c f = ap (λ a. a +ℤ c *ℤ f n) (sum_scale n c f) ∙ sym (*ℤ-+ℤ c (sum n f) (f n))

pub sum_scale_r : (n : ℕ) (c : ℤ) (f : ℕ → ℤ) → sum n (λ i. f i *ℤ c) ≡ sum n f *ℤ c
sum_scale_r n c f = sum_ext n (λ i h. *ℤ_comm (f i) c) ∙ sum_scale n c f ∙ *ℤ_comm c (sum n f)

-- the first n terms and the next m
pub sum_split : (n m : ℕ) (f : ℕ → ℤ) → sum (n + m) f ≡ sum n f +ℤ sum m (λ i. f (n + i))
unfolding sum
sum_split n zero f = rw (add-zero) (sym (+ℤ_idr (sum n f)))
sum_split n (suc m) f = rw (add-suc) (ap (λ a. a +ℤ f (n + m)) (sum_split n m f) ∙ +ℤ_assoc (sum n f) (sum m (λ i. f (n + i))) (f (n + m)))

pub sum_swap : (n m : ℕ) (f : ℕ → ℕ → ℤ) → sum n (λ i. sum m (λ j. f i j)) ≡ sum m (λ j. sum n (λ i. f i j))
unfolding sum
sum_swap zero m f = sym (sum-zero m)
sum_swap (suc n) m f = ap (λ a. a +ℤ sum m (f n)) (sum_swap n m f) ∙ sym (sum-+ m (λ j. sum n (λ i. f i j)) (f n))

-- the size of a sum
pub nat_abs-sum : (n B : ℕ) (f : ℕ → ℤ) → ((i : ℕ) → i < n → nat_abs (f i) ≤ B) → nat_abs (sum n f) ≤ n * B
unfolding sum
nat_abs-sum zero B f h = zero-le
nat_abs-sum (suc n) B f h = omega (arith, nat_abs-+ (sum n f) (f n), nat_abs-sum n B f (λ i k. h i (omega arith)), h n (omega arith))

-- one term: the others are 0
pub delta-same : (k : ℕ) → delta k k ≡ pos 1
unfolding delta
delta-same k = rw (eq-eqb k k refl)

pub delta_other : (k j : ℕ) → (j ≡ k → ⊥) → delta k j ≡ pos 0
unfolding delta
delta_other k j h = rw (ne_eqb j k h)

pub sum-none : (n k : ℕ) (f : ℕ → ℤ) → n ≤ k → sum n (λ j. delta k j *ℤ f j) ≡ pos 0
sum-none n k f h = sum_ext n (λ j l. ap (λ a. a *ℤ f j) (delta_other k j (omega arith)) ∙ zero-*ℤ (f j)) ∙ sum-zero n

pub sum-delta : (n k : ℕ) (f : ℕ → ℤ) → k < n → sum n (λ j. delta k j *ℤ f j) ≡ f k
unfolding sum
sum-delta zero k f h = absurd (omega arith)
sum-delta (suc n) k f h = elim (ℕ_discrete n k) [
  | yes e ↦ ap₂ (λ a b. a +ℤ b *ℤ f n) (sum-none n k f (omega arith)) (ap (delta k) e ∙ delta-same k) ∙ simp (+ℤ_idl, one-*ℤ) (ap f e)
  | no e ↦ ap₂ (λ a b. a +ℤ b *ℤ f n) (sum-delta n k f (omega arith)) (delta_other k n e) ∙ simp (zero-*ℤ, +ℤ_idr)
]

-- a sum of which one term counts
pub sum_only : (n k : ℕ) (f : ℕ → ℤ) → k < n → ((i : ℕ) → i < n → (i ≡ k → ⊥) → f i ≡ pos 0) → sum n f ≡ f k
sum_only n k f h none = sum_ext n each ∙ sum-delta n k f h
  where
    each : (i : ℕ) → i < n → f i ≡ delta k i *ℤ f i
    each i l = elim (ℕ_discrete i k) [
      | yes e ↦ sym (ap (λ a. a *ℤ f i) (ap (delta k) e ∙ delta-same k) ∙ one-*ℤ (f i))
      | no e ↦ none i l e ∙ sym (ap (λ a. a *ℤ f i) (delta_other k i e) ∙ zero-*ℤ (f i))
    ]

-- a sum of which one term changes
pub sum_changed : (n k : ℕ) (f g : ℕ → ℤ) → k < n → ((i : ℕ) → i < n → (i ≡ k → ⊥) → g i ≡ f i) → sum n g ≡ sum n f +ℤ (g k -ℤ f k)
sum_changed n k f g h same =
    sum_ext n (λ i l. elim (ℕ_discrete i k) [ yes e ↦ here i e | no e ↦ there i l e ])
    ∙ sum-+ n f (λ i. delta k i *ℤ (g i -ℤ f i)) ∙ ap (λ z. sum n f +ℤ z) (sum-delta n k (λ i. g i -ℤ f i) h)
  where
    here : (i : ℕ) → i ≡ k → g i ≡ f i +ℤ delta k i *ℤ (g i -ℤ f i)
    here i e = rw (ap (delta k) e ∙ delta-same k) (without (g i) (f i))
      where
        without : (a b : ℤ) → a ≡ b +ℤ pos 1 *ℤ (a -ℤ b)
        without a b = simp ring

    there : (i : ℕ) → i < n → (i ≡ k → ⊥) → g i ≡ f i +ℤ delta k i *ℤ (g i -ℤ f i)
    there i l e = same i l e ∙ sym (ap (λ d. f i +ℤ d *ℤ (g i -ℤ f i)) (delta_other k i e) ∙ ap (λ z. f i +ℤ z) (zero-*ℤ (g i -ℤ f i)) ∙ +ℤ_idr (f i))

-- a whole turn may start anywhere
turn : (p r : ℕ) (f : ℕ → ℤ) → 0 < p → sum (p + r) (λ j. f ((j + r) % (p + r))) ≡ sum (p + r) f
turn p r f h =
    sum_split p r (λ j. f ((j + r) % (p + r)))
    ∙ ap₂ (λ a b. a +ℤ b) (sum_ext p first) (sum_ext r last)
    ∙ +ℤ_comm (sum p (λ j. f (r + j))) (sum r f) ∙ sym (sum_split r p f) ∙ ap (λ n. sum n f) (add_comm r p)
  where
    first : (j : ℕ) → j < p → f ((j + r) % (p + r)) ≡ f (r + j)
    first j k = ap f (mod-eq_of_lt (omega arith) ∙ add_comm j r)

    around : (j : ℕ) → p + j + r ≡ j + (p + r)
    around j = omega arith

    last : (j : ℕ) → j < r → f ((p + j + r) % (p + r)) ≡ f j
    last j k = ap f (ap (λ n. n % (p + r)) (around j) ∙ add-mod_right j (p + r) ∙ mod-eq_of_lt (omega arith))

pub sum-turn : (P d : ℕ) (f : ℕ → ℤ) → sum P (λ j. f ((j + d) % P)) ≡ sum P f
unfolding sum
sum-turn zero d f = refl
sum-turn (suc P) d f =
    sum_ext (suc P) (λ j h. ap f (sym (add-mod-mod j d (suc P))))
    ∙ subst (λ n. sum n (λ j. f ((j + r) % n)) ≡ sum n f) whole (turn (suc P - r) r f (omega (arith, below)))
  where
    r : ℕ
    r = d % suc P

    below : r < suc P
    below = mod-lt d (omega arith)

    whole : suc P - r + r ≡ suc P
    whole = omega (arith, below)

-- two halves, and the even and the odd terms
pub sum_halves : (n : ℕ) (f : ℕ → ℤ) → sum (n + n) f ≡ sum n (λ i. f i +ℤ f (n + i))
sum_halves n f = sum_split n n f ∙ sym (sum-+ n f (λ i. f (n + i)))

pub sum_pairs : (n : ℕ) (f : ℕ → ℤ) → sum (2 * n) f ≡ sum n (λ i. f (2 * i) +ℤ f (2 * i + 1))
unfolding sum
sum_pairs zero f = refl
sum_pairs (suc n) f =
    ap (λ k. sum k f) (two_more n) ∙ +ℤ_assoc (sum (2 * n) f) (f (2 * n)) (f (suc (2 * n)))
    ∙ ap₂ (λ a b. a +ℤ (f (2 * n) +ℤ b)) (sum_pairs n f) (ap f (sym (add-one (2 * n))))
  where
    two_more : (n : ℕ) → 2 * suc n ≡ suc (suc (2 * n))
    two_more n = omega arith

-- ---- sums of naturals

pub total_front : (n : ℕ) (f : ℕ → ℕ) → total (suc n) f ≡ f 0 + total n (λ i. f (suc i))
unfolding total
total_front zero f = omega arith
total_front (suc n) f = omega (arith, total_front n f)

pub total_ext : (n : ℕ) {f g : ℕ → ℕ} → ((i : ℕ) → i < n → f i ≡ g i) → total n f ≡ total n g
unfolding total
total_ext zero h = refl
total_ext (suc n) h = ap₂ ◌+◌ (total_ext n (λ i l. h i (omega arith))) (h n (omega arith))

pub pos-total : (n : ℕ) (f : ℕ → ℕ) → pos (total n f) ≡ sum n (λ i. pos (f i))
unfolding sum total
pos-total zero f = refl
pos-total (suc n) f = ap (λ a. a +ℤ pos (f n)) (pos-total n f)

pub total-le : (n B : ℕ) (f : ℕ → ℕ) → ((i : ℕ) → i < n → f i ≤ B) → total n f ≤ n * B
unfolding total
total-le zero B f h = zero-le
total-le (suc n) B f h = omega (arith, total-le n B f (λ i k. h i (omega arith)), h n (omega arith))

-- terms that are at most B times others
pub total_scaled : (n B : ℕ) (f g : ℕ → ℕ) → ((i : ℕ) → i < n → f i ≤ B * g i) → total n f ≤ B * total n g
unfolding total
total_scaled zero B f g h = zero-le
total_scaled (suc n) B f g h =
    omega (arith, total_scaled n B f g (λ i k. h i (omega arith)), h n (omega arith), mul-add B (total n g) (g n))

pub nat_abs-total : (n : ℕ) (f : ℕ → ℤ) → nat_abs (sum n f) ≤ total n (λ i. nat_abs (f i))
unfolding sum total
nat_abs-total zero f = zero-le
nat_abs-total (suc n) f = omega (arith, nat_abs-+ (sum n f) (f n), nat_abs-total n f)

pub total_changed : (n k : ℕ) (f g : ℕ → ℕ) → k < n → ((i : ℕ) → i < n → (i ≡ k → ⊥) → g i ≡ f i) → total n g + f k ≡ total n f + g k
unfolding total
total_changed zero k f g h same = absurd (omega arith)
total_changed (suc n) k f g h same = elim (ℕ_discrete n k) [
  | yes e ↦ last e (total_ext n (λ i l. same i (omega arith) (λ q. omega arith)))
  | no e ↦ omega (arith, total_changed n k f g (omega arith) (λ i l. same i (omega arith)), same n (omega arith) e)
]
  where
    last : n ≡ k → total n g ≡ total n f → total n g + g n + f k ≡ total n f + f n + g k
    last e t = rw (sym e) (omega arith)

pub total_only : (n k : ℕ) (f : ℕ → ℕ) → k < n → ((i : ℕ) → i < n → (i ≡ k → ⊥) → f i ≡ 0) → total n f ≡ f k
total_only n k f h none = ap nat_abs (pos-total n f ∙ sum_only n k (λ i. pos (f i)) h (λ i l e. ap pos (none i l e)))
