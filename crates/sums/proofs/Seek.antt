-- The first place at which a test holds: none before it does, and it does where it is within what was sought. A loop that looks at place after
-- place finds it. Assumes nothing.
use mathlib.Core.Path.{◌≡◌, refl, sym, ap, ◌∙◌}
use mathlib.Core.Bool.{Bool, true, false, cond}
use Prim.Native.Nat.{ℕ, zero, suc, ◌+◌, ◌-◌, ◌≤◌, ◌<◌}
use native.Mathlib.Numerals.{add-one}
use native.Mathlib.Decide.{ℕ_discrete, dec_lt}
use native.Mathlib.Omega.{arith}
use Rattle.sums.specs.Lists.{seek}

true_not_false : {b : Bool} → b ≡ true → b ≡ false → ⊥
true_not_false p q = let z : ◌≡◌ {A = ℕ} 0 1 = ap (λ b. cond b 0 1) (sym p ∙ q) in omega arith

module _ (test : ℕ → Bool) where
  pub seek_here : (n k : ℕ) → test k ≡ true → seek test (suc n) k ≡ k
  unfolding seek
  seek_here n k t = rw t

  pub seek_past : (n k : ℕ) → test k ≡ false → seek test (suc n) k ≡ seek test n (suc k)
  unfolding seek
  seek_past n k t = rw t

  -- from k on, n places: r is the first
  pub record First (n k r : ℕ) : Type 0 where
    pub from : k ≤ r
    pub to : r ≤ k + n
    pub before : (i : ℕ) → k ≤ i → i < r → test i ≡ false
    pub here : r < k + n → test r ≡ true

  pub seek-first : (n k : ℕ) → First n k (seek test n k)
  unfolding seek
  seek-first zero k = record { from = omega arith; to = omega arith; before = λ i a b. absurd (omega arith); here = λ a. absurd (omega arith) }
  seek-first (suc n) k = go (test k) refl (seek-first n (suc k))
    where
      go : (b : Bool) → test k ≡ b → First n (suc k) (seek test n (suc k)) → First (suc n) k (cond b k (seek test n (suc k)))
      go true t f = record { from = omega arith; to = omega arith; before = λ i a b. absurd (omega arith); here = λ a. t }
      go false t f =
          record {
            from = omega (arith, f.from);
            to = omega (arith, f.to);
            before = λ i a b. elim (ℕ_discrete i k) [ yes e ↦ ap test e ∙ t | no e ↦ f.before i (omega arith) b ];
            here = λ a. f.here (omega arith);
          }

  -- there is only one first place
  pub first_unique : {n k r s : ℕ} → First n k r → First n k s → r ≡ s
  first_unique {n} {k} {r} {s} f g = elim (dec_lt r s) [
    | yes l ↦ absurd (less f g l)
    | no a ↦ elim (dec_lt s r) [ yes l ↦ absurd (less g f l) | no b ↦ omega arith ]
  ]
    where
      less : {p q : ℕ} → First n k p → First n k q → p < q → ⊥
      less {p} {q} a b l = true_not_false (a.here (omega (arith, b.to))) (b.before p a.from l)

-- ---- a loop that looks at place after place

module _ (test : ℕ → Bool) where
  -- what is sought lies from place s on
  abbrev pub Ahead : ℕ → ℕ → Type 0
  Ahead n s = seek test n 0 ≡ seek test (n - s) s

  pub ahead_none : (n : ℕ) → Ahead n 0
  ahead_none n = ap (λ k. seek test k 0) (omega arith)

  next : {n s : ℕ} → s < n → Ahead n s → seek test n 0 ≡ seek test (suc (n - suc s)) s
  next {n} {s} l h = h ∙ ap (λ k. seek test k s) (omega arith)

  pub ahead_more : {n s : ℕ} → s < n → Ahead n s → test s ≡ false → Ahead n (s + 1)
  ahead_more {n} {s} l h t = rw add-one (next l h ∙ seek_past test (n - suc s) s t)

  pub ahead_here : {n s : ℕ} → s < n → Ahead n s → test s ≡ true → s ≡ seek test n 0
  ahead_here {n} {s} l h t = sym (next l h ∙ seek_here test (n - suc s) s t)

  pub ahead_end : {n s : ℕ} → n ≤ s → Ahead n s → s ≡ seek test n 0
  unfolding seek
  ahead_end {n} {s} l h = let e : n - s ≡ 0 = omega arith in sym (h ∙ ap (λ k. seek test k s) e)
