-- A loop that at turn i writes one number in each of several parts of a list, and leaves the others: v₀ after its first i turns. Assumes nothing.
use mathlib.Core.Path.{◌≡◌, refl, ◌∙◌}
use mathlib.Core.Logic.{◌≢◌}
use mathlib.Core.List.{List}
use Prim.Native.Nat.{ℕ, ◌+◌, ◌<◌, ◌≤◌}
use native.Mathlib.Omega.{arith}
use native.Mathlib.Decide.{ℕ_discrete}
use lib.ListN.{length, set, length-set}
use lib.Seq.{get_or-set_same, get_or-set_other}
use lib.IntN.{ℤ, pos}
use Rattle.sums.specs.Lists.{at}

-- `place j k` is where number k of part j is, `new j k` what becomes of it, and q how long each part is
module _ {J : Type 0} (place : J → ℕ → ℕ) (new : J → ℕ → ℤ) (q : ℕ) (v₀ : List ℤ) where
  pub record Turned (i : ℕ) (v : List ℤ) : Type 0 where
    pub long : length v ≡ length v₀
    pub done : (j : J) (k : ℕ) → k < i → at v (place j k) ≡ new j k
    pub kept : (j : J) (k : ℕ) → i ≤ k → k < q → at v (place j k) ≡ at v₀ (place j k)

  pub turned_none : Turned 0 v₀
  turned_none = record { long = refl; done = λ j k h. absurd (none k h); kept = λ j k a h. refl }
    where
      none : (k : ℕ) → k < 0 → ⊥
      none k h = omega arith

  -- one turn, which makes w of v
  pub turned_more : {i : ℕ} {v : List ℤ} (w : List ℤ) → Turned i v → i < q → length w ≡ length v → ((j : J) → at w (place j i) ≡ new j i)
      → ((j : J) (k : ℕ) → k < q → k ≢ i → at w (place j k) ≡ at v (place j k)) → Turned (i + 1) w
  turned_more {i} {v} w t lt len here others = record {
    long = len ∙ t.long;
    done = λ j k h. each j k h (ℕ_discrete k i);
    kept = λ j k a h. others j k h (λ e. omega arith) ∙ t.kept j k (omega arith) h;
  }
    where
      each : (j : J) (k : ℕ) → k < i + 1 → Dec (k ≡ i) → at w (place j k) ≡ new j k
      each j k h (yes e) = rw e (here j)
      each j k h (no ne) = others j k (omega arith) ne ∙ t.done j k (omega arith)

-- ---- two stores, at i and at j

module _ (v : List ℤ) (i j : ℕ) (x y : ℤ) where
  pub first_stored : i ≢ j → i < length v → at (set (set v i x) j y) i ≡ x
  first_stored ne h = get_or-set_other (set v i x) j i y (pos 0) ne ∙ get_or-set_same v i x (pos 0) h

  pub second_stored : j < length v → at (set (set v i x) j y) j ≡ y
  second_stored h = get_or-set_same (set v i x) j y (pos 0) (omega (arith, length-set v i x))

  pub neither_stored : (k : ℕ) → k ≢ i → k ≢ j → at (set (set v i x) j y) k ≡ at v k
  neither_stored k p r = get_or-set_other (set v i x) j k y (pos 0) r ∙ get_or-set_other v i k x (pos 0) p
