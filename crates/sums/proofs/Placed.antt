-- Numbers stored one by one, each at a place of its own and in any order: each store keeps those before it. Assumes nothing.
use mathlib.Core.Path.{◌≡◌, refl, sym, ap, ◌∙◌}
use mathlib.Core.List.{List}
use Prim.Native.Nat.{ℕ, ◌≤◌, ◌<◌}
use native.Mathlib.Decide.{ℕ_discrete}
use native.Mathlib.Omega.{arith}
use lib.ListN.{length, get_or, set, length-set}
use lib.Seq.{get_or-set_same, get_or-set_other}
use Rattle.sums.specs.Lists.{table, put}
use Rattle.sums.proofs.Tables.{by_places}

module _ {A : Type 0} where
  -- s is d with y j at `place j` for each j below n that is done; where none of these places is, it is as it was
  pub record Placed (z : A) (n : ℕ) (place : ℕ → ℕ) (y : ℕ → A) (done : ℕ → Type 0) (d s : List A) : Type 0 where
    pub long : length s ≡ length d
    pub each : (j : ℕ) → done j → j < n → get_or s (place j) z ≡ y j
    pub rest : (i : ℕ) → ((j : ℕ) → j < n → i ≡ place j → ⊥) → get_or s i z ≡ get_or d i z

module _ {A : Type 0} {z : A} {n : ℕ} {place : ℕ → ℕ} {y : ℕ → A} {d : List A} where
  pub placed_none : {done : ℕ → Type 0} → ((j : ℕ) → done j → j < n → ⊥) → Placed z n place y done d d
  placed_none none = record { long = refl; each = λ j h l. absurd (none j h l); rest = λ i h. refl }

  module _ (apart : (i j : ℕ) → i < n → j < n → place i ≡ place j → i ≡ j) where
    -- y k at its place
    pub placed_more : {before : ℕ → Type 0} {s : List A} (done : ℕ → Type 0) (k : ℕ) {p : ℕ} {x : A} → Placed z n place y before d s
        → k < n → p < length d → p ≡ place k → x ≡ y k → ((j : ℕ) → done j → j < n → (j ≡ k → ⊥) → before j) → Placed z n place y done d (set s p x)
    placed_more {before} {s} done k {p} {x} b l room e f covered =
        record {
          long = length-set s p x ∙ b.long;
          each = λ j h m. elim (ℕ_discrete j k) [
            | yes q ↦ ap (λ i. get_or (set s p x) (place i) z) q ∙ ap (λ i. get_or (set s p x) i z) (sym e) ∙ get_or-set_same s p x z (omega (arith, b.long)) ∙ f ∙ ap y (sym q)
            | no q ↦ get_or-set_other s p (place j) x z (λ r. q (apart j k m l (r ∙ e))) ∙ b.each j (covered j h m q) m
          ];
          rest = λ i h. get_or-set_other s p i x z (λ r. h k l (r ∙ e)) ∙ b.rest i h;
        }

    -- y k and y l at theirs
    pub placed_two : {before : ℕ → Type 0} {s : List A} (done : ℕ → Type 0) (k l : ℕ) {p q : ℕ} {a b : A} → Placed z n place y before d s
        → (k < n) × (l < n) → (p < length d) × (q < length d) → (p ≡ place k) × (q ≡ place l) → (a ≡ y k) × (b ≡ y l)
        → ((j : ℕ) → done j → j < n → (j ≡ k → ⊥) → (j ≡ l → ⊥) → before j) → Placed z n place y done d (set (set s p a) q b)
    placed_two done k l w h room e f covered =
        placed_more done l (placed_more (λ j. done j × (j ≡ l → ⊥)) k w h.0 room.0 e.0 f.0 (λ j g m o. covered j g.0 m o g.1))
        h.1 room.1 e.1 f.1 (λ j g m o. (g, o))

-- each at the place of its own number
pub placed_all : {A : Type 0} {z : A} {n : ℕ} {f : ℕ → A} {d s : List A} {done : ℕ → Type 0} → Placed z n (λ i. i) f done d s → n ≤ length d
    → ((i : ℕ) → i < n → done i) → s ≡ put (table n f) d
placed_all {z = z} {n = n} {f = f} {d = d} {s = s} p room every =
    by_places z n f d s room p.long (λ i l. p.each i (every i l) l) (λ i h. p.rest i (λ j l e. omega arith))
