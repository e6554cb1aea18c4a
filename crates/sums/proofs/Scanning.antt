-- A scan from the last place to the first: of those passed, the number at the first place where it counts the most. Assumes nothing.
use mathlib.Core.Path.{◌≡◌, refl, sym, ap, subst, ◌∙◌}
use mathlib.Core.Bool.{Bool, true, false, cond}
use Prim.Native.Nat.{ℕ, suc, ◌≤◌, ◌<◌}
use native.Mathlib.Decide.{ℕ_discrete}
use native.Mathlib.Omega.{arith}
use lib.Dec.{T}
use lib.IntN.{ℤ}
use lib.Signed.{le_z}
use Rattle.sums.specs.Lists.{every}
use Rattle.sums.proofs.Everywhere.{every-at, every_all}
use Rattle.sums.proofs.Seek.{First, seek-first, first_unique}
use Rattle.sums.proofs.Equal.{le_z_refl, le_z_trans, le_z-turn}
use Rattle.sums.specs.Largest.{largest_at}

module _ (g : ℤ → ℤ) (r : ℕ → ℤ) (n : ℕ) where
  -- z is r at the first of the places from k on at which g of it is largest
  pub record Best (k : ℕ) (z : ℤ) : Type 0 where
    pub place : ℕ
    pub from : k ≤ place
    pub to : place < n
    pub is : z ≡ r place
    pub most : (i : ℕ) → k ≤ i → i < n → le_z (g (r i)) (g z) ≡ true
    pub before : (i : ℕ) → k ≤ i → i < place → le_z (g z) (g (r i)) ≡ false

  -- of the last place alone
  pub best_one : {k : ℕ} {z : ℤ} → suc k ≡ n → z ≡ r k → Best k z
  best_one {k} {z} e h =
      record {
        place = k;
        from = omega arith;
        to = omega arith;
        is = h;
        most = λ i a l. let q : i ≡ k = omega arith in ap (λ x. le_z (g x) (g z)) (ap r q ∙ sym h) ∙ le_z_refl (g z);
        before = λ i a l. absurd (omega arith);
      }

  -- one place more: its number is taken where it counts at least as much
  pub best_more : {k : ℕ} {x y z : ℤ} → Best (suc k) z → y ≡ r k → x ≡ cond (le_z (g z) (g y)) y z → Best k x
  best_more {k} {x} {y} {z} b h e = rw e (go (le_z (g z) (g y)) refl)
    where
      go : (t : Bool) → le_z (g z) (g y) ≡ t → Best k (cond t y z)
      go true t =
          record {
            place = k;
            from = omega arith;
            to = omega (arith, b.from, b.to);
            is = h;
            most =
                λ i a l. elim (ℕ_discrete i k) [
                  | yes q ↦ ap (λ v. le_z (g v) (g y)) (ap r q ∙ sym h) ∙ le_z_refl (g y)
                  | no q ↦ le_z_trans (g (r i)) (g z) (g y) (b.most i (omega arith) l) t
                ];
            before = λ i a l. absurd (omega arith);
          }
      go false t =
          record {
            place = b.place;
            from = omega (arith, b.from);
            to = b.to;
            is = b.is;
            most =
                λ i a l. elim (ℕ_discrete i k) [
                  | yes q ↦ ap (λ v. le_z (g v) (g z)) (ap r q ∙ sym h) ∙ le_z-turn (g z) (g y) t
                  | no q ↦ b.most i (omega arith) l
                ];
            before =
                λ i a l. elim (ℕ_discrete i k) [
                  | yes q ↦ ap (λ v. le_z (g z) (g v)) (ap r q ∙ sym h) ∙ t
                  | no q ↦ b.before i (omega arith) l
                ];
          }

  -- of all places
  pub best_all : {z : ℤ} → Best 0 z → z ≡ r (largest_at n (λ i. g (r i)))
  best_all {z} b = b.is ∙ ap r (first_unique test sought (seek-first test n 0))
    where
      test : ℕ → Bool
      test k = every n (λ i. le_z (g (r i)) (g (r k)))

      -- a test that fails at the place of z
      fails : (i : ℕ) → le_z (g z) (g (r i)) ≡ false → (t : Bool) → test i ≡ t → t ≡ false
      fails i h true t =
          absurd
          (subst T
          (sym (every-at n (λ j. le_z (g (r j)) (g (r i))) t b.place b.to) ∙ ap (λ v. le_z (g v) (g (r i))) (sym b.is) ∙ h) tt)
      fails i h false t = refl

      sought : First test n 0 b.place
      sought =
          record {
            from = omega arith;
            to = omega (arith, b.to);
            before = λ i a l. fails i (b.before i a l) (test i) refl;
            here = λ _. every_all n (λ i. le_z (g (r i)) (g (r b.place))) (λ i l. ap (λ v. le_z (g (r i)) (g v)) (sym b.is) ∙ b.most i (omega arith) l);
          }
