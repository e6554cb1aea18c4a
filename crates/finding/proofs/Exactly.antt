-- What a recording is found to be, said of its samples. It is overloaded at the first that is at a rail; dead where none is and no two are more than 7
-- apart; kept where none is and two are more than 7 apart. One of these holds of every recording, and only one. Assumes nothing.
use mathlib.Core.Path.{◌≡◌, refl, sym, ap, subst, ◌∙◌}
use mathlib.Core.Logic.{◌↔◌, ◌⊎◌}
use mathlib.Core.Bool.{Bool, true, false, cond}
use mathlib.Core.List.{List}
use Prim.Native.Nat.{ℕ, ◌≤◌, ◌<◌}
use native.Mathlib.Decide.{dec_lt}
use native.Mathlib.Omega.{arith}
use borrow.Author.Tests.{ltb-true, ltb-false}
use lib.Dec.{T, ltb}
use lib.IntN.{ℤ, pos}
use lib.ListN.{length, take}
use lib.Seq.{length-take-le, get_or-take}
use Rattle.sums.specs.Lists.{at}
use Rattle.sums.proofs.Everywhere.{never_true}
use Rattle.sums.proofs.Largest.{Near, Apart, spread_exactly, spread_far}
use Rattle.sums.proofs.Seek.{First, seek-first}
use Rattle.sums.proofs.Somewhere.{none_of}
use Rattle.samples.specs.Samples.{lowest, highest, rail, sample_out, some_out, inside}
use Rattle.samples.proofs.Rails.{rail_exactly, between}
use Rattle.finding.specs.Finding.{rail_place, dead_spread, still, judged, finding}
use Rattle.std.proofs.Common.{Some, None}
use Rattle.finding.specs.declared.Finding.{Finding}
use Rattle.finding.specs.declared.Finding.TheVariants as found

-- ---- the three, in words

abbrev pub AtRail : ℤ → Type 0
AtRail z = (z ≡ lowest) ⊎ (z ≡ highest)

abbrev pub Clear : List ℤ → Type 0
Clear y = (j : ℕ) → j < length y → AtRail (at y j) → ⊥

pub record FirstAtRail (y : List ℤ) (p : ℕ) : Type 0 where
  pub within : p < length y
  pub here : AtRail (at y p)
  pub before : (j : ℕ) → j < p → AtRail (at y j) → ⊥

abbrev pub Found : List ℤ → Finding → Type 0
Found y (found.Overloaded p) = FirstAtRail y p
Found y found.Dead = Clear y × Near dead_spread (length y) (at y)
Found y found.Kept = Clear y × Apart dead_spread (length y) (at y)

-- ---- no two of them

near_apart : {d n : ℕ} {f : ℕ → ℤ} → Near d n f → Apart d n f → ⊥
near_apart near a = omega (arith, near a.one a.other a.one-within a.other_within, a.far)

only : (y : List ℤ) (f g : Finding) → Found y f → Found y g → f ≡ g
only y (found.Overloaded p) (found.Overloaded q) a b = ap found.Overloaded (elim (dec_lt p q) [
  | yes l ↦ absurd (b.before p l a.here)
  | no k ↦ elim (dec_lt q p) [ yes l ↦ absurd (a.before q l b.here) | no l ↦ omega arith ]
])
only y (found.Overloaded p) found.Dead a b = absurd (b.0 p a.within a.here)
only y (found.Overloaded p) found.Kept a b = absurd (b.0 p a.within a.here)
only y found.Dead (found.Overloaded q) a b = absurd (a.0 q b.within b.here)
only y found.Dead found.Dead a b = refl
only y found.Dead found.Kept a b = absurd (near_apart a.1 b.1)
only y found.Kept (found.Overloaded q) a b = absurd (a.0 q b.within b.here)
only y found.Kept found.Dead a b = absurd (near_apart b.1 a.1)
only y found.Kept found.Kept a b = refl

-- ---- one of them

module _ (y : List ℤ) where
  rails : First (λ j. rail (at y j)) (length y) 0 (rail_place y)
  rails = seek-first (λ j. rail (at y j)) (length y) 0

  no_rail : (j : ℕ) → j < rail_place y → AtRail (at y j) → ⊥
  no_rail j l r = subst T (sym ((rail_exactly (at y j)).1 r) ∙ rails.before j (omega arith) l) tt

  by_spread : Clear y → (b : Bool) → still y ≡ b → Found y (judged None b)
  by_spread none true s = (none, (spread_exactly dead_spread (length y) (at y)).0 s)
  by_spread none false s = (none, spread_far dead_spread (length y) (at y) s)

  by_rail : (b : Bool) → ltb (rail_place y) (length y) ≡ b → Found y (judged (cond b (Some (rail_place y)) None) (still y))
  by_rail true e =
      let l = ltb-true (rail_place y) (length y) e in
      record { within = l; here = (rail_exactly (at y (rail_place y))).0 (rails.here (omega arith)); before = no_rail }
  by_rail false e = by_spread (λ j l. no_rail j (omega (arith, ltb-false (rail_place y) (length y) e))) (still y) refl

  pub one_of_three : Found y (finding y)
  unfolding finding
  one_of_three = by_rail (ltb (rail_place y) (length y)) refl

  pub found_exactly : (f : Finding) → (finding y ≡ f) ↔ Found y f
  found_exactly f = (λ e. subst (Found y) e one_of_three, only y (finding y) f one_of_three)

-- ---- a recording in range that is kept

-- every sample lies between the rails
pub kept_inside : (y : List ℤ) → finding y ≡ found.Kept → some_out (length y) (at y) ≡ false → (j : ℕ) → j < length y → inside (at y j) ≡ true
kept_inside y e range j l =
    between (at y j) (none_of (λ i. sample_out (at y i)) (length y) range j l)
    (never_true (rail (at y j)) (λ r. ((found_exactly y found.Kept).0 e).0 j l ((rail_exactly (at y j)).0 r)))

-- ---- a front of a recording

-- where its samples are too far apart, so are those of the whole
pub front_moves : (n : ℕ) (y : List ℤ) → n ≤ length y → still (take n y) ≡ false → still y ≡ false
front_moves n y l h =
    never_true (still y) (λ e.
    near_apart ((spread_exactly dead_spread (length y) (at y)).0 e) (whole (spread_far dead_spread (length (take n y)) (at (take n y)) h)))
  where
    -- a place of the front
    early : {i : ℕ} → i < length (take n y) → i < n
    early k = omega (arith, length-take-le n y l)

    whole : Apart dead_spread (length (take n y)) (at (take n y)) → Apart dead_spread (length y) (at y)
    whole a =
        let p = early a.one-within in
        let q = early a.other_within in
        record {
          one = a.one;
          other = a.other;
          one-within = omega (arith, p);
          other_within = omega (arith, q);
          far = rw (get_or-take n y a.one (pos 0) p, get_or-take n y a.other (pos 0) q) at a.far;
        }
