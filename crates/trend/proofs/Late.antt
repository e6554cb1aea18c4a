-- Document 02, request 8: of a response turned by d, highest and lowest are the same, and the peak is the same in size. The peak is the same unless two of the
-- largest places have opposite signs, and where they have, some d gives it the other sign. So of the levels, whatever the divisor. Assumes nothing.
use mathlib.Core.Path.{◌≡◌, refl, sym, ap, subst, ◌∙◌}
use mathlib.Core.Logic.{◌⊎◌, inl, inr, ⊎_elim}
use mathlib.Core.Bool.{Bool, true}
use Prim.Native.Nat.{ℕ, zero, suc, ◌+◌, ◌%◌, ◌≤◌, ◌<◌, ◌^◌}
use native.Mathlib.Nat.{zero-add, mod-lt, mod-eq_of_lt}
use native.Mathlib.Omega.{arith}
use borrow.Author.Tests.{le-leb, leb-true, lt-ltb, ltb-true}
use lib.Dec.{T}
use lib.IntN.{ℤ, pos, negsuc, neg_ℤ, nat_abs, ◌-ℤ◌}
use lib.Ieee.{neg}
use lib.Signed.{lt_z, le_z}
use Rattle.sums.specs.Lists.{every}
use Rattle.sums.specs.Largest.{largest_at}
use Rattle.sums.specs.Turned.{turned}
use Rattle.sums.proofs.Everywhere.{every_all}
use Rattle.sums.proofs.Largest.{largest-within, largest_is, smallest_is}
use Rattle.sums.proofs.Reordered.{Reordered, taken_from, largest_reordered, smallest_reordered, reordered_by}
use Rattle.sums.proofs.Seek.{seek_here}
use Rattle.trend.specs.Calls.{extremes_of, level, levels_of}
use Rattle.trend.specs.declared.Levels.{Levels}
use Rattle.trend.proofs.Leveling.{peak_is}
use Rattle.trend.proofs.LevelSign.{level_negative, level_other}
use Rattle.trend.proofs.Opposed.{Opposed}

-- ---- the whole numbers

-- one above 0 and one below it
abbrev Apart : ℤ → ℤ → Type 0
Apart u v = (lt_z (pos 0) u ≡ true) × (lt_z v (pos 0) ≡ true)

-- two numbers of one size are the same, or each the other's negative
data Sized (u v : ℤ) : Type 0 where
  same : u ≡ v → Sized u v
  opposite : u ≡ neg_ℤ v → Apart u v ⊎ Apart v u → Sized u v

by_size : (u v : ℤ) → nat_abs u ≡ nat_abs v → Sized u v
by_size (pos a) (pos b) e = same (ap pos e)
by_size (negsuc a) (negsuc b) e = same (ap negsuc (omega arith))
by_size (pos zero) (negsuc b) e = absurd (omega arith)
by_size (pos (suc a)) (negsuc b) e = opposite (ap pos e) (inl (lt-ltb 0 (suc a) (omega arith), refl))
by_size (negsuc a) (pos zero) e = absurd (omega arith)
by_size (negsuc a) (pos (suc b)) e = opposite (ap negsuc (omega arith)) (inr (lt-ltb 0 (suc b) (omega arith), refl))

above_size : (z : ℤ) → lt_z (pos 0) z ≡ true → 0 < nat_abs z
above_size (pos a) h = ltb-true 0 a h
above_size (negsuc a) h = omega arith

not_both : (z : ℤ) → Apart z z → ⊥
not_both (pos a) h = omega (arith, ltb-true a 0 h.1)
not_both (negsuc a) h = subst T (sym h.0) tt

-- the place of the peak
abbrev peak_at : ℕ → (ℕ → ℤ) → ℕ
peak_at n r = largest_at n (λ k. pos (nat_abs (r k)))

-- a place with a number of the peak's size is one of the largest
as_large : (r : ℕ → ℤ) (n k : ℕ) → 0 < n → nat_abs (r k) ≡ nat_abs (extremes_of n r).peak → (i : ℕ) → i < n → nat_abs (r i) ≤ nat_abs (r k)
as_large r n k some e i l = omega (arith, peak_is r n some i l, e)

-- ---- in another order

module _ {n : ℕ} {r q : ℕ → ℤ} (o : Reordered n r q) (some : 0 < n) where
  pub same-highest : (extremes_of n q).highest ≡ (extremes_of n r).highest
  same-highest = largest_reordered o some

  pub same-lowest : (extremes_of n q).lowest ≡ (extremes_of n r).lowest
  same-lowest = smallest_reordered o some

  pub same_size : nat_abs (extremes_of n q).peak ≡ nat_abs (extremes_of n r).peak
  same_size = ap nat_abs (largest_reordered (reordered_by (λ z. pos (nat_abs z)) o) some)

  pub same_peak : (Opposed n r → ⊥) → (extremes_of n q).peak ≡ (extremes_of n r).peak
  same_peak none = go (by_size (r taken.0) (extremes_of n r).peak size)
    where
      within : (f : ℕ → ℤ) → peak_at n f < n
      within f = largest-within (λ k. pos (nat_abs (f k))) n some

      -- where r has the number that is q's peak
      taken : (i : ℕ) × (i < n) × ((extremes_of n q).peak ≡ r i)
      taken = taken_from o (peak_at n q) (within q)

      two : (i j : ℕ) → i < n → j < n → nat_abs (r i) ≡ nat_abs (extremes_of n r).peak → nat_abs (r j) ≡ nat_abs (extremes_of n r).peak → Apart (r i) (r j) → ⊥
      two i j h k e g a =
          none (record {
            one = i;
            other = j;
            one-within = h;
            other_within = k;
            one-largest = as_large r n i some e;
            other_largest = as_large r n j some g;
            above = a.0;
            below = a.1;
          })

      size : nat_abs (r taken.0) ≡ nat_abs (extremes_of n r).peak
      size = ap nat_abs (sym taken.2) ∙ same_size

      go : Sized (r taken.0) (extremes_of n r).peak → (extremes_of n q).peak ≡ (extremes_of n r).peak
      go (same e) = taken.2 ∙ e
      go (opposite e (inl a)) = absurd (two taken.0 (peak_at n r) taken.1 (within r) size refl a)
      go (opposite e (inr a)) = absurd (two (peak_at n r) taken.0 (within r) taken.1 refl size a)

-- ---- turned

-- turned by k, a largest place k comes first
peak_first : (P k : ℕ) (r q : ℕ → ℤ) → ((j : ℕ) → j < P → q j ≡ turned P k r j) → k < P → ((i : ℕ) → i < P → nat_abs (r i) ≤ nat_abs (r k))
    → (extremes_of P q).peak ≡ r k
peak_first zero k r q each l most = absurd (omega arith)
peak_first (suc P) k r q each l most = ap q (seek_here test P 0 (every_all (suc P) _ (λ i h. le-leb _ _ (most_first i h)))) ∙ front
  where
    test : ℕ → Bool
    test j = every (suc P) (λ i. le_z (pos (nat_abs (q i))) (pos (nat_abs (q j))))

    front : q 0 ≡ r k
    front = each 0 (omega arith) ∙ ap r (ap (λ n. n % suc P) (zero-add k) ∙ mod-eq_of_lt l)

    most_first : (i : ℕ) → i < suc P → nat_abs (q i) ≤ nat_abs (q 0)
    most_first i h = rw (each i h, front) (most ((i + k) % suc P) (mod-lt (i + k) (omega arith)))

-- turned by some d, the peak is the other way round, and it is not 0
pub record Turns (P : ℕ) (r : ℕ → ℤ) : Type 0 where
  pub by : ℕ
  pub by_within : by < P
  pub negative : (q : ℕ → ℤ) → ((j : ℕ) → j < P → q j ≡ turned P by r j) → (extremes_of P q).peak ≡ neg_ℤ (extremes_of P r).peak
  pub some : 0 < nat_abs (extremes_of P r).peak

-- the numbers at the two places are each the other's negative
opposite_numbers : {n : ℕ} {r : ℕ → ℤ} (o : Opposed n r) → r o.other ≡ neg_ℤ (r o.one)
opposite_numbers {n} {r} o = go (by_size (r o.other) (r o.one) sizes)
  where
    sizes : nat_abs (r o.other) ≡ nat_abs (r o.one)
    sizes = omega (arith, o.one-largest o.other o.other_within, o.other_largest o.one o.one-within)

    go : Sized (r o.other) (r o.one) → r o.other ≡ neg_ℤ (r o.one)
    go (same e) = absurd (not_both (r o.one) (o.above, subst (λ z. lt_z z (pos 0) ≡ true) e o.below))
    go (opposite e a) = e

module _ (P : ℕ) (r : ℕ → ℤ) (o : Opposed P r) where
  peak : ℤ
  peak = (extremes_of P r).peak

  -- all largest places have the peak's size
  sized : (k : ℕ) → k < P → ((i : ℕ) → i < P → nat_abs (r i) ≤ nat_abs (r k)) → nat_abs (r k) ≡ nat_abs peak
  unfolding peak
  sized k l most =
      omega (arith, most (peak_at P r) (largest-within (λ i. pos (nat_abs (r i))) P (omega arith)), peak_is r P (omega arith) k l)

  turns_by : (k : ℕ) → k < P → ((i : ℕ) → i < P → nat_abs (r i) ≤ nat_abs (r k)) → r k ≡ neg_ℤ peak → Turns P r
  unfolding peak
  turns_by k l most e =
      record {
        by = k;
        by_within = l;
        negative = λ q each. peak_first P k r q each l most ∙ e;
        some = omega (arith, sized o.one o.one-within o.one-largest, above_size (r o.one) o.above);
      }

  pub peak_turns : Turns P r
  peak_turns = go (by_size (r o.one) peak (sized o.one o.one-within o.one-largest))
    where
      go : Sized (r o.one) peak → Turns P r
      go (same e) = turns_by o.other o.other_within o.other_largest (opposite_numbers o ∙ ap neg_ℤ e)
      go (opposite e a) = turns_by o.one o.one-within o.one-largest e

-- ---- the levels

-- what a late start leaves of the levels of r
pub record Unmoved (n : ℕ) (r : ℕ → ℤ) (l late : Levels) : Type 0 where
  pub highest : late.highest ≡ l.highest
  pub lowest : late.lowest ≡ l.lowest
  pub size : (late.peak ≡ l.peak) ⊎ (late.peak ≡ neg l.peak)
  pub peak : (Opposed n r → ⊥) → late.peak ≡ l.peak

pub levels_unmoved : {n : ℕ} {r q : ℕ → ℤ} → Reordered n r q → 0 < n → (d : ℕ) → Unmoved n r (levels_of n r d) (levels_of n q d)
levels_unmoved {n} {r} {q} o some d =
    record {
      highest = ap (λ z. level z d) (same-highest o some);
      lowest = ap (λ z. level z d) (same-lowest o some);
      size = go (by_size (extremes_of n q).peak (extremes_of n r).peak (same_size o some));
      peak = λ none. ap (λ z. level z d) (same_peak o some none);
    }
  where
    go : Sized (extremes_of n q).peak (extremes_of n r).peak
        → (level (extremes_of n q).peak d ≡ level (extremes_of n r).peak d) ⊎ (level (extremes_of n q).peak d ≡ neg (level (extremes_of n r).peak d))
    go (same e) = inl (ap (λ z. level z d) e)
    go (opposite e a) = inr (ap (λ z. level z d) e ∙ level_negative (extremes_of n r).peak d (⊎_elim (λ t. omega (arith, above_size (extremes_of n q).peak t.0, same_size o some)) (λ t. above_size (extremes_of n r).peak t.0) a))

-- turned so, the level at the peak has the other sign, and is another double
pub levels_turn : {P : ℕ} {r q : ℕ → ℤ} (t : Turns P r) → ((j : ℕ) → j < P → q j ≡ turned P t.by r j)
    → (d : ℕ) → nat_abs (extremes_of P r).peak ≤ 2 ^ 53 → 0 < d → d ≤ 2 ^ 53
    → ((levels_of P q d).peak ≡ neg (levels_of P r d).peak) × ((levels_of P q d).peak ≡ (levels_of P r d).peak → ⊥)
levels_turn {P} {r} {q} t each d small some most =
    let e = ap (λ z. level z d) (t.negative q each) ∙ level_negative (extremes_of P r).peak d t.some in
    (e, λ g. level_other (extremes_of P r).peak d small some most (sym e ∙ g))

-- ---- to be seen in a summary

top : (a z : ℤ) → lt_z (pos 0) a ≡ true → le_z a z ≡ true → nat_abs z ≤ nat_abs a → z ≡ a
top (pos a) (pos b) h k l = ap pos (omega (arith, leb-true a b k))
top (pos a) (negsuc b) h k l = absurd (subst T (sym k) tt)
top (negsuc a) z h k l = absurd (subst T (sym h) tt)

bottom : (a z : ℤ) → lt_z a (pos 0) ≡ true → le_z z a ≡ true → nat_abs z ≤ nat_abs a → z ≡ a
bottom (negsuc a) (negsuc b) h k l = ap negsuc (omega (arith, leb-true a b k))
bottom (negsuc a) (pos b) h k l = absurd (subst T (sym k) tt)
bottom (pos a) z h k l = absurd (omega (arith, ltb-true a 0 h))

-- where two of the largest places have opposite signs, the lowest level is the highest with the other sign
pub opposed_levels : (n : ℕ) (r : ℕ → ℤ) (d : ℕ) → Opposed n r → (levels_of n r d).lowest ≡ neg (levels_of n r d).highest
opposed_levels n r d o =
    ap (λ z. level z d) (low ∙ opposite_numbers o)
    ∙ level_negative (r o.one) d (above_size (r o.one) o.above) ∙ ap (λ z. neg (level z d)) (sym high)
  where
    some : 0 < n
    some = omega (arith, o.one-within)

    high : (extremes_of n r).highest ≡ r o.one
    high = top (r o.one) (extremes_of n r).highest o.above (largest_is r n some o.one o.one-within) (o.one-largest _ (largest-within r n some))

    low : (extremes_of n r).lowest ≡ r o.other
    low =
        bottom (r o.other) (extremes_of n r).lowest o.below (smallest_is r n some o.other o.other_within)
        (o.other_largest _ (largest-within (λ k. pos 0 -ℤ r k) n some))
