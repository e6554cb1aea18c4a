-- What is heard of a night: a refusal of its checks, or that none refuses and what is found; and what they have shown where none does. Assumes nothing.
use mathlib.Core.Path.{◌≡◌, refl}
use mathlib.Core.Bool.{false}
use mathlib.Core.List.{List}
use Prim.Native.Nat.{ℕ, zero, suc, ◌+◌, ◌*◌, ◌≤◌, ◌<◌}
use native.Mathlib.Nat.{add-mul}
use native.Mathlib.Omega.{arith}
use borrow.Author.Tests.{ltb-false, eqb-true, not-false}
use lib.Dec.{ltb}
use lib.IntN.{ℤ, nat_abs}
use lib.ListN.{length, length-drop}
use Rattle.std.specs.Prelude.{Ok, Err}
use Rattle.sums.specs.Lists.{at}
use Rattle.sums.specs.Refusals.{first, answered}
use Rattle.sums.proofs.First.{Passed, or-false}
use Rattle.sums.proofs.Somewhere.{none_of, some-none}
use Rattle.samples.specs.Samples.{sample_out, some_out}
use Rattle.samples.proofs.Sizes.{sample_size}
use Rattle.register.specs.Register.{P}
use Rattle.nights.specs.Nights.{lead, periods_of, night_length, settled}
use Rattle.nights.specs.declared.Night.{Night}
use Rattle.nights.proofs.Terms.{settled_long, settled_at}
use Rattle.finding.specs.declared.Finding.{Finding}
use Rattle.judging.specs.Judging.{night_checks, found_in, heard_as}

-- ---- by cases

-- a refusal that is heard is that of the first check that holds; where something is found none does, and it is what the samples are
module _ (N : ℕ) (night : Night) (y : List ℤ) where
  pub refused_heard : (n : ℕ) → heard_as N night y ≡ Err n → (first (night_checks N night y) ≡ n) × (n ≡ 0 → ⊥)
  refused_heard n = go (first (night_checks N night y))
    where
      go : (k : ℕ) → answered k Err (Ok (found_in N night y)) ≡ Err n → (k ≡ n) × (n ≡ 0 → ⊥)
      go zero e = absurd (cc)
      go (suc k) e = let q : suc k ≡ n = cc in (q, λ z. omega (arith, q, z))

  pub found_heard : (f : Finding) → heard_as N night y ≡ Ok f → (first (night_checks N night y) ≡ 0) × (f ≡ found_in N night y)
  found_heard f = go (first (night_checks N night y))
    where
      go : (k : ℕ) → answered k Err (Ok (found_in N night y)) ≡ Ok f → (k ≡ 0) × (f ≡ found_in N night y)
      go zero e = (refl, cc)
      go (suc k) e = absurd (cc)

-- ---- where none refuses

pub record Heard (N : ℕ) (night : Night) (y : List ℤ) : Type 0 where
  pub least : 1 ≤ periods_of night
  pub most : periods_of night ≤ 16
  pub long : length y ≡ night_length (P N) night
  pub ranged : (j : ℕ) → j < length y → sample_out (at y j) ≡ false

pub from_passed : (N : ℕ) (night : Night) (y : List ℤ) → Passed (night_checks N night y) → Heard N night y
from_passed N night y p =
    let range = or-false (ltb (periods_of night) 1) (ltb 16 (periods_of night)) p.0 in
    record {
      least = ltb-false (periods_of night) 1 range.0;
      most = ltb-false 16 (periods_of night) range.1;
      long = eqb-true (length y) (night_length (P N) night) (not-false _ p.1.0);
      ranged = λ j l. none_of (λ k. sample_out (at y k)) (length y) p.1.1.0 j l;
    }

module _ {N : ℕ} {night : Night} {y : List ℤ} (h : Heard N night y) where
  -- what is judged lies in the recording, and has its periods
  pub run_in_fits : lead night * P N ≤ length y
  run_in_fits = omega (arith, h.long, add-mul (lead night) (periods_of night) (P N))

  pub judged_long : length (settled (P N) night y) ≡ periods_of night * P N
  judged_long = settled_long (P N) night y h.long

  in_range : (j : ℕ) → j < length (settled (P N) night y) → sample_out (at (settled (P N) night y) j) ≡ false
  in_range j l = rw (settled_at (P N) night y j) (h.ranged (lead night * P N + j) (omega (arith, length-drop (lead night * P N) y, run_in_fits)))

  pub judged_ranged : some_out (length (settled (P N) night y)) (at (settled (P N) night y)) ≡ false
  judged_ranged = some-none (λ j. sample_out (at (settled (P N) night y) j)) (length (settled (P N) night y)) in_range

  pub judged_small : (j : ℕ) → j < length (settled (P N) night y) → nat_abs (at (settled (P N) night y) j) ≤ 8388608
  judged_small j l = omega (arith, sample_size (at (settled (P N) night y) j) (in_range j l))
