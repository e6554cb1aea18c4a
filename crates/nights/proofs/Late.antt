-- Document 02, request 8: of a night of either kind that starts late, the samples after the run-in start as late, and their sum place by place is turned as
-- far. Assumes nothing.
use mathlib.Core.Path.{◌≡◌, sym, ap, ◌∙◌}
use mathlib.Core.List.{List}
use Prim.Native.Nat.{ℕ, ◌+◌, ◌*◌, ◌<◌}
use native.Mathlib.Nat.{add-mul}
use native.Mathlib.Omega.{arith}
use lib.IntN.{ℤ, pos}
use lib.ListN.{length}
use lib.Seq.{ext_get_or}
use Rattle.sums.specs.Sum.{sum}
use Rattle.sums.specs.Lists.{at}
use Rattle.sums.specs.Turned.{turned, onward, late}
use Rattle.sums.proofs.Sum.{sum_ext}
use Rattle.sums.proofs.Turned.{has_place, onward_later, late_long, late-at, late_place}
use Rattle.nights.specs.Nights.{lead, periods_of, night_length, settled}
use Rattle.nights.specs.declared.Night.{Night}
use Rattle.nights.proofs.Terms.{settled_long, settled_at}

pub settled-late : (P d : ℕ) (n : Night) (y : List ℤ) → length y ≡ night_length P n → settled P n (late P d y) ≡ late P d (settled P n y)
settled-late P d n y long = ext_get_or (pos 0) (settled P n (late P d y)) (late P d (settled P n y)) same_long each
  where
    same_long : length (settled P n (late P d y)) ≡ length (late P d (settled P n y))
    same_long = settled_long P n (late P d y) (late_long P d y ∙ long) ∙ sym (late_long P d (settled P n y) ∙ settled_long P n y long)

    each : (i : ℕ) → i < length (settled P n (late P d y)) → at (settled P n (late P d y)) i ≡ at (late P d (settled P n y)) i
    each i l =
        let k : i < periods_of n * P = omega (arith, l, settled_long P n (late P d y) (late_long P d y ∙ long)) in
        settled_at P n (late P d y) i ∙ late-at P d y (lead n * P + i) (omega (arith, long, add-mul (lead n) (periods_of n) P))
        ∙ ap (at y) (onward_later P d (lead n) i (has_place P (periods_of n) i k)) ∙ sym (settled_at P n y (onward P d i))
        ∙ sym (late-at P d (settled P n y) i (omega (arith, settled_long P n y long)))

-- at place j the sum of m periods
pub term-late : (P d m : ℕ) (z : List ℤ) → length z ≡ m * P → (j : ℕ) → j < P
    → sum m (λ i. at (late P d z) (i * P + j)) ≡ turned P d (λ k. sum m (λ i. at z (i * P + k))) j
term-late P d m z long j l = sum_ext m (λ i h. late_place P d z m long i j h l)
