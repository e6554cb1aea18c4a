-- A recording of which no sample is at a rail or beyond one: it is in the range and clear, and so is what is left of it when its front is dropped. Assumes nothing.
use mathlib.Core.Path.{◌≡◌, sym, ap, subst}
use mathlib.Core.Bool.{false, cond, ◌||◌}
use mathlib.Core.List.{List}
use Prim.Native.Nat.{ℕ, ◌+◌, ◌<◌, ◌≤◌}
use native.Mathlib.Omega.{arith}
use borrow.Author.Tests.{le-ltb}
use lib.IntN.{ℤ, pos}
use lib.ListN.{length, drop, length-drop}
use lib.Seq.{get_or-drop}
use lib.Signed.{lt_z}
use Rattle.sums.specs.Lists.{at}
use Rattle.sums.proofs.Seek.{seek-first, first_unique}
use Rattle.sums.proofs.Somewhere.{none_of, some-none}
use Rattle.samples.specs.Samples.{rail, sample_out, some_out, least_of, most_of}
use Rattle.samples.proofs.Rails.{off_rails, off_out}
use Rattle.finding.specs.Finding.{rail_place, rail_of, some_loud}
use Rattle.std.proofs.Common.{Some, None}

module _ (y : List ℤ) (h : some_loud y ≡ false) where
  quiet : (j : ℕ) → j < length y → lt_z (at y j) (least_of 1) || lt_z (most_of 1) (at y j) ≡ false
  quiet j l = none_of (λ i. lt_z (at y i) (least_of 1) || lt_z (most_of 1) (at y i)) (length y) h j l

  pub clear : rail_of y ≡ None
  clear =
      let e = first_unique (λ j. rail (at y j)) (seek-first (λ j. rail (at y j)) (length y) 0) (record {
        from = omega arith;
        to = omega arith;
        before = λ j a l. off_rails (at y j) (quiet j l);
        here = λ l. absurd (omega arith);
      }) in
      ap (λ b. cond b (Some (rail_place y)) None) (le-ltb (rail_place y) (length y) (omega (arith, e)))

  pub ranged : some_out (length y) (at y) ≡ false
  ranged = some-none (λ j. sample_out (at y j)) (length y) (λ j l. off_out (at y j) (quiet j l))

  pub dropped : (k : ℕ) → k ≤ length y → some_loud (drop k y) ≡ false
  dropped k l =
      some-none (λ j. lt_z (at (drop k y) j) (least_of 1) || lt_z (most_of 1) (at (drop k y) j)) (length (drop k y))
      (λ j m. subst (λ z. lt_z z (least_of 1) || lt_z (most_of 1) z ≡ false) (sym (get_or-drop k y j (pos 0))) (quiet (k + j) (omega (arith, length-drop k y))))
