-- An accepted start: every day unseen, every slot free, store and sums zero, and so a record that holds together. Assumes nothing.
use mathlib.Core.Path.{◌≡◌, sym, ap, ◌∙◌}
use mathlib.Core.Bool.{cond}
use mathlib.Core.List.{List}
use Prim.Native.Nat.{ℕ, ◌+◌, ◌-◌, ◌*◌}
use native.Mathlib.Nat.{mul-le-mul_right, suc-mul}
use native.Mathlib.Omega.{arith}
use borrow.Author.Tests.{eq-eqb}
use lib.IntN.{ℤ, pos}
use lib.ListN.{length-replicate}
use Rattle.sums.specs.Lists.{table}
use Rattle.sums.proofs.Sum.{sum_ext, sum-zero}
use Rattle.sums.proofs.Tables.{at-put, at-replicate, length-put, length-table}
use Rattle.register.specs.Register.{P}
use Rattle.samples.specs.Samples.{cleared_wide}
use Rattle.records.specs.Record.{unseen, standing, state, slot, sample, used_total, fresh}
use Rattle.campaign.proofs.Passing.{Begins}
use Rattle.records.proofs.Holding.{Together}
use Rattle.records.proofs.Refiling.{Sized}

pub begun_sized : (N taps C E : ℕ) → Sized (fresh N taps C E)
begun_sized N taps C E = record { days = length-replicate {A = ℕ} 366 0; slots = length-replicate {A = ℕ} 64 0; periods = length-replicate {A = ℕ} 64 0 }

pub begun-state : (N taps C E d : ℕ) → state (fresh N taps C E) d ≡ unseen
begun-state N taps C E d = at-replicate {A = ℕ} 366 (d - 1) 0

pub begun-slot : (N taps C E s : ℕ) → slot (fresh N taps C E) s ≡ 0
begun-slot N taps C E s = at-replicate {A = ℕ} 64 s 0

pub begun-together : (N taps C E : ℕ) (store sums : List ℤ) → Begins N taps C E store sums
    → Together (fresh N taps C E) (cleared_wide (C * P N) store) (cleared_wide (P N) sums)
begun-together N taps C E store sums b =
    record {
      filed = record {
        accepted = b.accepted;
        least = b.least;
        most = b.most;
        states = λ i l. omega (arith, begun-state N taps C E (i + 1));
        past = λ s l h. begun-slot N taps C E s;
        named = λ s l u. absurd (u (begun-slot N taps C E s));
        one = λ i l e. absurd (never i e);
        counted = λ s l u. absurd (u (begun-slot N taps C E s));
        uncounted = λ s l e. at-replicate {A = ℕ} 64 s 0;
      };
      edition = b.edition;
      store_long = rw (length-put (table (C * P N) (λ _. pos 0)) store (omega (arith, length-table (C * P N) (λ _. pos 0), b.store_long))) b.store_long;
      sums_long = rw (length-put (table (P N) (λ _. pos 0)) sums (omega (arith, length-table (P N) (λ _. pos 0), b.sums_long))) b.sums_long;
      used = λ s l u. absurd (u (begun-slot N taps C E s));
      zeros = λ s l e j h. at-put (C * P N) (λ _. pos 0) store (s * P N + j) (pos 0) (omega (arith, mul-le-mul_right (P N) l, suc-mul s (P N)));
      total = λ j h. at-put (P N) (λ _. pos 0) sums j (pos 0) h ∙ sym (none j);
    }
  where
    never : (i : ℕ) → state (fresh N taps C E) (i + 1) ≡ standing → ⊥
    never i e = omega (arith, begun-state N taps C E (i + 1))

    none : (j : ℕ) → used_total (fresh N taps C E) (cleared_wide (C * P N) store) j ≡ pos 0
    none j =
        sum_ext C (λ s _. ap (λ b. cond b (pos 0) (sample (fresh N taps C E) (cleared_wide (C * P N) store) s j)) (eq-eqb (slot (fresh N taps C E) s) 0 (begun-slot N taps C E s)))
        ∙ sum-zero C
