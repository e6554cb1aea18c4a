-- The store read slot by slot at a block of places: after each slot the rows so far hold together and the sums found are their total; a row
-- that fails, or a sum that differs, refutes the block. Assumes nothing.
use mathlib.Core.Path.{◌≡◌, sym, ap, ap₂, subst, ◌∙◌}
use mathlib.Core.Bool.{Bool, true, false, cond}
use mathlib.Core.List.{List}
use Prim.Native.Nat.{ℕ, ◌+◌, ◌-◌, ◌*◌, ◌^◌, ◌≤◌, ◌<◌}
use native.Mathlib.Nat.{add_assoc}
use native.Mathlib.Numerals.{add-one}
use native.Mathlib.Decide.{ℕ_discrete, dec_lt}
use native.Mathlib.Omega.{arith}
use borrow.Author.Tests.{eq-eqb, ne_eqb}
use lib.Dec.{T, eqb}
use lib.IntN.{ℤ, pos, nat_abs, ◌+ℤ◌}
use lib.ListN.{get_or, take, drop}
use lib.Seq.{get_or-take, get_or-drop}
use Rattle.sums.specs.Sum.{sum}
use Rattle.sums.specs.Lists.{at, every}
use Rattle.sums.proofs.Everywhere.{every-at, every_all}
use Rattle.sums.proofs.Sum.{sum-suc, nat_abs-sum}
use Rattle.samples.specs.Samples.{within}
use Rattle.sums.specs.Equal.{eq_z}
use Rattle.records.specs.Blocks.{Row, Block}
use Rattle.sums.proofs.Equal.{eq_z-same, eq_z_is}
use Rattle.samples.proofs.Rails.{within_size}

-- the part of slot s at the places from a on
pub row_at : (store : List ℤ) (P a n s j : ℕ) → j < n → at (take n (drop (s * P + a) store)) j ≡ at store (s * P + (a + j))
row_at store P a n s j h = get_or-take n (drop (s * P + a) store) j (pos 0) h ∙ get_or-drop (s * P + a) store j (pos 0) ∙ ap (at store) (add_assoc (s * P) a j)

-- what slot s adds at place j
abbrev part : List ℕ → ℕ → List ℤ → ℕ → ℕ → ℤ
part slots P store j s = cond (eqb (get_or slots s 0) 0) (pos 0) (at store (s * P + j))

-- what the test of a row says, of a slot with this day and m periods
abbrev pub tested : ℕ → ℕ → ℕ → List ℤ → Bool
tested day m n row = cond (eqb day 0) (every n (λ j. eq_z (at row j) (pos 0))) (every n (λ j. within m (at row j)))

split : (a j : ℕ) → a ≤ j → a + (j - a) ≡ j
split a j h = omega arith

-- s slots read
pub record ReadSo (slots periods : List ℕ) (P : ℕ) (store : List ℤ) (a n s : ℕ) (found : List ℤ) : Type 0 where
  pub rows : (t : ℕ) → t < s → Row slots periods P store a n t
  pub sums : (j : ℕ) → j < n → at found j ≡ sum s (part slots P store (a + j))

module _ (slots periods : List ℕ) (P : ℕ) (store : List ℤ) (a n : ℕ) where
  pub none_read : {found : List ℤ} → ((j : ℕ) → j < n → at found j ≡ pos 0) → ReadSo slots periods P store a n 0 found
  unfolding sum
  none_read z = record { rows = λ t l. absurd (omega arith); sums = z }

  module _ (s : ℕ) (row : List ℤ) (is : (j : ℕ) → j < n → at row j ≡ at store (s * P + (a + j))) where
    row_holds : tested (get_or slots s 0) (get_or periods s 0) n row ≡ true → Row slots periods P store a n s
    row_holds t =
        record {
          used = λ u j h l.
              let k = every-at n (λ j. within (get_or periods s 0) (at row j)) (sym (ap (λ b. cond b (every n (λ j. eq_z (at row j) (pos 0))) (every n (λ j. within (get_or periods s 0) (at row j)))) (ne_eqb (get_or slots s 0) 0 u)) ∙ t) (j - a) (omega arith) in
              subst (λ z. within (get_or periods s 0) z ≡ true) (is (j - a) (omega arith) ∙ ap (λ m. at store (s * P + m)) (split a j h)) k;
          zeros = λ e j h l.
              let k = every-at n (λ j. eq_z (at row j) (pos 0)) (sym (ap (λ b. cond b (every n (λ j. eq_z (at row j) (pos 0))) (every n (λ j. within (get_or periods s 0) (at row j)))) (eq-eqb (get_or slots s 0) 0 e)) ∙ t) (j - a) (omega arith) in
              ap (λ m. at store (s * P + m)) (sym (split a j h)) ∙ sym (is (j - a) (omega arith)) ∙ eq_z_is (at row (j - a)) (pos 0) k;
        }

    row_passes : Row slots periods P store a n s → tested (get_or slots s 0) (get_or periods s 0) n row ≡ true
    row_passes r = elim (ℕ_discrete (get_or slots s 0) 0) [
      | yes e ↦ ap (λ b. cond b (every n (λ j. eq_z (at row j) (pos 0))) (every n (λ j. within (get_or periods s 0) (at row j)))) (eq-eqb (get_or slots s 0) 0 e)
          ∙ every_all n (λ j. eq_z (at row j) (pos 0)) (λ j l. eq_z-same (is j l ∙ r.zeros e (a + j) (omega arith) (omega arith)))
      | no u ↦ ap (λ b. cond b (every n (λ j. eq_z (at row j) (pos 0))) (every n (λ j. within (get_or periods s 0) (at row j)))) (ne_eqb (get_or slots s 0) 0 u)
          ∙ every_all n (λ j. within (get_or periods s 0) (at row j)) (λ j l. subst (λ z. within (get_or periods s 0) z ≡ true) (sym (is j l)) (r.used u (a + j) (omega arith) (omega arith)))
    ]

    -- one row more
    pub more_read : {found found' : List ℤ} → ReadSo slots periods P store a n s found → tested (get_or slots s 0) (get_or periods s 0) n row ≡ true
        → ((j : ℕ) → at found' j ≡ at found j +ℤ cond (eqb (get_or slots s 0) 0) (pos 0) (at row j)) → ReadSo slots periods P store a n (s + 1) found'
    more_read r t added =
        rw add-one (record {
          rows = λ u l. elim (ℕ_discrete u s) [ yes e ↦ subst (Row slots periods P store a n) (sym e) (row_holds t) | no e ↦ r.rows u (omega arith) ];
          sums = λ j l.
              added j ∙ ap₂ (λ x z. x +ℤ cond (eqb (get_or slots s 0) 0) (pos 0) z) (r.sums j l) (is j l) ∙ sym (sum-suc s (part slots P store (a + j)));
        })

    -- a row that fails
    pub row_refutes : {C : ℕ} {sums : List ℤ} → s < C → tested (get_or slots s 0) (get_or periods s 0) n row ≡ false → Block slots periods C P store sums a n → ⊥
    row_refutes l t b = subst T (sym (row_passes (b.rows s l)) ∙ t) tt

  -- all rows read: what the sums say
  module _ {C : ℕ} {sums found : List ℤ} (r : ReadSo slots periods P store a n C found) where
    pub sums_hold_lem : every n (λ j. eq_z (at sums (a + j)) (at found j)) ≡ true → Block slots periods C P store sums a n
    sums_hold_lem t =
        record {
          rows = r.rows;
          total = λ j h l.
              let e : a + (j - a) ≡ j = omega arith in
              ap (at sums) (sym e) ∙ eq_z_is (at sums (a + (j - a))) (at found (j - a)) (every-at n (λ j. eq_z (at sums (a + j)) (at found j)) t (j - a) (omega arith))
              ∙ r.sums (j - a) (omega arith) ∙ ap (λ m. sum C (part slots P store m)) e;
        }

    pub sums_pass : Block slots periods C P store sums a n → every n (λ j. eq_z (at sums (a + j)) (at found j)) ≡ true
    sums_pass b =
        every_all n (λ j. eq_z (at sums (a + j)) (at found j)) (λ j l. eq_z-same (b.total (a + j) (omega arith) (omega arith) ∙ sym (r.sums j l)))

  -- the sums of rows that hold are small
  pub found_small : {s : ℕ} {found : List ℤ} → ReadSo slots periods P store a n s found → s ≤ 64 → ((t : ℕ) → t < s → get_or periods t 0 ≤ 16) → (j : ℕ) → j < n → nat_abs (at found j) ≤ 2 ^ 40
  found_small {s} r h few j l =
      rw (r.sums j l) (omega (arith, nat_abs-sum s (2 ^ 31) (part slots P store (a + j)) each))
    where
      each : (t : ℕ) → t < s → nat_abs (part slots P store (a + j) t) ≤ 2 ^ 31
      each t k = elim (ℕ_discrete (get_or slots t 0) 0) [
        | yes e ↦ rw (eq-eqb (get_or slots t 0) 0 e) (omega arith)
        | no u ↦ rw (ne_eqb (get_or slots t 0) 0 u) (omega (arith, few t k, within_size (get_or periods t 0) (at store (t * P + (a + j))) ((r.rows t k).used u (a + j) (omega arith) (omega arith))))
      ]

-- ---- block after block

module _ {slots periods : List ℕ} {C P : ℕ} {store sums : List ℤ} where
  pub no_block : Block slots periods C P store sums 0 0
  no_block =
      record {
        rows = λ s l. record { used = λ u j h k. absurd (omega arith); zeros = λ e j h k. absurd (omega arith) };
        total = λ j h k. absurd (omega arith);
      }

  pub next_block : {a n : ℕ} → Block slots periods C P store sums 0 a → Block slots periods C P store sums a n → Block slots periods C P store sums 0 (a + n)
  next_block {a} {n} p q =
      record {
        rows = λ s l. record {
          used = λ u j h k. elim (dec_lt j a) [ yes m ↦ (p.rows s l).used u j h (omega arith) | no m ↦ (q.rows s l).used u j (omega arith) (omega arith) ];
          zeros = λ e j h k. elim (dec_lt j a) [ yes m ↦ (p.rows s l).zeros e j h (omega arith) | no m ↦ (q.rows s l).zeros e j (omega arith) (omega arith) ];
        };
        total = λ j h k. elim (dec_lt j a) [ yes m ↦ p.total j h (omega arith) | no m ↦ q.total j (omega arith) (omega arith) ];
      }

  pub a_block : {a n : ℕ} → Block slots periods C P store sums 0 P → a + n ≤ P → Block slots periods C P store sums a n
  a_block p f =
      record {
        rows = λ s l. record {
          used = λ u j h k. (p.rows s l).used u j (omega arith) (omega arith);
          zeros = λ e j h k. (p.rows s l).zeros e j (omega arith) (omega arith);
        };
        total = λ j h k. p.total j (omega arith) (omega arith);
      }
