-- The bits of a sequence, as they are written: ones, then 0 at each square, then 1 at place 0. Assumes nothing.
use mathlib.Core.Path.{◌≡◌, refl, sym, ap, ◌∙◌}
use mathlib.Core.Bool.{Bool, true, false, cond}
use mathlib.Core.List.{List}
use Prim.Native.Nat.{ℕ, suc, ◌+◌, ◌*◌, ◌%◌, ◌≤◌, ◌<◌}
use native.Mathlib.Nat.{mod-lt}
use native.Mathlib.Numerals.{add-one}
use native.Mathlib.Decide.{ℕ_discrete}
use native.Mathlib.Omega.{arith}
use borrow.Author.Tests.{eq-eqb, ne_eqb}
use lib.Dec.{eqb}
use lib.ListN.{length, get_or, set, length-set}
use lib.Seq.{get_or-set_same, get_or-set_other}
use Rattle.sums.specs.Lists.{some, table, put}
use Rattle.sums.proofs.Somewhere.{some_at, some_more}
use Rattle.sums.proofs.Tables.{length-table, length-put, at-put, at_tail, by_places}
use Rattle.legendre.specs.Legendre.{square, bit}
use Rattle.legendre.specs.Working.{Marked}

pub bit-lt : (p n : ℕ) → bit p n < 2
unfolding bit
bit-lt p n = go (eqb n 0) (square p n)
  where
    go : (a b : Bool) → cond a 1 (cond b 0 1) < 2
    go true b = omega arith
    go false true = omega arith
    go false false = omega arith

-- ---- the squares, marked one after the other

pub marked-none : {p : ℕ} {was : List ℕ} → Marked 0 p was was
unfolding some
marked-none = record { long = refl; each = λ n l. refl; tail = λ n l. refl }

pub marked_more : {k p : ℕ} {was v : List ℕ} → Marked k p was v → 0 < p → p ≤ length was → Marked (k + 1) p was (set v (k * k % p) 0)
marked_more {k} {p} {was} {v} m some_p room =
    let test : ℕ → ℕ → Bool = λ n i. eqb (i * i % p) n in
    let below : k * k % p < p = mod-lt (k * k) some_p in
    rw add-one (record {
      long = length-set v (k * k % p) 0 ∙ m.long;
      each = λ n l. elim (ℕ_discrete n (k * k % p)) [
        | yes e ↦
            ap (λ i. get_or (set v (k * k % p) 0) i 0) e
            ∙ get_or-set_same v (k * k % p) 0 0 (omega (arith, m.long))
            ∙ sym (ap (λ b. cond b 0 (get_or was n 0)) (some_at (test n) (suc k) k (omega arith) (eq-eqb (k * k % p) n (sym e))))
        | no e ↦
            get_or-set_other v (k * k % p) n 0 0 e
            ∙ m.each n l
            ∙ sym (ap (λ b. cond b 0 (get_or was n 0)) (some_more (test n) k (ne_eqb (k * k % p) n (λ q. e (sym q)))))
      ];
      tail = λ n l. get_or-set_other v (k * k % p) n 0 0 (λ q. omega arith) ∙ m.tail n l;
    })

-- ---- all of them

module _ (p : ℕ) (was v : List ℕ) (m : Marked p p (put (table p (λ _. 1)) was) v) (some_p : 0 < p) (room : p ≤ length was) where
  as_long : length v ≡ length was
  as_long = m.long ∙ length-put (table p (λ _. 1)) was (omega (arith, length-table {A = ℕ} p (λ _. 1)))

  here : (i : ℕ) → i < p → get_or (set v 0 1) i 0 ≡ bit p i
  unfolding bit
  here i l = elim (ℕ_discrete i 0) [
    | yes e ↦ rw e (get_or-set_same v 0 1 0 (omega (arith, as_long)))
    | no e ↦
        get_or-set_other v 0 i 1 0 e
        ∙ m.each i l
        ∙ ap (λ b. cond (square p i) 0 b) (at-put p (λ _. 1) was i 0 l)
        ∙ sym (ap (λ b. cond b 1 (cond (square p i) 0 1)) (ne_eqb i 0 e))
  ]

  pub bits_long : length (set v 0 1) ≡ length was
  bits_long = length-set v 0 1 ∙ as_long

  pub bits_written : set v 0 1 ≡ put (table p (bit p)) was
  bits_written =
      by_places 0 p (bit p) was (set v 0 1) room bits_long here
      (λ i l. get_or-set_other v 0 i 1 0 (λ q. omega arith) ∙ m.tail i l ∙ at_tail p (λ _. 1) was i 0 l)
