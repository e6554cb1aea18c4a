-- Text written to a buffer: one text after another, and a number's digits from the last. Assumes nothing.
use mathlib.Core.Path.{◌≡◌, sym, ap, ap₂, ◌∙◌}
use mathlib.Core.List.{List, [], ◌∷◌, ◌++◌, append_assoc, append-nil}
use Prim.Native.Nat.{ℕ, zero, suc, ◌+◌, ◌-◌, ◌/◌, ◌%◌, ◌^◌, ◌≤◌, ◌<◌}
use native.Mathlib.Nat.{div-lt_iff_lt-mul, pow-suc}
use native.Mathlib.Numerals.{sub-one}
use native.Mathlib.Omega.{arith}
use borrow.Author.Tests.{lt-ltb, le-ltb}
use lib.ListN.{length, take, drop, set, length-append, length-set}
use lib.Seq.{drop-cons, drop-length, drop-set-lt, get_or-set_same}
use Rattle.report.specs.Lines.{digits, decimal, Wrote}

-- ---- one text after another

pub wrote_none : (k : ℕ) (l : List ℕ) → Wrote [] k l k l
wrote_none k l = record { is = sym (append-nil (take k l)); size = omega arith }

pub wrote_more : {a b : List ℕ} {k m n : ℕ} {l s t : List ℕ} → Wrote a k l m s → Wrote b m s n t → Wrote (a ++ b) k l n t
wrote_more {a} {b} {k} {m} {n} {l} {s} {t} v w =
    record {
      is = w.is ∙ ap (λ x. x ++ b) v.is ∙ append_assoc (take k l) a b;
      size = rw (length-append a b) (omega (arith, v.size, w.size));
    }

-- ---- a number's digits, the last first

-- what is left of n is rest, and its last digits stand in the room past i
pub record Digits (n i rest : ℕ) (room : List ℕ) : Type 0 where
  pub is : decimal n ≡ digits (suc i) rest ++ drop (suc i) room
  pub small : rest < 10 ^ suc i

pub digits-none : {n : ℕ} {room : List ℕ} → n < 2 ^ 64 → length room ≡ 20 → Digits n 19 n room
digits-none {n} {room} h e =
    record {
      is = sym (append-nil (decimal n)) ∙ ap (λ l. decimal n ++ l) (sym (ap (λ k. drop k room) (sym e) ∙ drop-length room));
      small = omega arith;
    }

-- the room past a place that is set
set_past : (room : List ℕ) (i x : ℕ) → i < length room → drop i (set room i x) ≡ x ∷ drop (suc i) room
set_past room i x h =
    drop-cons (set room i x) i 0 (rw (length-set room i x) h)
    ∙ ap₂ ◌∷◌ (get_or-set_same room i x 0 h) (drop-set-lt (suc i) room i x (omega arith))

more_than : (j rest : ℕ) → 10 ≤ rest → digits (suc j) rest ≡ digits j (rest / 10) ++ (48 + rest % 10) ∷ []
unfolding digits
more_than j rest h = simp (le-ltb rest 10 h)

one_digit : (j rest : ℕ) → rest < 10 → digits (suc j) rest ≡ (48 + rest) ∷ []
unfolding digits
one_digit j rest h = simp (lt-ltb rest 10 h)

-- there is a place left for the digits above the last
pub digits_left : (i : ℕ) {n rest : ℕ} {room : List ℕ} → Digits n i rest room → 10 ≤ rest → 0 < i
digits_left zero d h = absurd (omega (arith, d.small))
digits_left (suc j) d h = omega arith

pub digits_more : (i : ℕ) {n rest : ℕ} {room : List ℕ} → Digits n i rest room → 10 ≤ rest → i < length room
    → Digits n (i - 1) (rest / 10) (set room i (48 + rest % 10))
digits_more zero d h r = absurd (omega (arith, d.small))
digits_more (suc j) {n} {rest} {room} d h r =
    rw (sub-one (suc j)) (record {
      is =
          d.is ∙ ap (λ l. l ++ drop (suc (suc j)) room) (more_than (suc j) rest h)
          ∙ append_assoc (digits (suc j) (rest / 10)) ((48 + rest % 10) ∷ []) (drop (suc (suc j)) room)
          ∙ ap (λ l. digits (suc j) (rest / 10) ++ l) (sym (set_past room (suc j) (48 + rest % 10) r));
      small = (div-lt_iff_lt-mul {k = 10} (omega arith)).1 (rw (pow-suc 10 (suc j)) at d.small);
    })

pub digits_last : {n i rest : ℕ} {room : List ℕ} → Digits n i rest room → rest < 10 → i < length room → drop i (set room i (48 + rest)) ≡ decimal n
digits_last {n} {i} {rest} {room} d h r =
    set_past room i (48 + rest) r ∙ ap (λ l. l ++ drop (suc i) room) (sym (one_digit i rest h)) ∙ sym d.is
