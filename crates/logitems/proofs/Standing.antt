-- What stands at a place, by the tests that decide it; and each way to be bad. Assumes nothing.
use mathlib.Core.Path.{◌≡◌, refl, sym, ap, ap₂, ◌∙◌}
use mathlib.Core.List.{List, [], ◌∷◌, ◌++◌}
use mathlib.Core.Bool.{Bool, true, false, cond, and-false}
use Prim.Native.Nat.{ℕ, suc, ◌+◌, ◌*◌, ◌≤◌, ◌<◌}
use mathlib.Core.Logic.{◌⊎◌, inl, inr, ⊎_elim}
use native.Mathlib.Omega.{arith}
use borrow.Author.Tests.{ne_eqb, le-leb, lt-leb, le-ltb, eqb-true, leb-true, leb-false}
use lib.Dec.{eqb, leb}
use lib.ListN.{length, length-append, get_or-append}
use Rattle.nights.specs.Nights.{night_length}
use Rattle.nights.specs.declared.Night.{Night}
use Rattle.logitems.specs.Kinds.{kind_start, kind_open, kind_sample, kind_enter, kind_withdraw, kind_ask, kind_capture, kind_edition, body_length}
use Rattle.logitems.specs.Phases.{may_stand}
use Rattle.logitems.specs.Log.{byte_at, pair_at, signed, item_at, cut, decoded}
use Rattle.logitems.specs.declared.Phase.{Phase}
use Rattle.logitems.specs.declared.Phase.TheVariants as phase
use Rattle.logitems.specs.declared.Item.TheVariants as item
use Rattle.logitems.specs.declared.Found.TheVariants as found

-- a number that is 0 or above the last kind is none of them
none : {k : ℕ} → (k ≡ 0) ⊎ (kind_edition < k) → (n : ℕ) → 0 < n → n ≤ kind_edition → eqb k n ≡ false
none {k} u n h l = ne_eqb k n (λ e. ⊎_elim (λ z. omega arith) (λ z. omega arith) u)

-- ---- by the tests

module _ (p : Phase) (P : ℕ) (bytes : List ℕ) (ended : Bool) (some : length bytes ≡ 0 → ⊥) where
  pub barred : may_stand p P (byte_at bytes 0) ≡ false → found.Bad ≡ decoded p P bytes ended
  unfolding decoded
  barred m = simp (ne_eqb (length bytes) 0 some, m)

  module _ (m : may_stand p P (byte_at bytes 0) ≡ true) where
    pub short : length bytes ≤ body_length (byte_at bytes 0) → cut ended ≡ decoded p P bytes ended
    unfolding decoded
    short h = simp (ne_eqb (length bytes) 0 some, m, le-leb (length bytes) (body_length (byte_at bytes 0)) h)

    pub whole : body_length (byte_at bytes 0) < length bytes
        → found.Whole (item_at (byte_at bytes 0) bytes) (body_length (byte_at bytes 0) + 1) ≡ decoded p P bytes ended
    unfolding decoded
    whole h = simp (ne_eqb (length bytes) 0 some, m, lt-leb (length bytes) (body_length (byte_at bytes 0)) h)

-- ---- each way to be bad: at the place of the kind byte

-- an unknown kind
pub unknown_barred : (p : Phase) (P k : ℕ) → (k ≡ 0) ⊎ (kind_edition < k) → may_stand p P k ≡ false
unknown_barred phase.Unbegun P k u = none u kind_start (omega arith) (omega arith)
unknown_barred (phase.Between begun) P k u =
    simp (
      none u kind_open (omega arith) (omega arith),
      none u kind_withdraw (omega arith) (omega arith),
      none u kind_ask (omega arith) (omega arith),
      none u kind_capture (omega arith) (omega arith),
      none u kind_edition (omega arith) (omega arith),
      and-false begun,
    )
unknown_barred (phase.Open d night n) P k u = simp (none u kind_enter (omega arith) (omega arith), none u kind_sample (omega arith) (omega arith))
unknown_barred phase.Stopped P k u = refl

-- a kind that may not stand there, whatever follows it
module _ (p : Phase) (P k : ℕ) (rest : List ℕ) (ended : Bool) where
  pub misplaced : may_stand p P k ≡ false → decoded p P (k ∷ rest) ended ≡ found.Bad
  misplaced m = sym (barred p P (k ∷ rest) ended (λ e. omega arith) m)

  pub unknown_kind : (k ≡ 0) ⊎ (kind_edition < k) → decoded p P (k ∷ rest) ended ≡ found.Bad
  unknown_kind u = misplaced (unknown_barred p P k u)

  -- a cut body, once the input has ended
  pub cut_body : may_stand p P k ≡ true → length rest < body_length k → decoded p P (k ∷ rest) true ≡ found.Bad
  cut_body m h = sym (short p P (k ∷ rest) true (λ e. omega arith) m (omega arith))

-- a second start; an edition that does not stand directly after it; a sample beyond the night's
pub second_start : (begun : Bool) (P : ℕ) (rest : List ℕ) (ended : Bool) → decoded (phase.Between begun) P (kind_start ∷ rest) ended ≡ found.Bad
second_start begun P rest ended = misplaced (phase.Between begun) P kind_start rest ended (and-false begun)

pub late_edition : (p : Phase) (P : ℕ) (rest : List ℕ) (ended : Bool) → (p ≡ phase.Between true → ⊥) → decoded p P (kind_edition ∷ rest) ended ≡ found.Bad
late_edition p P rest ended n = misplaced p P kind_edition rest ended (barred_there p n)
  where
    barred_there : (p : Phase) → (p ≡ phase.Between true → ⊥) → may_stand p P kind_edition ≡ false
    barred_there phase.Unbegun n = refl
    barred_there (phase.Between true) n = absurd (n refl)
    barred_there (phase.Between false) n = refl
    barred_there (phase.Open d night k) n = refl
    barred_there phase.Stopped n = refl

pub beyond_night : (d P : ℕ) (night : Night) (rest : List ℕ) (ended : Bool)
    → decoded (phase.Open d night (night_length P night)) P (kind_sample ∷ rest) ended ≡ found.Bad
beyond_night d P night rest ended =
    misplaced (phase.Open d night (night_length P night)) P kind_sample rest ended (le-ltb (night_length P night) (night_length P night) (omega arith))

-- the end of the input inside an open day, and with no input at all: the place is the input's length
pub ends_in_a_day : (d n P : ℕ) (night : Night) → decoded (phase.Open d night n) P [] true ≡ found.Bad
unfolding decoded
ends_in_a_day d n P night = refl

pub no_input : (P : ℕ) → decoded phase.Unbegun P [] true ≡ found.Bad
unfolding decoded
no_input P = refl

-- ---- however the input is cut

pick : {A : Type 0} (b : Bool) {x y u v : A} → (b ≡ true → x ≡ y) → u ≡ v → cond b x u ≡ cond b y v
pick true f g = f refl
pick false f g = g

module _ (bytes more : List ℕ) where
  same_byte : (i : ℕ) → i < length bytes → byte_at (bytes ++ more) i ≡ byte_at bytes i
  same_byte i h = get_or-append bytes more 0 i h

  same-pair : (i : ℕ) → i + 1 < length bytes → pair_at (bytes ++ more) i ≡ pair_at bytes i
  same-pair i h = ap₂ (λ a b. a + 256 * b) (same_byte i (omega arith)) (same_byte (i + 1) h)

  same_item : (k : ℕ) → body_length k < length bytes → item_at k (bytes ++ more) ≡ item_at k bytes
  same_item k h =
      pick (eqb k kind_start) (λ e. let l : 4 < length bytes = rw (eqb-true k kind_start e) at h in
      rw (same_byte 1 (omega arith), same-pair 2 (omega arith), same_byte 4 (omega arith)))
      (pick (eqb k kind_open) (λ e. let l : 2 < length bytes = rw (eqb-true k kind_open e) at h in ap item.Open (same-pair 1 (omega arith)))
      (pick (eqb k kind_sample) (λ e. let l : 3 < length bytes = rw (eqb-true k kind_sample e) at h in
      ap (λ n. item.Sample (signed n)) (ap₂ (λ a b. a + 65536 * b) (same-pair 1 (omega arith)) (same_byte 3 l)))
      (pick (eqb k kind_enter) (λ e. refl)
      (pick (eqb k kind_withdraw) (λ e. let l : 2 < length bytes = rw (eqb-true k kind_withdraw e) at h in ap item.Withdraw (same-pair 1 (omega arith)))
      (pick (eqb k kind_capture) (λ e. let l : 3 < length bytes = rw (eqb-true k kind_capture e) at h in
      ap₂ (λ d m. item.Capture d m) (same-pair 1 (omega arith)) (same_byte 3 l))
      (pick (eqb k kind_edition) (λ e. let l : 1 < length bytes = rw (eqb-true k kind_edition e) at h in ap item.Edition (same_byte 1 l)) refl))))))

module _ (p : Phase) (P : ℕ) (k : ℕ) (bytes more : List ℕ) (ended : Bool) where
  -- while more may come an item is not whole, or it is the one that is found with all that comes
  settled_at : (b : Bool) → may_stand p P k ≡ b → (c : Bool) → leb (suc (length bytes)) (body_length k) ≡ c
      → (decoded p P (k ∷ bytes) false ≡ found.Short) ⊎ (decoded p P (k ∷ bytes ++ more) ended ≡ decoded p P (k ∷ bytes) false)
  settled_at false m c e = inr (misplaced p P k (bytes ++ more) ended m ∙ sym (misplaced p P k bytes false m))
  settled_at true m true e = inl (sym (short p P (k ∷ bytes) false (λ z. omega arith) m (leb-true (suc (length bytes)) (body_length k) e)))
  settled_at true m false e =
      let h : body_length k < suc (length bytes) = leb-false (suc (length bytes)) (body_length k) e in
      inr (sym (whole p P (k ∷ bytes ++ more) ended (λ z. omega arith) m (simp length-append (omega arith)))
      ∙ ap (λ i. found.Whole i (body_length k + 1)) (same_item (k ∷ bytes) more k h)
      ∙ whole p P (k ∷ bytes) false (λ z. omega arith) m h)

-- what is found while more may come is what is found with all that comes
pub settled : (p : Phase) (P : ℕ) (bytes more : List ℕ) (ended : Bool)
    → (decoded p P bytes false ≡ found.Short) ⊎ (decoded p P (bytes ++ more) ended ≡ decoded p P bytes false)
unfolding decoded
settled p P [] more ended = inl refl
settled p P (k ∷ bytes) more ended = settled_at p P k bytes more ended (may_stand p P k) refl (leb (suc (length bytes)) (body_length k)) refl
