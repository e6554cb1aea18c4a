-- What may be found at a place: an item that may stand there, and its bytes are at hand, at most five; too few bytes, fewer than five, only while more may
-- come; the end, where no byte is left and the input may end; something bad, anywhere else. Assumes nothing.
use mathlib.Core.Path.{◌≡◌, refl, sym, subst}
use mathlib.Core.Bool.{Bool, true, false, cond, ◌&&◌, ◌||◌}
use mathlib.Core.List.{List}
use Prim.Native.Nat.{ℕ, zero, suc, ◌≤◌, ◌<◌}
use native.Mathlib.Omega.{arith}
use borrow.Author.Tests.{lt-ltb, eqb-true, ltb-true, leb-true, leb-false}
use lib.Dec.{T, eqb, ltb, leb}
use lib.IntN.{ℤ}
use lib.ListN.{length}
use Rattle.nights.specs.Nights.{night_length}
use Rattle.nights.specs.declared.Night.{Night}
use Rattle.logitems.specs.Kinds.{kind_start, kind_open, kind_sample, kind_enter, kind_withdraw, kind_ask, kind_capture, kind_edition, body_length}
use Rattle.logitems.specs.Phases.{may_stand, may_end}
use Rattle.logitems.specs.Log.{byte_at, item_at, kind_of, decoded}
use Rattle.logitems.specs.declared.Phase.{Phase}
use Rattle.logitems.specs.declared.Phase.TheVariants as phase
use Rattle.logitems.specs.declared.Item.{Item}
use Rattle.logitems.specs.declared.Item.TheVariants as item
use Rattle.logitems.specs.declared.Found.{Found}
use Rattle.logitems.specs.declared.Found.TheVariants as found

-- ---- the items that may stand at each place

-- the first is a start and no other is; an edition only directly after it; samples, no more than the night's, and enter only in an open day; the others only
-- outside
pub data Fits (P : ℕ) : Phase → Item → Type 0 where
  starts : {N taps C : ℕ} → Fits P phase.Unbegun (item.Start N taps C)
  editions : {e : ℕ} → Fits P (phase.Between true) (item.Edition e)
  opens : {b : Bool} {d : ℕ} → Fits P (phase.Between b) (item.Open d)
  captures : {b : Bool} {d m : ℕ} → Fits P (phase.Between b) (item.Capture d m)
  withdraws : {b : Bool} {d : ℕ} → Fits P (phase.Between b) (item.Withdraw d)
  asks : {b : Bool} → Fits P (phase.Between b) item.Ask
  samples : {d n : ℕ} {night : Night} {v : ℤ} → n < night_length P night → Fits P (phase.Open d night n) (item.Sample v)
  enters : {d n : ℕ} {night : Night} → Fits P (phase.Open d night n) item.Enter

module _ (P k : ℕ) (bytes : List ℕ) where
  fits-first : eqb k kind_start ≡ true → Fits P phase.Unbegun (item_at k bytes)
  fits-first e = rw (eqb-true k kind_start e) starts

  fits_outside : (s a b c d e : Bool) → eqb k kind_open ≡ a → eqb k kind_withdraw ≡ b → eqb k kind_ask ≡ c → eqb k kind_capture ≡ d → eqb k kind_edition ≡ e
      → a || b || c || d || s && e ≡ true → Fits P (phase.Between s) (item_at k bytes)
  fits_outside s true b c d e x y z u v h = rw (eqb-true k kind_open x) opens
  fits_outside s false true c d e x y z u v h = rw (eqb-true k kind_withdraw y) withdraws
  fits_outside s false false true d e x y z u v h = rw (eqb-true k kind_ask z) asks
  fits_outside s false false false true e x y z u v h = rw (eqb-true k kind_capture u) captures
  fits_outside true false false false false true x y z u v h = rw (eqb-true k kind_edition v) editions
  fits_outside true false false false false false x y z u v h = absurd (subst T (sym h) tt)
  fits_outside false false false false false e x y z u v h = absurd (subst T (sym h) tt)

  fits_inside : (d n : ℕ) (night : Night) (a b c : Bool) → eqb k kind_enter ≡ a → eqb k kind_sample ≡ b → ltb n (night_length P night) ≡ c
      → a || b && c ≡ true → Fits P (phase.Open d night n) (item_at k bytes)
  fits_inside d n night true b c x y z h = rw (eqb-true k kind_enter x) enters
  fits_inside d n night false true true x y z h = rw (eqb-true k kind_sample y) (samples (ltb-true n (night_length P night) z))
  fits_inside d n night false true false x y z h = absurd (subst T (sym h) tt)
  fits_inside d n night false false c x y z h = absurd (subst T (sym h) tt)

  fits : (p : Phase) → may_stand p P k ≡ true → Fits P p (item_at k bytes)
  fits phase.Unbegun h = fits-first h
  fits (phase.Between s) h = fits_outside s (eqb k kind_open) (eqb k kind_withdraw) (eqb k kind_ask) (eqb k kind_capture) (eqb k kind_edition) refl refl refl refl refl h
  fits (phase.Open d night n) h = fits_inside d n night (eqb k kind_enter) (eqb k kind_sample) (ltb n (night_length P night)) refl refl refl h
  fits phase.Stopped h = absurd (subst T (sym h) tt)

-- an item's kind may stand where the item may
pub fits_kind : {P : ℕ} {p : Phase} {i : Item} → Fits P p i → may_stand p P (kind_of i) ≡ true
fits_kind starts = refl
fits_kind editions = refl
fits_kind opens = refl
fits_kind captures = refl
fits_kind withdraws = refl
fits_kind asks = refl
fits_kind {P} (samples {n = n} {night} h) = lt-ltb n (night_length P night) h
fits_kind enters = refl

body_short : (k : ℕ) → body_length k ≤ 4
body_short zero = omega arith
body_short (suc zero) = omega arith
body_short (suc (suc zero)) = omega arith
body_short (suc (suc (suc zero))) = omega arith
body_short (suc (suc (suc (suc zero)))) = omega arith
body_short (suc (suc (suc (suc (suc zero))))) = omega arith
body_short (suc (suc (suc (suc (suc (suc zero)))))) = omega arith
body_short (suc (suc (suc (suc (suc (suc (suc zero))))))) = omega arith
body_short (suc (suc (suc (suc (suc (suc (suc (suc zero)))))))) = omega arith
body_short (suc (suc (suc (suc (suc (suc (suc (suc (suc k))))))))) = omega arith

-- ---- what stands at a place, of m bytes at hand

pub data Stands (p : Phase) (P m : ℕ) : Bool → Found → Type 0 where
  whole : {ended : Bool} {i : Item} {n : ℕ} → Fits P p i → 0 < n → n ≤ m → n ≤ 5 → Stands p P m ended (found.Whole i n)
  short : m ≤ 4 → Stands p P m false found.Short
  bad : {ended : Bool} → eqb m 0 && may_end p ≡ false → Stands p P m ended found.Bad
  end : {ended : Bool} → eqb m 0 && may_end p ≡ true → Stands p P m ended found.End

module _ {p : Phase} {P m : ℕ} where
  either : {ended : Bool} {x y : Found} (b : Bool) → (b ≡ true → Stands p P m ended x) → (b ≡ false → Stands p P m ended y) → Stands p P m ended (cond b x y)
  either true f g = f refl
  either false f g = g refl

  too_few : {x : Found} (ended : Bool) → m ≤ 4 → Stands p P m true x → Stands p P m ended (cond ended x found.Short)
  too_few true l s = s
  too_few false l s = short l

pub stands : (p : Phase) (P : ℕ) (bytes : List ℕ) (ended : Bool) → Stands p P (length bytes) ended (decoded p P bytes ended)
unfolding decoded
stands p P bytes ended =
    let m = length bytes in
    let body = body_length (byte_at bytes 0) in
    either (eqb m 0) (λ e. too_few ended (omega (arith, eqb-true m 0 e)) (either (may_end p) (λ h. end (simp (e, h))) (λ h. bad (simp (e, h)))))
    (λ z. either (may_stand p P (byte_at bytes 0))
    (λ h. either (leb m body) (λ e. too_few ended (omega (arith, leb-true m body e, body_short (byte_at bytes 0))) (bad (simp z)))
    (λ e. whole (fits P (byte_at bytes 0) bytes p h) (omega arith) (omega (arith, leb-false m body e)) (omega (arith, body_short (byte_at bytes 0)))))
    (λ _. bad (simp z)))

-- a whole item
pub whole_size : {p : Phase} {P m : ℕ} {ended : Bool} {i : Item} {n : ℕ} → Stands p P m ended (found.Whole i n) → (0 < n) × (n ≤ m) × (n ≤ 5)
whole_size (whole f a b c) = (a, b, c)

pub whole_fits : {p : Phase} {P m : ℕ} {ended : Bool} {i : Item} {n : ℕ} → Stands p P m ended (found.Whole i n) → Fits P p i
whole_fits (whole f a b c) = f
