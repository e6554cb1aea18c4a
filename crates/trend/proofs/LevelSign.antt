-- The level of the negative is the negative of the level, and another number. Assumes nothing.
use mathlib.Core.Path.{◌≡◌, refl, sym, ap, subst, ◌∙◌}
use mathlib.Core.Bool.{Bool, true, false, cond, not}
use Prim.Native.Nat.{ℕ, zero, suc, ◌+◌, ◌*◌, ◌^◌, ◌≤◌, ◌<◌}
use native.Mathlib.Nat.{zero-lt-suc}
use native.Mathlib.Omega.{arith}
use lib.Dec.{T, eqb, ltb}
use lib.IntN.{ℤ, pos, negsuc, neg_ℤ, nat_abs}
use lib.Ieee.{Float, nan, inf, fin, Format, binary64, prec, emax, low, up, down, unlike, odd, units, round, neg, of_int, div}
use Rattle.trend.specs.Calls.{level}
use Rattle.trend.proofs.Leveling.{is_negative, of_int_lem, div-at}

-- ---- the sign goes through a rounding

neg-odd : (d : ℕ) (s : Bool) (q k l : ℕ) → neg (odd d s q k l) ≡ odd d (not s) q k l
unfolding neg odd
neg-odd d s zero k l = refl
neg-odd d s (suc q) k l = refl

neg-units : (f : Format) (s : Bool) (q k : ℕ) → neg (units f s q k) ≡ units f (not s) q k
unfolding neg units
neg-units f s q k = go (ltb (q * 2 ^ k) (2 ^ (low f + suc (emax f))))
  where
    go : (b : Bool) → neg (cond b (odd (suc (prec f)) s q k (low f)) (inf s)) ≡ cond b (odd (suc (prec f)) (not s) q k (low f)) (inf (not s))
    go true = neg-odd (suc (prec f)) s q k (low f)
    go false = refl

neg-round : (f : Format) (s : Bool) (a b : ℕ) → neg (round f s a b) ≡ round f (not s) a b
unfolding round
neg-round f s a b = neg-units f s _ _

-- ---- and through a division

not_unlike : (s t : Bool) → not (unlike s t) ≡ unlike (not s) t
not_unlike true true = refl
not_unlike true false = refl
not_unlike false true = refl
not_unlike false false = refl

neg-div : (f : Format) (x y : Float) → neg (div f x y) ≡ div f (neg x) y
unfolding neg div
neg-div f nan y = refl
neg-div f (inf s) nan = refl
neg-div f (inf s) (inf t) = refl
neg-div f (inf s) (fin t n d) = ap inf (not_unlike s t)
neg-div f (fin s m e) nan = refl
neg-div f (fin s m e) (inf t) = ap (λ b. fin b 0 (pos 0)) (not_unlike s t)
neg-div f (fin s m e) (fin t n d) = go (eqb n 0) (eqb m 0) ∙ ap with_sign_lem (not_unlike s t)
  where
    -- the quotient with the sign u
    with_sign_lem : Bool → Float
    with_sign_lem u = cond (eqb n 0) (cond (eqb m 0) nan (inf u)) (round f u (m * up e * down d) (n * up d * down e))

    go : (a b : Bool) → let quotient : Bool → Float = λ u. cond a (cond b nan (inf u)) (round f u (m * up e * down d) (n * up d * down e)) in
        neg (quotient (unlike s t)) ≡ quotient (not (unlike s t))
    go true true = refl
    go true false = refl
    go false b = neg-round f (unlike s t) (m * up e * down d) (n * up d * down e)

pub level_negative : (z : ℤ) (d : ℕ) → 0 < nat_abs z → level (neg_ℤ z) d ≡ neg (level z d)
unfolding level of_int
level_negative (pos zero) d h = absurd (omega arith)
level_negative (pos (suc n)) d h = sym (neg-div binary64 (of_int binary64 (pos (suc n))) (of_int binary64 (pos d)) ∙ ap (λ x. div binary64 x (of_int binary64 (pos d))) (neg-round binary64 false (suc n) 1))
level_negative (negsuc n) d h = sym (neg-div binary64 (of_int binary64 (negsuc n)) (of_int binary64 (pos d)) ∙ ap (λ x. div binary64 x (of_int binary64 (pos d))) (neg-round binary64 true (suc n) 1))

-- ---- another number

abbrev sign_of : Float → Bool
sign_of nan = false
sign_of (inf s) = s
sign_of (fin s m e) = s

sign_odd : (d : ℕ) (s : Bool) (q k l : ℕ) → sign_of (odd d s q k l) ≡ s
unfolding odd
sign_odd d s zero k l = refl
sign_odd d s (suc q) k l = refl

sign_units : (f : Format) (s : Bool) (q k : ℕ) → sign_of (units f s q k) ≡ s
unfolding units
sign_units f s q k = go (ltb (q * 2 ^ k) (2 ^ (low f + suc (emax f))))
  where
    go : (b : Bool) → sign_of (cond b (odd (suc (prec f)) s q k (low f)) (inf s)) ≡ s
    go true = sign_odd (suc (prec f)) s q k (low f)
    go false = refl

sign_round : (f : Format) (s : Bool) (a b : ℕ) → sign_of (round f s a b) ≡ s
unfolding round
sign_round f s a b = sign_units f s _ _

no_fixed : (s : Bool) → not s ≡ s → ⊥
no_fixed true e = subst T (sym e) tt
no_fixed false e = subst T e tt

pub level_other : (z : ℤ) (d : ℕ) → nat_abs z ≤ 2 ^ 53 → 0 < d → d ≤ 2 ^ 53 → neg (level z d) ≡ level z d → ⊥
unfolding level
level_other z d h o l e =
    let s = unlike (is_negative z) false in
    let g = div-at binary64 (of_int binary64 z) (of_int binary64 (pos d)) (is_negative z) false (nat_abs z) 1 d 1 (zero-lt-suc 0) (zero-lt-suc 0) o (of_int_lem z h) (of_int_lem (pos d) l) in
    no_fixed s
    (sym (sign_round binary64 (not s) (nat_abs z * 1) (1 * d))
    ∙ ap sign_of (sym (neg-round binary64 s (nat_abs z * 1) (1 * d)) ∙ ap neg (sym g) ∙ e ∙ g)
    ∙ sign_round binary64 s (nat_abs z * 1) (1 * d))
