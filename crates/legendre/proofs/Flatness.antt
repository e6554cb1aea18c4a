-- Each sequence offered is flat: its sum is -1, and its autocorrelation is p at shift 0 and -1 at every other. So a predicted recording
-- gives p + 1 times the response. And |r(k)| is at most (p+1) times the largest |y(j)|, since (p+1)/2 bits are ones. Assumes nothing.
use mathlib.Core.Path.{◌≡◌, refl, sym, ap, ap₂, ◌∙◌}
use mathlib.Core.List.{List, [], ◌∷◌, ◌++◌}
use mathlib.Core.Bool.{true}
use Prim.Native.Nat.{ℕ, zero, suc, ◌+◌, ◌-◌, ◌*◌, ◌%◌, ◌≤◌, ◌<◌}
use native.Mathlib.Nat.{mod-eq_of_lt, add-mod_right, mod-lt, add_comm}
use native.Mathlib.Numerals.{add-one}
use native.Mathlib.Decide.{dec_lt}
use native.Mathlib.Omega.{arith}
use lib.Dec.{T, eqb, eqb→eq}
use lib.IntN.{ℤ, pos, negsuc, nat_abs, ◌+ℤ◌, ◌-ℤ◌, ◌*ℤ◌}
use lib.ListN.{length, get_or, drop, length-append, length-drop, get_or-append}
use lib.Seq.{get_or-append-add, get_or-drop}
use Rattle.sums.specs.Sum.{sum, total, sign}
use Rattle.sums.specs.Lists.{table}
use Rattle.sums.proofs.Ring.{ring}
use Rattle.sums.proofs.First.{T-both}
use Rattle.sums.proofs.Members.{all_each}
use Rattle.sums.proofs.Tables.{length-table, at_table}
use Rattle.sums.proofs.Sign.{sign-+, sign-mod, sign_bit, sign_sq}
use Rattle.sums.proofs.Sum.{sum_ext, sum_front, sum_one, sum-sub, sum_scale, pos-total}
use Rattle.response.specs.Response.{response, prediction, autocorrelation, Flat}
use Rattle.response.proofs.Shifted.{at_0}
use Rattle.response.proofs.Recovery.{recovery}
use Rattle.response.proofs.Ones as ones
use Rattle.legendre.specs.Legendre.{periods, offered, bit, wave}
use Rattle.legendre.proofs.Bits.{bit-lt}
use Rattle.legendre.proofs.Certificate.{differ, turns, turns_flat, flat_at, computed}

-- ---- two lists of bits, multiplied as signs

-- one product by whether the bits differ
product : (a b : ℕ) → sign a *ℤ sign b ≡ pos 1 -ℤ pos 2 *ℤ pos ((a + b) % 2)
product a b = sym (sign-+ a b) ∙ sym (sign-mod (a + b)) ∙ sign_bit ((a + b) % 2) (mod-lt (a + b) (omega arith))

-- all of them by the places that differ
products : (xs ys : List ℕ) → length xs ≤ length ys
    → sum (length xs) (λ j. sign (get_or xs j 0) *ℤ sign (get_or ys j 0)) ≡ pos (length xs) -ℤ pos 2 *ℤ pos (differ xs ys)
unfolding sum
products [] ys h = refl
products (x ∷ xs) [] h = absurd (omega arith)
products (x ∷ xs) (y ∷ ys) h =
    sum_front (length xs) (λ j. sign (get_or (x ∷ xs) j 0) *ℤ sign (get_or (y ∷ ys) j 0))
    ∙ ap₂ ◌+ℤ◌ (product x y) (products xs ys (omega arith))
    ∙ regroup ((x + y) % 2) (differ xs ys) (length xs)
  where
    regrouped : (u v n : ℤ) → (pos 1 -ℤ pos 2 *ℤ u) +ℤ (n -ℤ pos 2 *ℤ v) ≡ (n +ℤ pos 1) -ℤ pos 2 *ℤ (u +ℤ v)
    regrouped u v n = simp ring

    regroup : (u v n : ℕ) → (pos 1 -ℤ pos 2 *ℤ pos u) +ℤ (pos n -ℤ pos 2 *ℤ pos v) ≡ pos (suc n) -ℤ pos 2 *ℤ pos (u + v)
    regroup u v n = regrouped (pos u) (pos v) (pos n) ∙ ap (λ z. pos z -ℤ pos 2 *ℤ pos (u + v)) (add-one n)

-- p less twice a half of p + 1
less_half : (p h : ℕ) → 2 * h ≡ p + 1 → pos p -ℤ pos 2 *ℤ pos h ≡ negsuc 0
less_half p h e = ap (λ n. pos p -ℤ pos n) e ∙ less_one (pos p)
  where
    less_one : (z : ℤ) → z -ℤ (z +ℤ pos 1) ≡ negsuc 0
    less_one z = simp ring

-- ---- what the certificate tells

-- of each shift
turned : (h n : ℕ) (l ys : List ℕ) → T (turns h n l ys) → (d : ℕ) → d < n → 2 * differ l (drop (suc d) ys) ≡ h
turned h zero l ys t d b = absurd (omega arith)
turned h (suc n) l [] t d b = absurd t
turned h (suc n) l (y ∷ ys) t zero b = eqb→eq (2 * differ l ys) h (T-both (eqb (2 * differ l ys) h) (turns h n l ys) t).0
turned h (suc n) l (y ∷ ys) t (suc d) b = turned h n l ys (T-both (eqb (2 * differ l ys) h) (turns h n l ys) t).1 d (omega arith)

-- a list after itself, read from d on, is the list turned
around : (l : List ℕ) (d j : ℕ) → d < length l → j < length l → get_or (l ++ l) (d + j) 0 ≡ get_or l ((j + d) % length l) 0
around l d j hd hj = elim (dec_lt (d + j) (length l)) [
  | yes b ↦ let e : (j + d) % length l ≡ d + j = ap (λ (n : ℕ). n % length l) (add_comm j d) ∙ mod-eq_of_lt b in get_or-append l l 0 (d + j) b ∙ ap (λ n. get_or l n 0) (sym e)
  | no b ↦
      let r : ℕ = d + j - length l in
      let s : length l + r ≡ d + j = omega arith in
      let w : j + d ≡ r + length l = omega arith in
      let e : (j + d) % length l ≡ r = ap (λ (n : ℕ). n % length l) w ∙ add-mod_right r (length l) ∙ mod-eq_of_lt (omega arith) in
      ap (λ n. get_or (l ++ l) n 0) (sym s) ∙ get_or-append-add l l r 0 ∙ ap (λ n. get_or l n 0) (sym e)
]

-- ---- any sequence of the certificate is flat

module _ (p : ℕ) where
  whole : 2 * total p (bit p) ≡ p + 1 → sum p (wave p) ≡ negsuc 0
  unfolding wave
  whole e =
      sum_ext p (λ j _. sign_bit (bit p j) (bit-lt p j))
      ∙ sum-sub p (λ j. pos 1) (λ j. pos 2 *ℤ pos (bit p j))
      ∙ ap₂ ◌-ℤ◌ (sum_one p) (sum_scale p (pos 2) (λ j. pos (bit p j)) ∙ ap (λ z. pos 2 *ℤ z) (sym (pos-total p (bit p))))
      ∙ less_half p (total p (bit p)) e

  here : autocorrelation p (wave p) 0 ≡ pos p
  unfolding wave
  here = at_0 p (wave p) ∙ sum_ext p (λ j _. sign_sq (bit p j)) ∙ sum_one p

  long : length (table p (bit p)) ≡ p
  long = length-table p (bit p)

  elsewhere : T (turns_flat p (table p (bit p))) → (d : ℕ) → 0 < d → d < p → autocorrelation p (wave p) d ≡ negsuc 0
  unfolding wave autocorrelation
  elsewhere t zero h b = absurd (omega arith)
  elsewhere t (suc d) h b =
      let m : List ℕ = table p (bit p) in
      let e : 2 * differ m (drop (suc d) (m ++ m)) ≡ p + 1 = turned (p + 1) (p - 1) m (m ++ m) t d (omega arith) in
      let enough : length m ≤ length (drop (suc d) (m ++ m)) = omega (arith, length-drop (suc d) (m ++ m), length-append m m, long) in
      sum_ext p (λ j c. ap₂ (λ u v. sign u *ℤ sign v)
      (sym (at_table p (bit p) j 0 c))
      (sym (at_table p (bit p) ((j + suc d) % p) 0 (mod-lt (j + suc d) (omega arith)))
      ∙ ap (λ n. get_or m ((j + suc d) % n) 0) (sym long)
      ∙ sym (around m (suc d) j (omega (arith, long)) (omega (arith, long)))
      ∙ sym (get_or-drop (suc d) (m ++ m) j 0)))
      ∙ ap (λ n. sum n (λ j. sign (get_or m j 0) *ℤ sign (get_or (drop (suc d) (m ++ m)) j 0))) (sym long)
      ∙ products m (drop (suc d) (m ++ m)) enough
      ∙ ap (λ n. pos n -ℤ pos 2 *ℤ pos (differ m (drop (suc d) (m ++ m)))) long
      ∙ less_half p (differ m (drop (suc d) (m ++ m))) e

-- ---- each one offered

module _ (p : ℕ) (one : offered p ≡ true) where
  told : T (eqb (2 * total p (bit p)) (p + 1)) × T (turns_flat p (table p (bit p)))
  unfolding offered
  told = T-both (eqb (2 * total p (bit p)) (p + 1)) (turns_flat p (table p (bit p))) (all_each flat_at periods computed p one)

  half : 2 * total p (bit p) ≡ p + 1
  half = eqb→eq (2 * total p (bit p)) (p + 1) told.0

  pub flat : Flat p (wave p)
  unfolding autocorrelation
  flat = record { mean = whole p half; power = sym (at_0 p (wave p)) ∙ here p; shifted = elsewhere p told.1 }

  pub recovered : (h : ℕ → ℤ) (k : ℕ) → k < p → response p (wave p) (prediction p (wave p) h) k ≡ pos (suc p) *ℤ h k
  recovered = recovery p (wave p) flat

  pub response_bound : (y : ℕ → ℤ) (B : ℕ) → ((j : ℕ) → j < p → nat_abs (y j) ≤ B) → (k : ℕ) → nat_abs (response p (wave p) y k) ≤ suc p * B
  unfolding wave
  response_bound = ones.response_bound p (bit p) (bit-lt p) (half ∙ add-one p)
