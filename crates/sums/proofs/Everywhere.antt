-- A test that holds at every place, the places at which one holds counted, and a list with another put into it from some place on.
-- Assumes nothing.
use mathlib.Core.Path.{◌≡◌, refl, sym, ap, ap₂, subst, ◌∙◌}
use mathlib.Core.Bool.{Bool, true, false, cond, ◌&&◌, ◌||◌}
use mathlib.Core.List.{List, ◌++◌}
use Prim.Native.Nat.{ℕ, zero, suc, ◌+◌, ◌-◌, ◌≤◌, ◌<◌}
use native.Mathlib.Numerals.{add-one}
use native.Mathlib.Decide.{ℕ_discrete}
use native.Mathlib.Omega.{arith}
use lib.Dec.{T}
use lib.ListN.{length, get_or, take, drop, length-append, length-drop, get_or-append}
use lib.Seq.{length-take-le, get_or-append-add, get_or-drop, get_or-take}
use Rattle.sums.specs.Sum.{total}
use Rattle.sums.specs.Lists.{every, many, put, put_at}
use Rattle.sums.proofs.Sum.{total_ext}
use Rattle.sums.proofs.Tables.{length-put}

-- ---- truth

pub and-true : (a b : Bool) → a && b ≡ true → (a ≡ true) × (b ≡ true)
and-true true b h = (refl, h)
and-true false b h = absurd (subst T (sym h) tt)

pub both_true : {a b : Bool} → a ≡ true → b ≡ true → a && b ≡ true
both_true p q = ap₂ ◌&&◌ p q

pub or_left : (a b : Bool) → a ≡ true → a || b ≡ true
or_left a b p = ap (λ x. x || b) p

pub or_right : (a b : Bool) → b ≡ true → a || b ≡ true
or_right true b p = refl
or_right false b p = p

-- a test that does not hold adds nothing
pub or-none : (a : Bool) → a || false ≡ a
or-none true = refl
or-none false = refl

pub or_rest : (a b : Bool) → a || b ≡ true → a ≡ false → b ≡ true
or_rest true b h e = absurd (subst T e tt)
or_rest false b h e = h

-- a truth value that cannot be true is false
pub never_true : (b : Bool) → (b ≡ true → ⊥) → b ≡ false
never_true true h = absurd (h refl)
never_true false h = refl

-- ---- every

pub every-at : (n : ℕ) (test : ℕ → Bool) → every n test ≡ true → (i : ℕ) → i < n → test i ≡ true
unfolding every
every-at zero test h i l = absurd (omega arith)
every-at (suc n) test h i l =
    let two = and-true (every n test) (test n) h in
    elim (ℕ_discrete i n) [ yes e ↦ ap test e ∙ two.1 | no e ↦ every-at n test two.0 i (omega arith) ]

pub every_all : (n : ℕ) (test : ℕ → Bool) → ((i : ℕ) → i < n → test i ≡ true) → every n test ≡ true
unfolding every
every_all zero test h = refl
every_all (suc n) test h = both_true (every_all n test (λ i l. h i (omega arith))) (h n (omega arith))

-- only the places below n count
pub every_ext : (n : ℕ) {f g : ℕ → Bool} → ((i : ℕ) → i < n → f i ≡ g i) → every n f ≡ every n g
unfolding every
every_ext zero h = refl
every_ext (suc n) h = ap₂ ◌&&◌ (every_ext n (λ i l. h i (omega arith))) (h n (omega arith))

module _ (test : ℕ → Bool) where
  pub every_fails : (n j : ℕ) → j < n → test j ≡ false → every n test ≡ false
  every_fails n j l e = never_true (every n test) (λ h. subst T (sym (every-at n test h j l) ∙ e) tt)

  pub every_more : (j : ℕ) → every j test ≡ true → test j ≡ true → every (j + 1) test ≡ true
  unfolding every
  every_more j h e = rw add-one (both_true h e)

  pub every-next : (j : ℕ) → every (j + 1) test ≡ every j test && test j
  unfolding every
  every-next j = rw add-one refl

-- ---- many

pub many_ext : (n : ℕ) {f g : ℕ → Bool} → ((i : ℕ) → i < n → f i ≡ g i) → many n f ≡ many n g
unfolding many
many_ext n h = total_ext n (λ i l. ap (λ b. cond b 1 0) (h i l))

pub many-none : (n : ℕ) (test : ℕ → Bool) → ((i : ℕ) → i < n → test i ≡ false) → many n test ≡ 0
unfolding many total
many-none zero test h = refl
many-none (suc n) test h = rw (h n (omega arith)) (omega (arith, many-none n test (λ i l. h i (omega arith))))

pub many-some : (n : ℕ) (test : ℕ → Bool) (i : ℕ) → i < n → test i ≡ true → 1 ≤ many n test
unfolding many total
many-some zero test i l t = absurd (omega arith)
many-some (suc n) test i l t = elim (ℕ_discrete i n) [
  | yes e ↦ last (ap test (sym e) ∙ t)
  | no e ↦ omega (arith, many-some n test i (omega arith) t)
]
  where
    last : test n ≡ true → 1 ≤ total n (λ i. cond (test i) 1 0) + cond (test n) 1 0
    last u = rw u (omega arith)

-- where it holds once, it holds at one place
pub many-one : (n : ℕ) (test : ℕ → Bool) → many n test ≡ 1 → (i j : ℕ) → i < n → j < n → test i ≡ true → test j ≡ true → i ≡ j
unfolding many total
many-one zero test h i j a b t u = absurd (omega arith)
many-one (suc n) test h i j a b t u = elim (ℕ_discrete i n) [
  | yes e ↦ elim (ℕ_discrete j n) [ yes g ↦ e ∙ sym g | no g ↦ absurd (twice (ap test (sym e) ∙ t) j (omega arith) u) ]
  | no e ↦ elim (ℕ_discrete j n) [
    | yes g ↦ absurd (twice (ap test (sym g) ∙ u) i (omega arith) t)
    | no g ↦ many-one n test (before (many-some n test i (omega arith) t)) i j (omega arith) (omega arith) t u
  ]
]
  where
    twice : test n ≡ true → (k : ℕ) → k < n → test k ≡ true → ⊥
    twice v k l w = omega (arith, many-some n test k l w, rw v at h)

    before : 1 ≤ many n test → many n test ≡ 1
    before l = omega arith

module _ (test : ℕ → Bool) where
  -- one place more, as a loop counts it
  pub many_more : (n : ℕ) {a h : ℕ} → a ≡ many n test → h ≡ cond (test n) 1 0 → a + h ≡ many (n + 1) test
  unfolding many total
  many_more n p q = rw (p, q, add-one)

  pub many_most : (n : ℕ) → many n test ≤ n
  unfolding many total
  many_most zero = omega arith
  many_most (suc n) = omega (arith, many_most n, one (test n))
    where
      one : (b : Bool) → cond b 1 0 ≤ 1
      one true = omega arith
      one false = omega arith

-- ---- put from some place on

module _ {A : Type 0} (k : ℕ) (vs l : List A) (fits : k + length vs ≤ length l) where
  pub length-put_at : length (put_at k vs l) ≡ length l
  unfolding put_at
  length-put_at =
      length-append (take k l) (put vs (drop k l))
      ∙ ap₂ ◌+◌ (length-take-le k l (omega arith)) (length-put vs (drop k l) (omega (arith, length-drop k l)) ∙ length-drop k l)
      ∙ back
    where
      back : k + (length l - k) ≡ length l
      back = omega arith

  pub put_at_before : (i : ℕ) (z : A) → i < k → get_or (put_at k vs l) i z ≡ get_or l i z
  unfolding put_at
  put_at_before i z h =
      get_or-append (take k l) (put vs (drop k l)) z i (omega (arith, length-take-le k l (omega arith))) ∙ get_or-take k l i z h

  -- from place k on
  past : (i : ℕ) (z : A) → get_or (put_at k vs l) (k + i) z ≡ get_or (put vs (drop k l)) i z
  unfolding put_at
  past i z =
      ap (λ n. get_or (take k l ++ put vs (drop k l)) (n + i) z) (sym (length-take-le k l (omega arith)))
      ∙ get_or-append-add (take k l) (put vs (drop k l)) i z

  pub put_at_here : (i : ℕ) (z : A) → i < length vs → get_or (put_at k vs l) (k + i) z ≡ get_or vs i z
  unfolding put
  put_at_here i z h = past i z ∙ get_or-append vs (drop (length vs) (drop k l)) z i h

  pub put_at-after : (i : ℕ) (z : A) → length vs ≤ i → get_or (put_at k vs l) (k + i) z ≡ get_or l (k + i) z
  unfolding put
  put_at-after i z h =
      let e : length vs + (i - length vs) ≡ i = omega arith in
      past i z
      ∙ ap (λ n. get_or (vs ++ drop (length vs) (drop k l)) n z) (sym e)
      ∙ get_or-append-add vs (drop (length vs) (drop k l)) (i - length vs) z
      ∙ get_or-drop (length vs) (drop k l) (i - length vs) z ∙ ap (λ n. get_or (drop k l) n z) e ∙ get_or-drop k l i z
