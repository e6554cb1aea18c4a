-- Two strands: of 2h + 1 places the first h and the second h are gone through side by side, forwards by the windows or backwards by the tags, and
-- one is left for the end. Assumes nothing.
use mathlib.Core.Path.{◌≡◌, sym, ap, ◌∙◌}
use mathlib.Core.Logic.{◌⊎◌, inl, inr, ⊎_elim}
use Prim.Native.Nat.{ℕ, zero, suc, ◌+◌, ◌-◌, ◌/◌, ◌^◌, ◌≤◌, ◌<◌}
use native.Mathlib.Nat.{pow-suc, add-zero, add_assoc}
use native.Mathlib.Decide.{dec_lt, ℕ_discrete}
use native.Mathlib.Omega.{arith}
use lib.Pow.{pow_pos}
use Rattle.register.specs.Register.{P, step, window, tag-step, tag, Tapped}
use Rattle.register.proofs.Windows.{window-lt, window-next, tag-lt, tag-next}

-- a full period is odd
odd_power : (N : ℕ) → 0 < N → P N ≡ P N / 2 + P N / 2 + 1
odd_power zero h = omega arith
odd_power (suc n) h = omega (arith, pow-suc 2 n, pow_pos n)

pub odd : {N taps n : ℕ} → Tapped N taps → n ≡ P N → n ≡ n / 2 + n / 2 + 1
odd {N} t e = rw e (odd_power N t.some)

-- ---- forwards: those below j, and the j from h on

abbrev pub Forth : ℕ → ℕ → ℕ → Type 0
Forth h j i = (i < j) ⊎ ((h ≤ i) × (i < h + j))

pub forth_none : {h : ℕ} (i : ℕ) → Forth h 0 i → ⊥
forth_none i = ⊎_elim (λ l. omega arith) (λ l. omega arith)

pub forth_more : {h j : ℕ} (i : ℕ) → Forth h (j + 1) i → (i ≡ j → ⊥) → (i ≡ h + j → ⊥) → Forth h j i
forth_more i f m n = ⊎_elim (λ l. inl (omega arith)) (λ l. inr (omega arith)) f

pub forth_last : {h : ℕ} (i : ℕ) → i < h + h + 1 → (i ≡ h + h → ⊥) → Forth h h i
forth_last {h} i l n = elim (dec_lt i h) [ yes m ↦ inl m | no m ↦ inr (omega arith) ]

-- what holds at the places passed and at those of the next turn
pub forth_turn : {Q : ℕ → Type 0} {h j : ℕ} → ((i : ℕ) → Forth h j i → Q i) → Q j → Q (h + j) → (i : ℕ) → Forth h (j + 1) i → Q i
forth_turn {Q} {h} {j} all a b i f = elim (ℕ_discrete i j) [
  | yes e ↦ rw e a
  | no m ↦ elim (ℕ_discrete i (h + j)) [ yes e ↦ rw e b | no n ↦ all i (forth_more i f m n) ]
]

-- and at the last
pub forth_all : {Q : ℕ → Type 0} {h : ℕ} → ((i : ℕ) → Forth h h i → Q i) → Q (h + h) → (i : ℕ) → i < h + h + 1 → Q i
forth_all {Q} {h} all a i l = elim (ℕ_discrete i (h + h)) [ yes e ↦ rw e a | no n ↦ all i (forth_last i l n) ]

-- ---- backwards: those above k up to h, and those above h + k

abbrev pub Back : ℕ → ℕ → ℕ → Type 0
Back h k i = ((k < i) × (i ≤ h)) ⊎ (h + k < i)

pub back_none : {h : ℕ} (i : ℕ) → Back h h i → i < h + h + 1 → ⊥
back_none i b n = ⊎_elim (λ l. omega arith) (λ l. omega arith) b

pub back_more : {h k : ℕ} (i : ℕ) → Back h (k - 1) i → (i ≡ h + k → ⊥) → (i ≡ k → ⊥) → Back h k i
back_more i b m n = ⊎_elim (λ l. inl (omega arith)) (λ l. inr (omega arith)) b

pub back_last : {h : ℕ} (i : ℕ) → (i ≡ 0 → ⊥) → Back h 0 i
back_last {h} i n = elim (dec_lt h i) [ yes m ↦ inr (omega arith) | no m ↦ inl (omega arith) ]

-- ---- the windows, after j turns

pub record Windows (N taps h j first second : ℕ) : Type 0 where
  pub to : j ≤ h
  pub near : first ≡ window N taps j
  pub far : second ≡ window N taps (h + j)

module _ {N taps h : ℕ} where
  pub windows-none : {first second : ℕ} → first ≡ P N → second ≡ window N taps h → Windows N taps h 0 first second
  unfolding window
  windows-none e f = record { to = omega arith; near = e; far = f ∙ ap (window N taps) (sym (add-zero h)) }

  pub windows_lt : {j first second : ℕ} → Windows N taps h j first second → (first < 2 ^ N) × (second < 2 ^ N)
  windows_lt {j} w = (rw w.near (window-lt N taps j), rw w.far (window-lt N taps (h + j)))

  pub windows_more : {j first second first' second' : ℕ} → Windows N taps h j first second → j < h → first' ≡ step N taps first
      → second' ≡ step N taps second → Windows N taps h (j + 1) first' second'
  windows_more {j} w l e f =
      record {
        to = omega arith;
        near = window-next N taps j w.near e;
        far = window-next N taps (h + j) w.far f ∙ ap (window N taps) (add_assoc h j 1);
      }

-- ---- the tags, with k turns to go

pub record Tags (N taps h k first second : ℕ) : Type 0 where
  pub to : k ≤ h
  pub near : first ≡ tag N taps (h - k)
  pub far : second ≡ tag N taps (h + h - k)

module _ {N taps h : ℕ} where
  pub tags_none : {second : ℕ} → second ≡ tag N taps h → Tags N taps h h 1 second
  unfolding tag
  tags_none f =
      let a : h - h ≡ 0 = omega arith in
      let b : h ≡ h + h - h = omega arith in
      record { to = omega arith; near = ap (tag N taps) (sym a); far = f ∙ ap (tag N taps) b }

  module _ (t : Tapped N taps) {k first second : ℕ} (w : Tags N taps h k first second) where
    pub tags_lt : (first < 2 ^ N) × (second < 2 ^ N)
    tags_lt = (rw w.near (tag-lt N taps t (h - k)), rw w.far (tag-lt N taps t (h + h - k)))

    pub tags_more : {first' second' : ℕ} → 0 < k → first' ≡ tag-step N taps first → second' ≡ tag-step N taps second
        → Tags N taps h (k - 1) first' second'
    tags_more l e f =
        record {
          to = omega (arith, w.to);
          near = tag-next N taps t w.near (omega (arith, w.to)) e;
          far = tag-next N taps t w.far (omega (arith, w.to)) f;
        }

    -- the tag of the whole period, where no turn is left
    pub tags_last : {n last : ℕ} → n ≡ h + h + 1 → k ≡ 0 → last ≡ tag-step N taps second → last ≡ tag N taps (n - 0)
    tags_last o z e = tag-next N taps t w.far (omega arith) e

  -- the turn that is done has read the places h + k and k of the period
  pub tags_read : {n k first second : ℕ} → n ≡ h + h + 1 → 0 < k → Tags N taps h (k - 1) first second
      → (first ≡ tag N taps (n - (h + k))) × (second ≡ tag N taps (n - k))
  tags_read {n} {k} e l w =
      let a : h - (k - 1) ≡ n - (h + k) = omega arith in
      let b : h + h - (k - 1) ≡ n - k = omega (arith, w.to) in
      (w.near ∙ ap (tag N taps) a, w.far ∙ ap (tag N taps) b)
