-- The tags first return after P steps exactly where the register first returns to all ones after P steps, so taps may be judged by the tags,
-- of which any one is got by doubling (Divisors). Assumes nothing.
use mathlib.Core.Path.{◌≡◌, refl, sym, ap, ◌∙◌}
use mathlib.Core.Logic.{◌↔◌}
use Prim.Native.Nat.{ℕ, zero, suc, ◌+◌, ◌-◌, ◌%◌, ◌^◌, ◌≤◌, ◌<◌}
use native.Mathlib.Nat.{add_comm, suc-add, zero-add}
use native.Mathlib.Decide.{ℕ_discrete, dec_lt}
use native.Mathlib.Omega.{arith}
use borrow.Author.Tests.{eqb-true, eqb-false, eq-eqb, ne_eqb}
use lib.Bits.{bit_xor, xor_lt}
use lib.Dec.{eqb}
use lib.IntN.{pos, nat_abs}
use lib.Pow.{pow_pos, pow-lt}
use Rattle.sums.specs.Sum.{sum, sign}
use Rattle.sums.specs.Lists.{seek}
use Rattle.sums.proofs.Perm.{Permutes, hits, Visits, visits_all}
use Rattle.sums.proofs.Seek.{First, seek-first, first_unique}
use Rattle.sums.proofs.Sum.{sum_ext, sum_one}
use Rattle.register.specs.Register.{P, dot, step, window, bit, tag-step, tag, Tapped, Maximal, Generator}
use Rattle.register.proofs.Dot.{dot-lt, dot-one, dot_xor}
use Rattle.register.proofs.Windows.{step-lt, step_inj, window-lt, tag-lt, adjoint, ahead}
use Rattle.register.proofs.Recurrence.{window-bit}
use Rattle.register.proofs.Orbit.{window-pos}
use Rattle.register.proofs.Correlation.{balanced, bits_ext, bit-none, xor_pos, same-window, tag-pos, tags_differ, tags_visit}

-- the number of steps after which the tags first return to the first
unfoldable pub tag_period : ℕ → ℕ → ℕ
tag_period N taps = seek (λ k. eqb (tag N taps k) 1) (P N) 1

-- ---- a number by its parities

-- a number other than 0 has an odd parity with some number
no_zero : (N u : ℕ) → u < 2 ^ N → ((v : ℕ) → v < 2 ^ N → dot u v ≡ 0) → u ≡ 0
unfolding sign
no_zero N zero h all = refl
no_zero N (suc u) h all =
    let all_signs : sum (2 ^ N) (λ w. sign (dot (suc u) w)) ≡ pos (2 ^ N) = sum_ext (2 ^ N) (λ w l. ap sign (all w l)) ∙ sum_one (2 ^ N) in
    let z : 2 ^ N ≡ 0 = ap nat_abs (sym all_signs ∙ balanced N (suc u) (omega arith) h) in
    absurd (omega (arith, pow_pos N))

pub same_dots : (N l m : ℕ) → l < 2 ^ N → m < 2 ^ N → ((v : ℕ) → v < 2 ^ N → dot l v ≡ dot m v) → l ≡ m
same_dots N l m hl hm all = elim (ℕ_discrete l m) [
  | yes e ↦ e
  | no n ↦ absurd (apart (xor_pos l m n) (no_zero N (bit_xor l m) (xor_lt N l m hl hm) (λ v h. dot_xor l m v ∙ even (dot l v) (dot m v) (dot-lt l v) (all v h))))
]
  where
    apart : 0 < bit_xor l m → bit_xor l m ≡ 0 → ⊥
    apart p e = omega arith

    even : (a b : ℕ) → a < 2 → a ≡ b → (a + b) % 2 ≡ 0
    even a b h e = omega arith

module _ (N taps : ℕ) (t : Tapped N taps) where
  -- ---- the tags' step loses nothing

  tag-step_inj : (l m : ℕ) → l < 2 ^ N → m < 2 ^ N → tag-step N taps l ≡ tag-step N taps m → l ≡ m
  tag-step_inj l m hl hm e = same_dots N l m hl hm (λ v h. each v (hits (2 ^ N) (step N taps) steps v h))
    where
      steps : Permutes (2 ^ N) (step N taps)
      steps = record { within = λ w h. step-lt N taps w h; apart = λ w v a b. step_inj N taps w v t a b }

      each : (v : ℕ) → (w : ℕ) × (w < 2 ^ N) × (step N taps w ≡ v) → dot l v ≡ dot m v
      each v f =
          ap (dot l) (sym f.2) ∙ sym (adjoint N taps l f.0 hl f.1) ∙ ap (λ x. dot x f.0) e
          ∙ adjoint N taps m f.0 hm f.1 ∙ ap (dot m) f.2

  tag_back : (i d : ℕ) → tag N taps i ≡ tag N taps (i + d) → tag N taps d ≡ 1
  unfolding tag
  tag_back zero d e = ap (tag N taps) (sym (zero-add d)) ∙ sym e
  tag_back (suc i) d e =
      tag_back i d (tag-step_inj (tag N taps i) (tag N taps (i + d)) (tag-lt N taps t i) (tag-lt N taps t (i + d)) (e ∙ ap (tag N taps) (suc-add i d)))

  pub sought : First (λ k. eqb (tag N taps k) 1) (P N) 1 (tag_period N taps)
  unfolding tag_period
  sought = seek-first (λ k. eqb (tag N taps k) 1) (P N) 1

  pub long : 1 ≤ P N
  long = omega (arith, pow-lt t.some)

  -- ---- from the tags to the windows

  module _ (away : (k : ℕ) → 0 < k → k < P N → tag N taps k ≡ 1 → ⊥) where
    later : (i j : ℕ) → i < j → j < P N → tag N taps i ≡ tag N taps j → ⊥
    later i j l h e =
        let s : j ≡ i + (j - i) = omega arith in
        away (j - i) (omega arith) (omega arith) (tag_back i (j - i) (e ∙ ap (tag N taps) s))

    visits : Visits (P N) (tag N taps)
    visits =
        record {
          low = λ m _. let n = tag-pos N taps t m in omega arith;
          high = λ m _. omega (arith, tag-lt N taps t m);
          apart = λ i j hi hj e. elim (dec_lt i j) [
            | yes l ↦ absurd (later i j l hj e)
            | no a ↦ elim (dec_lt j i) [ yes l ↦ absurd (later j i l hi (sym e)) | no b ↦ omega arith ]
          ];
        }

    -- a window that comes back brings every later one back
    again : (k : ℕ) → window N taps k ≡ P N → (j : ℕ) → window N taps (j + k) ≡ window N taps j
    unfolding window
    again k e zero = ap (window N taps) (zero-add k) ∙ e
    again k e (suc j) = ap (window N taps) (suc-add j k) ∙ ap (step N taps) (again k e j)

    -- the tag of such a return, less the first tag, would be the tag of a place from which only zeros come
    never : (k : ℕ) → 0 < k → k < P N → window N taps k ≡ P N → ⊥
    unfolding bit
    never k p l e = from (visits_all (P N) (tag N taps) visits u some below)
      where
        u : ℕ
        u = bit_xor (tag N taps k) 1

        some : 0 < bit_xor (tag N taps k) 1
        some = xor_pos (tag N taps k) 1 (away k p l)

        below : bit_xor (tag N taps k) 1 ≤ P N
        below = omega (arith, xor_lt N (tag N taps k) 1 (tag-lt N taps t k) (omega (arith, pow-lt t.some)))

        even : (a b : ℕ) → a < 2 → a ≡ b → (a + b) % 2 ≡ 0
        even a b h q = omega arith

        quiet : (m j : ℕ) → tag N taps m ≡ bit_xor (tag N taps k) 1 → bit N taps (j + m) ≡ 0
        quiet m j q =
            let w = window N taps j in
            ahead N taps t m j ∙ ap (λ x. dot x w) q ∙ dot_xor (tag N taps k) 1 w
            ∙ even (dot (tag N taps k) w) (dot 1 w) (dot-lt (tag N taps k) w)
            (sym (ahead N taps t k j) ∙ ap (λ x. x % 2) (again k e j) ∙ sym (dot-one w))

        from : (m : ℕ) × (m < P N) × (tag N taps m ≡ bit_xor (tag N taps k) 1) → ⊥
        from f =
            window-pos N taps t f.0
            (bits_ext N (window N taps f.0) 0 (window-lt N taps f.0) (pow_pos N)
            (λ i h. window-bit N taps i f.0 h ∙ ap (bit N taps) (add_comm f.0 i) ∙ quiet f.0 i f.2 ∙ sym (bit-none i)))

  -- ---- both ways

  pub maximal_by_tags : (tag_period N taps ≡ P N) ↔ Maximal N taps
  unfolding tag window
  maximal_by_tags = (to, from)
    where
      to : tag_period N taps ≡ P N → Maximal N taps
      to e =
          let f = sought in
          let away : (k : ℕ) → 0 < k → k < P N → tag N taps k ≡ 1 → ⊥ = λ k p l. eqb-false (tag N taps k) 1 (f.before k p (omega arith)) in
          let home : tag N taps (P N) ≡ 1 = ap (tag N taps) (sym e) ∙ eqb-true (tag N taps (tag_period N taps)) 1 (f.here (omega arith)) in
          record { returns = same-window N taps t (P N) 0 home; first = never away }

      from : Maximal N taps → tag_period N taps ≡ P N
      from m =
          first_unique (λ k. eqb (tag N taps k) 1) sought (record {
            from = long;
            to = omega arith;
            before = λ k p l. ne_eqb (tag N taps k) 1 (λ q. apart k p (tags_differ N taps g k 0 l long q));
            here = λ _. eq-eqb (tag N taps (P N)) 1 (back (visits_all (P N) (λ i. tag N taps (P N - i)) (tags_visit N taps g) 1 (omega arith) long));
          })
        where
          g : Generator N taps
          g = record { tapped = t; maximal = m }

          apart : (k : ℕ) → 0 < k → k ≡ 0 → ⊥
          apart k p e = omega arith

          back : (i : ℕ) × (i < P N) × (tag N taps (P N - i) ≡ 1) → tag N taps (P N) ≡ 1
          back f = elim (ℕ_discrete f.0 0) [
            | yes e ↦ let q : P N - f.0 ≡ P N = omega arith in ap (tag N taps) (sym q) ∙ f.2
            | no n ↦ absurd (apart (P N - f.0) (omega (arith, f.1)) (tags_differ N taps g (P N - f.0) 0 (omega (arith, f.1)) long f.2))
          ]
