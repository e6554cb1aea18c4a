-- An answer handed to C: the number alone is returned, and the period goes where it is lent. Assumes nothing.
use mathlib.Core.Path.{◌≡◌, refl, sym, ap, ◌∙◌}
use mathlib.Core.Bool.{Bool, true, false, cond, ◌||◌}
use Prim.Native.Nat.{ℕ}
use native.Mathlib.Omega.{arith}
use borrow.Author.Tests.{ne_eqb}
use lib.Dec.{eqb}
use Rattle.sums.proofs.Seek.{seek-first}
use Rattle.register.specs.Register.{P, window, period}
use Rattle.register.specs.Calls.{told}
use Rattle.refusals.specs.declared.Answer.{Answer}

-- no register returns after 0 steps
some_steps : (N taps : ℕ) → period N taps ≡ 0 → ⊥
unfolding period
some_steps N taps e = omega (arith, e, (seek-first (λ k. eqb (window N taps k) (P N)) (P N) 1).from)

-- so a period that is told is written, and where none is what was there stays
told_again : (N taps n was : ℕ) → cond (eqb (told N taps n 0) 0) was (told N taps n 0) ≡ told N taps n was
told_again N taps n was = go (eqb n 0 || eqb n 4)
  where
    go : (b : Bool) → cond (eqb (cond b (period N taps) 0) 0) was (cond b (period N taps) 0) ≡ cond b (period N taps) was
    go true = ap (λ b. cond b was (period N taps)) (ne_eqb (period N taps) 0 (some_steps N taps))
    go false = refl

-- `with n o` is the outcome o with the number n, and `e` what the call's contract says that o is; r and `after` are what C is told
pub handed_on : {A : Type 0} (N taps was : ℕ) (with : ℕ → A → A) {o e : A} {answer : Answer} {r after : ℕ} → with answer.number o ≡ o
    → (o ≡ e) × (answer.period ≡ told N taps answer.number 0) → (r ≡ answer.number) × (after ≡ cond (eqb answer.period 0) was answer.period)
    → (with r o ≡ e) × (after ≡ told N taps r was)
handed_on N taps was with {o = o} {answer = answer} same (q, p) (n, w) = (
  ap (λ k. with k o) n ∙ same ∙ q,
  w ∙ ap (λ k. cond (eqb k 0) was k) p ∙ told_again N taps answer.number was ∙ ap (λ k. told N taps k was) (sym n),
)
