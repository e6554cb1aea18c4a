-- Document 01, "Refusal numbers": a call is refused for the first cause that holds, in the order of its checks, and a refused call
-- changes nothing. Assumes nothing.
use Rattle.std.specs.Prelude.{ℕ, zero, suc, List, [], ◌∷◌, map, Bool, cond}

-- the number of the first check whose test holds, and 0, accepted, where none does
abbrev pub first : List (ℕ × Bool) → ℕ
first [] = 0
first (check ∷ checks) = cond check.1 check.0 (first checks)

-- the numbers of a list of checks, in their order
abbrev pub numbers : List (ℕ × Bool) → List ℕ
numbers = map (λ check. check.0)

-- what a call with the answer 0 comes to, and what one with a refusal's number does
abbrev pub answered : {A : Type 0} → ℕ → (ℕ → A) → A → A
answered zero refused accepted = accepted
answered (suc n) refused accepted = refused (suc n)

-- what a call comes to: its checks, then what is handed back on a refusal, then what is made where there is none
abbrev pub outcome : {A : Type 0} → List (ℕ × Bool) → (ℕ → A) → A → A
outcome checks refused accepted = answered (first checks) refused accepted

-- ---- an answer that is an enum, in this paper's terms

-- its number, and what becomes of the values that the caller has for it
abbrev pub Meaning : Type 0 → Type 0
Meaning A = ℕ × (A → A)

-- 0: accepted, with these values
abbrev pub accepts : {A : Type 0} → A → Meaning A
accepts v = (0, λ _. v)

-- refused: the caller's stay
abbrev pub refuses : {A : Type 0} → ℕ → Meaning A
refuses n = (n, λ was. was)

abbrev pub meant : {A : Type 0} → A → Meaning A → ℕ × A
meant was m = (m.0, m.1 was)
