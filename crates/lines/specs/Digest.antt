-- One number out of many, in which their order counts: by it the lines of a long list are compared. Assumes nothing.
use Rattle.std.specs.Prelude.{◌≡◌, List, ℕ, zero, suc, ◌+◌, ◌*◌, ◌-◌, ◌%◌, ◌<◌, ℤ, pos, negsuc, length, get_or}

-- z modulo 1,000,003, from 0 up
unfoldable pub residue : ℤ → ℕ
residue (pos n) = n % 1000003
residue (negsuc n) = 1000002 - n % 1000003

-- of f 0, …, f (n - 1)
unfoldable pub digest : ℕ → (ℕ → ℤ) → ℕ
digest zero f = 0
digest (suc n) f = (digest n f * 131 + residue (f n)) % 1000003

-- whatever the value at a place is turned into is f of the place
abbrev pub Turned : {A : Type 0} → (A → ℤ → Type 0) → List A → (ℕ → ℤ) → Type 0
Turned {A} gives v f = (j : ℕ) (x : A) (z : ℤ) → j < length v → gives (get_or v j x) z → z ≡ f j
