-- Document 01, "The campaign" and "Room": anything lent beyond the lengths that a call needs is never changed, and a working room that was used holds
-- zeros. Assumes nothing.
use Rattle.std.specs.Prelude.{◌≡◌, List, ℕ, ◌≤◌, ◌<◌, get_or}

-- beyond its first n places a lent buffer is as it was
pub record KeepsTail {A : Type 0} (n : ℕ) (before after : List A) : Type 0 where
  pub beyond : (i : ℕ) (z : A) → n ≤ i → get_or after i z ≡ get_or before i z

-- its first n places hold `none`, a zero
pub record Cleared {A : Type 0} (none : A) (n : ℕ) (after : List A) : Type 0 where
  pub within : (i : ℕ) (z : A) → i < n → get_or after i z ≡ none
