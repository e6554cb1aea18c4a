-- A list copied over the front of another, and a list's front put back into it. Assumes nothing.
use mathlib.Core.Path.{◌≡◌, sym, ap, ap₂, ◌∙◌}
use mathlib.Core.List.{List, ◌++◌}
use Prim.Native.Nat.{ℕ, ◌≤◌}
use lib.ListN.{length, take, drop, take-append-drop}
use lib.Seq.{length-take-le}
use Rattle.sums.specs.Lists.{put}

module _ {A : Type 0} where
  -- the first n of l are now those of `from`, which has n
  pub copied : (n : ℕ) (from l : List A) {s : List A} → length from ≡ n → s ≡ from → s ++ drop n l ≡ put from l
  unfolding put
  copied n from l e w = ap₂ (λ t k. t ++ drop k l) w (sym e)

  -- a front put back changes nothing
  pub put_back : (n : ℕ) (l : List A) → n ≤ length l → put (take n l) l ≡ l
  unfolding put
  put_back n l h = ap (λ k. take n l ++ drop k l) (length-take-le n l h) ∙ take-append-drop n l
