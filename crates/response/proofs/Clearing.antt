-- A room that was laid out, transformed and cleared is the room that was lent, cleared; and a room of zeros is so already. Assumes nothing.
use mathlib.Core.Path.{◌≡◌, sym, ap, ◌∙◌}
use mathlib.Core.List.{List, ◌++◌}
use Prim.Native.Nat.{ℕ, ◌+◌, ◌-◌, ◌^◌}
use native.Mathlib.Numerals.{add-one}
use native.Mathlib.Omega.{arith}
use lib.IntN.{ℤ, pos}
use lib.ListN.{drop, length-drop}
use lib.Pow.{suc_ones}
use lib.Seq.{drop_at, ext_get_or, get_or-drop}
use Rattle.sums.specs.Lists.{table, put}
use Rattle.sums.proofs.Tables.{length-table, put-table}
use Rattle.register.specs.Register.{P}
use Rattle.samples.specs.Samples.{cleared_wide}
use Rattle.response.specs.Route.{Laid}

module _ (N : ℕ) {place : ℕ → ℕ} {y : ℕ → ℤ} {was v : List ℤ} (laid : Laid (P N) place y was v) where
  -- past the part that was used
  kept : drop (P N + 1) v ≡ drop (P N + 1) was
  kept =
      ext_get_or (pos 0) (drop (P N + 1) v) (drop (P N + 1) was)
      (length-drop (P N + 1) v ∙ ap (λ n. n - (P N + 1)) laid.long ∙ sym (length-drop (P N + 1) was))
      (λ i _. get_or-drop (P N + 1) v i (pos 0) ∙ laid.tail (P N + 1 + i) (omega arith) ∙ sym (get_or-drop (P N + 1) was i (pos 0)))

  pub cleared_again : (f : ℕ → ℤ) → cleared_wide (P N + 1) (put (table (2 ^ N) f) v) ≡ cleared_wide (P N + 1) was
  cleared_again f =
      let e : P N + 1 ≡ 2 ^ N = add-one (P N) ∙ suc_ones N in
      put-table (P N + 1) (λ _. pos 0) (put (table (2 ^ N) f) v)
      ∙ ap (λ l. table (P N + 1) (λ _. pos 0) ++ l)
      (ap (drop (P N + 1)) (put-table (2 ^ N) f v)
      ∙ drop_at (table (2 ^ N) f) (drop (2 ^ N) v) (P N + 1) (length-table (2 ^ N) f ∙ sym e)
      ∙ ap (λ n. drop n v) (sym e) ∙ kept)
      ∙ sym (put-table (P N + 1) (λ _. pos 0) was)
