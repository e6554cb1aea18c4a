-- A loop over the front of a list, written place by place: what it leaves is the table in the place of that front. Assumes nothing.
use Rattle.std.proofs.Common.{ℕ, ◌≡◌, ◌≤◌, ap, sym, ◌∙◌, List, ◌++◌, length, take, drop, arith, length-take}
use Rattle.sums.specs.Lists.{table, put}
use Rattle.sums.proofs.Tables.{Written, written_all, put-table}

pub front_written : {A : Type 0} {f : ℕ → A} {i : ℕ} {s : List A} (n : ℕ) (d : List A) → Written i f (take n d) s → n ≤ length d → length (take n d) ≤ i → i ≤ length (take n d)
    → s ++ drop n d ≡ put (table n f) d
front_written {f = f} n d w h low high =
    let all : length (take n d) ≡ n = omega (arith, length-take n d) in
    ap (λ l. l ++ drop n d) (written_all w (omega arith) ∙ ap (λ m. table m f) all) ∙ sym (put-table n f d)
