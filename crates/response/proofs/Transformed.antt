-- A room of which the first P+1 are transformed in their place. Assumes nothing.
use mathlib.Core.Path.{◌≡◌, ap₂}
use mathlib.Core.List.{List}
use Prim.Native.Nat.{ℕ, ◌-◌, ◌^◌, ◌≤◌, ◌<◌}
use native.Mathlib.Omega.{arith}
use lib.IntN.{ℤ, pos, nat_abs, ◌-ℤ◌}
use lib.ListN.{length, take}
use lib.Pow.{suc_ones}
use lib.Seq.{length-take-le}
use Rattle.sums.specs.Lists.{at, table, put}
use Rattle.sums.proofs.Tables.{at-put, length-table, length-put}
use Rattle.hadamard.specs.Transform.{loudness}
use Rattle.hadamard.proofs.Loudness.{transformed-at_most}
use Rattle.register.specs.Register.{P, tag, Accepted}
use Rattle.register.proofs.Windows.{tag-lt}
use Rattle.response.specs.Route.{spectrum, read}

-- the room as the transform leaves it
abbrev pub after : ℕ → List ℤ → List ℤ
after N v = put (table (2 ^ N) (spectrum N v)) v

pub after_long : (N : ℕ) (v : List ℤ) → P N < length v → length (after N v) ≡ length v
after_long N v long = length-put (table (2 ^ N) (spectrum N v)) v (omega (arith, length-table (2 ^ N) (spectrum N v), suc_ones N))

-- no number of it is larger than the room was loud
pub bounded : (N : ℕ) (v : List ℤ) → P N < length v → loudness (take (2 ^ N) v) < 2 ^ 62 → (w : ℕ) → w ≤ P N → nat_abs (at (after N v) w) < 2 ^ 62
bounded N v long quiet w h =
    let l : w < 2 ^ N = omega (arith, suc_ones N) in
    rw (at-put (2 ^ N) (spectrum N v) v w (pos 0) l)
    (omega (arith, transformed-at_most N (take (2 ^ N) v) w (length-take-le (2 ^ N) v (omega (arith, suc_ones N)))))

-- and what is read of it is read of the transform
pub reads_at : (N taps : ℕ) (v : List ℤ) → Accepted N taps → (k : ℕ)
    → at (after N v) (tag N taps (P N - k)) -ℤ at (after N v) 0 ≡ read N taps v k
reads_at N taps v a k =
    ap₂ ◌-ℤ◌ (at-put (2 ^ N) (spectrum N v) v (tag N taps (P N - k)) (pos 0) (tag-lt N taps a.shaped.tapped (P N - k)))
    (at-put (2 ^ N) (spectrum N v) v 0 (pos 0) (omega (arith, suc_ones N)))
