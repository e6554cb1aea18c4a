-- `finding::looking::look` meets its contract, by what the scan found. Assumes nothing.
use mathlib.Core.Path.{◌≡◌, ap}
use mathlib.Core.List.{List}
use Prim.Native.Nat.{ℕ}
use lib.IntN.{ℤ}
use Rattle.finding.specs.Finding.{rail_of, still, judged, finding}
use Rattle.std.proofs.Common.{Option}
use Rattle.finding.proofs.looking.look.Goals as goal

judges : (y : List ℤ) {r : Option ℕ} → r ≡ rail_of y → judged r (still y) ≡ finding y
unfolding finding
judges y e = ap (λ r. judged r (still y)) e

pub returns-in-Some : goal.returns-in-Some
returns-in-Some c = judges c.args.y.now c.in-Some.ensures
