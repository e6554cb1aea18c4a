-- Document 01, "The campaign", and document 02, request 2: overloaded, otherwise dead, otherwise kept. Assumes nothing.
use Rattle.std.specs.Prelude.{List, Bool, true, false, cond, ◌||◌, ℕ, ltb, ℤ, pos, ◌-ℤ◌, length, Option, Some, None}
use Rattle.std.specs.Int.Signed.{lt_z, le_z}
use Rattle.sums.specs.Lists.{at, seek, some}
use Rattle.sums.specs.Largest.{largest, smallest}
use Rattle.samples.specs.Samples.{rail, least_of, most_of}
use Rattle.finding.specs.declared.Finding.{Finding}
use Rattle.finding.specs.declared.Finding.TheVariants as found

-- ---- overloaded: some sample is -8,388,608 or 8,388,607

-- the first such place, or the length where there is none
abbrev pub rail_place : List ℤ → ℕ
rail_place y = seek (λ j. rail (at y j)) (length y) 0

abbrev pub rail_of : List ℤ → Option ℕ
rail_of y = cond (ltb (rail_place y) (length y)) (Some (rail_place y)) None

-- some sample is at a rail or beyond one
abbrev pub some_loud : List ℤ → Bool
some_loud y = some (length y) (λ j. lt_z (at y j) (least_of 1) || lt_z (most_of 1) (at y j))

-- ---- dead: its largest sample minus its smallest is 7 or less

abbrev pub spread : List ℤ → ℤ
spread y = largest (length y) (at y) -ℤ smallest (length y) (at y)

abbrev pub dead_spread : ℕ
dead_spread = 7

abbrev pub still : List ℤ → Bool
still y = le_z (spread y) (pos dead_spread)

-- ---- what it is

-- overloaded comes first, at that place; otherwise dead; otherwise kept
abbrev pub judged : Option ℕ → Bool → Finding
judged (Some p) quiet = found.Overloaded p
judged None true = found.Dead
judged None false = found.Kept

unfoldable pub finding : List ℤ → Finding
finding y = judged (rail_of y) (still y)
