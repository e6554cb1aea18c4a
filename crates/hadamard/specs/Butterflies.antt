-- What the private functions say: levels of butterflies, the narrowest first, and the transform of each half. Assumes nothing.
use Rattle.std.specs.Prelude.{List, [], ◌∷◌, ◌++◌, ℕ, ◌+◌, ◌^◌, ◌<◌, ℤ, nat_abs, ◌+ℤ◌, ◌-ℤ◌, take, drop}
use Rattle.sums.specs.Lists.{at, table}
use Rattle.hadamard.specs.Transform.{transformed}

abbrev pub add : ℤ → ℤ → ℤ
add x y = x +ℤ y

abbrev pub sub : ℤ → ℤ → ℤ
sub x y = x -ℤ y

-- f of the numbers at each place, as far as both lists go
unfoldable pub zip : (ℤ → ℤ → ℤ) → List ℤ → List ℤ → List ℤ
zip f [] ys = []
zip f (x ∷ xs) [] = []
zip f (x ∷ xs) (y ∷ ys) = f x y ∷ zip f xs ys

-- f of the numbers at each place of the first half and of what comes after it
unfoldable pub folded : (ℤ → ℤ → ℤ) → ℕ → List ℤ → List ℤ
folded f half v = zip f (take half v) (drop half v)

-- one level: the sums, and then the differences
abbrev pub level : ℕ → List ℤ → List ℤ
level half v = folded add half v ++ folded sub half v

-- one level of each half, whose own halves are `quarter` long
abbrev pub half_levels : ℕ → List ℤ → List ℤ
half_levels quarter v = level quarter (take (quarter + quarter) v) ++ level quarter (drop (quarter + quarter) v)

-- two levels: one of each half, and then one of the whole
abbrev pub two_levels : ℕ → List ℤ → List ℤ
two_levels quarter v = level (quarter + quarter) (half_levels quarter v)

-- the transform of each half, of 2 ^ n numbers
abbrev pub each_half : ℕ → List ℤ → List ℤ
each_half n v = table (2 ^ n) (transformed n (take (2 ^ n) v)) ++ table (2 ^ n) (transformed n (drop (2 ^ n) v))

-- the sizes of the two numbers that meet in a level come to less than 2 ^ 63
abbrev pub PairsFit : ℕ → List ℤ → Type 0
PairsFit half v = (k : ℕ) → k < half → nat_abs (at v k) + nat_abs (at v (k + half)) < 2 ^ 63

-- and those of the four that meet in two levels
abbrev pub FoursFit : ℕ → List ℤ → Type 0
FoursFit quarter v =
    (k : ℕ) → k < quarter
    → (nat_abs (at v k) + nat_abs (at v (k + quarter)))
    + (nat_abs (at v (k + (quarter + quarter))) + nat_abs (at v (k + (quarter + quarter + quarter))))
    < 2 ^ 63
