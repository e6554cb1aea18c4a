-- Whether two whole numbers are equal, as a test. Assumes nothing.
use Rattle.std.specs.Prelude.{Bool, ◌&&◌, ℤ}
use Rattle.std.specs.Int.Signed.{le_z}

abbrev pub eq_z : ℤ → ℤ → Bool
eq_z a b = le_z a b && le_z b a
