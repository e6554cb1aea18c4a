-- The response that is predicted and recovered, and the loudest recordings. Assumes nothing.
use Rattle.std.specs.Prelude.{ℕ, ◌*◌, ◌%◌, Bool, true, false, eqb, ℤ, pos, ◌-ℤ◌}

-- h(i) = ((i · 37) mod 23) - 11
abbrev pub pattern : ℕ → ℤ
pattern i = pos (i * 37 % 23) -ℤ pos 11

-- one number at the even places, another at the odd
abbrev pub pick : Bool → ℤ → ℤ → ℤ
pick true a b = a
pick false a b = b

abbrev pub turns : ℤ → ℤ → ℕ → ℤ
turns even odd i = pick (eqb (i % 2) 0) even odd
