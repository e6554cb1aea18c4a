-- Document 02, request 1: a night is one period, or a capture of m+1 periods of which the first, the run-in, is dropped. Assumes nothing.
use Rattle.std.specs.Prelude.{List, Bool, ◌||◌, ℕ, ◌+◌, ◌*◌, ltb, ℤ, drop}
use Rattle.sums.specs.Sum.{sum}
use Rattle.sums.specs.Lists.{at, table}
use Rattle.nights.specs.declared.Night.{Night}
use Rattle.nights.specs.declared.Night.TheVariants as night

abbrev pub period : Night
period = night.Period

abbrev pub capture : ℕ → Night
capture m = night.Capture m

-- how many periods of run-in it has, and how many count
abbrev pub lead : Night → ℕ
lead night.Period = 0
lead (night.Capture m) = 1

abbrev pub periods_of : Night → ℕ
periods_of night.Period = 1
periods_of (night.Capture m) = m

-- 18: m not 1 to 16
abbrev pub periods_out : Night → Bool
periods_out n = ltb (periods_of n) 1 || ltb 16 (periods_of n)

-- how many samples it has
abbrev pub night_length : ℕ → Night → ℕ
night_length P n = (lead n + periods_of n) * P

-- those after the run-in
abbrev pub settled : ℕ → Night → List ℤ → List ℤ
settled P n y = drop (lead n * P) y

-- m periods summed place by place
unfoldable pub term : ℕ → ℕ → List ℤ → List ℤ
term P m z = table P (λ j. sum m (λ i. at z (i * P + j)))
