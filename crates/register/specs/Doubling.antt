-- The tag of a delay, got by doubling; and whether the tags return before P steps, looked for at P over each of its
-- primes alone: as the contracts of the taps check's own functions cite them; no public call's does. Assumes nothing.
use Rattle.std.specs.Prelude.{Bool, ◌&&◌, ◌||◌, ℕ, zero, suc, ◌+◌, ◌-◌, ◌*◌, ◌/◌, ◌%◌, ◌^◌, eqb, ltb}
use Rattle.std.specs.Int.Bits.{bit_xor}
use Rattle.sums.specs.Lists.{some, seek}
use Rattle.register.specs.Register.{P, bit_of, tag-step, tag}

-- a tag moved on by i steps
unfoldable pub moved : ℕ → ℕ → ℕ → ℕ → ℕ
moved N taps zero m = m
moved N taps (suc i) m = tag-step N taps (moved N taps i m)

-- m moved on by each of the first k bits of l that is set, and added up without carry: of two delays' tags, the tag of both
unfoldable pub joined : ℕ → ℕ → ℕ → ℕ → ℕ → ℕ
joined N taps l m zero = 0
joined N taps l m (suc i) = bit_xor (joined N taps l m i) (bit_of l i * moved N taps i m)

-- the first number from 2 on that divides q; q itself where none below it does
unfoldable pub least_factor : ℕ → ℕ
least_factor q = seek (λ e. eqb (q % e) 0) (q - 2) 2

abbrev pub prime : ℕ → Bool
prime q = ltb 1 q && eqb (least_factor q) q

-- whether d divides P and the tags return after d steps, or after P/d, each asked where P is a prime times as many
abbrev pub returns_at : ℕ → ℕ → ℕ → Bool
returns_at N taps d = eqb (P N % d) 0 && (prime (P N / d) && eqb (tag N taps d) 1 || prime d && eqb (tag N taps (P N / d)) 1)

-- one of two divisors that go together has at most half the order's bits, rounded up
abbrev pub root_bound : ℕ → ℕ
root_bound N = 2 ^ ((N + 1) / 2)

-- whether they return after P over some prime
abbrev pub returns_early : ℕ → ℕ → Bool
returns_early N taps = some (root_bound N - 1) (λ i. returns_at N taps (i + 1))
