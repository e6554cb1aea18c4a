-- `response::spread::lay` meets its contract: after j turns the first j numbers of both halves are laid out, whatever they are. Assumes nothing.
use Rattle.std.proofs.Common.{◌≡◌, ℕ, ◌<◌, ℤ, length}
use Rattle.register.specs.Register.{P}
use Rattle.response.proofs.Laying.{Walked}
use Rattle.response.proofs.Strands.{Windows}
use Rattle.response.proofs.spread.lay.Given as goal

abbrev pub invariant-loop-j : goal.invariant-loop-j
invariant-loop-j g l =
    let r = l.register in
    Windows r.order r.taps l.half l.j l.first l.second × (length l.room ≡ length l.initial.room)
    × ((y : ℕ → ℤ) → ((j : ℕ) (z : ℤ) → j < P r.order → goal.F-post g l.number j z → z ≡ y j) → Walked r.order r.taps l.half y l.initial.room l.j l.first l.second l.room)
