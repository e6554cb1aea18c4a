-- `legendre::meeting::add_met` meets its contract: after i turns what the squares of the numbers below i meet is gathered. Assumes nothing.
use borrow.Rule.Slice.PartMut.{mid_of}
use mathlib.Core.Path.{◌≡◌, sym, ap, ◌∙◌}
use Prim.Native.Nat.{◌+◌, ◌-◌, ◌*◌, ◌≤◌, ◌<◌}
use native.Mathlib.Nat.{mod-lt, mod-eq_of_lt}
use native.Mathlib.Omega.{arith}
use lib.ListN.{length}
use Rattle.sums.specs.Lists.{at}
use Rattle.sums.proofs.Parts.{part_length, part_at}
use Rattle.legendre.specs.Working.{half as half_of, away_by}
use Rattle.legendre.proofs.OnesMeet.{away_most, gathered_none, gathered_more, gathered_all, gathered_size}
use Rattle.legendre.proofs.meeting.add_met.Goals as goal
use Rattle.legendre.proofs.meeting.add_met.Goals.{After-away-from, In-loop-i}

-- the square lies in the period
below : (c : In-loop-i) → c.loop-i.square ≤ c.args.p
below c = let l = c.loop-i in omega (arith, l.invariant.0, mod-lt (l.i * l.i) c.requires.p_nonzero.0)

-- how far on it is, and that a row from there on lies in what is twice over
there : (c : After-away-from) → c.away-from.result ≤ c.args.p
there c =
    rw c.away-from.ensures (away_most c.args.back c.args.p c.loop-i.square (below c.before))

lies : (c : After-away-from) → let a = c.args in c.away-from.result + a.count ≤ length a.twice.now
lies c = omega (arith, there c, c.requires.p_nonzero.3)

pub loop-i-init : goal.loop-i-init
loop-i-init c = (sym (mod-eq_of_lt c.requires.p_nonzero.0), gathered_none c.requires.by_index.0)

pub add_in-requires : goal.add_in-requires
add_in-requires c =
    let l = c.loop-i in
    let a = c.args in
    let from = c.away-from.result in
    let long = part_length from a.count a.twice.now (lies (goal.at.add_in-requires c).After-away-from) in (
      omega (arith, long, l.invariant.1.long, c.requires.p_nonzero.4),
      λ k h.
          let i : k < a.count = omega (arith, long) in
          rw (part_at from a.count a.twice.now k i)
          (omega (arith, gathered_size l.invariant.1 c.requires.by_index.1 k i, c.requires.by_index.1 (from + k), c.requires.p_nonzero.1)),
    )

pub loop-i-preserved : goal.loop-i-preserved
loop-i-preserved c =
    let l = c.loop-i in
    let a = c.args in
    let from = c.away-from.result in (
      c.next_square-square.ensures,
      gathered_more (mid_of from (from + a.count - from) a.twice.now) l.invariant.1 c.requires.p_nonzero.4 (part_length from a.count a.twice.now (lies (goal.at.loop-i-preserved c).After-away-from))
          (λ k h. part_at from a.count a.twice.now k h ∙ ap (λ n. at a.twice.now (n + k)) (c.away-from.ensures ∙ ap (away_by a.back a.p) l.invariant.0))
          c.add_in.ensures,
    )

pub returns : goal.returns
returns c =
    let e : c.loop-i.i ≡ half_of c.args.p = omega arith in
    gathered_all (rw e at c.loop-i.invariant.1) c.requires.p_nonzero.4
