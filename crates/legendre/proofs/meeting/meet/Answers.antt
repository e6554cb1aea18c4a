-- `legendre::meeting::meet` meets its contract. Assumes nothing.
use mathlib.Core.Path.{ap, ◌∙◌}
use Prim.Native.Nat.{ℕ, ◌+◌, ◌*◌, ◌%◌}
use native.Mathlib.Omega.{arith}
use mathlib.Core.List.{List}
use lib.IntN.{ℤ, pos}
use lib.ListN.{length, replicate}
use Rattle.sums.specs.Sum.{sum}
use Rattle.sums.specs.Lists.{at}
use Rattle.sums.proofs.Tables.{length-table, length-put, at-put}
use Rattle.legendre.specs.Working.{half, away_by}
use Rattle.legendre.proofs.OnesMeet.{few, twice_long, twice-size, met_twice}
use Rattle.legendre.proofs.meeting.meet.Goals as goal

-- the zeros that the numbers are laid into
abbrev zeros : List ℤ
zeros = replicate 256 (pos 0)

pub lay_twice-requires : goal.lay_twice-requires
lay_twice-requires c = let f = few c.args.z.now c.requires.0 in (f.1, omega (arith, f.1))

pub row_length-requires : goal.row_length-requires
row_length-requires c = (few c.args.z.now c.requires.0).1

pub returns : goal.returns
returns c =
    let z = c.args.z.now in
    let p = length z in
    let f = few z c.requires.0 in
    let count = c.row_length.result in
    let t = c.lay_twice in
    let gathered : List ℤ → ℕ → ℤ = λ v k. sum (half p) (λ i. at v (away_by c.args.back p (i * i % p) + k)) in (
      ap length c.add_met.ensures ∙ length-put _ _ (omega (arith, length-table count (gathered t.new.twice), c.row_length.ensures, f.1, c.requires.1)),
      λ k l.
          ap (λ v. at v k) c.add_met.ensures ∙ at-put count (gathered t.new.twice) c.args.sums.now k (pos 0) (omega (arith, c.row_length.ensures))
          ∙ ap (λ v. gathered v k) t.ensures ∙ met_twice z zeros (omega (arith, f.1)) f.0 c.args.back k l,
    )

pub add_met-requires-clause-p_nonzero : goal.add_met-requires-clause-p_nonzero
add_met-requires-clause-p_nonzero c =
    let z = c.args.z.now in
    let f = few z c.requires.0 in
    let t = c.lay_twice in
    let long = ap length t.ensures ∙ twice_long z zeros (omega (arith, f.1)) in
    ((f.0, f.1, omega (arith, c.row_length.ensures, f.1), omega (arith, c.row_length.ensures, f.1, long), omega (arith, c.row_length.ensures, f.1, c.requires.1)))

pub add_met-requires-clause-by_index : goal.add_met-requires-clause-by_index
add_met-requires-clause-by_index c =
    let z = c.args.z.now in
    let f = few z c.requires.0 in
    let t = c.lay_twice in
    let long = ap length t.ensures ∙ twice_long z zeros (omega (arith, f.1)) in
    ((λ k _. c.requires.2 k, λ k. rw t.ensures (twice-size z c.requires.0 256 (omega (arith, f.1)) k)))
