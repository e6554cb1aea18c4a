-- `legendre::recording::turn` meets its contract. Assumes nothing.
use mathlib.Core.Path.{sym, ap, ◌∙◌}
use native.Mathlib.Omega.{arith}
use lib.IntN.{pos, neg_ℤ, ◌*ℤ◌}
use lib.ListN.{length}
use Rattle.sums.specs.Lists.{at, put}
use Rattle.sums.proofs.Tables.{table_ext, at-replicate}
use Rattle.legendre.proofs.OnesMeet.{few, response-met}
use Rattle.legendre.proofs.recording.turn.Goals as goal

pub meet-requires : goal.meet-requires
meet-requires c = (c.requires.0, omega arith, λ k. at-replicate 128 k (pos 0))

pub write_response-requires : goal.write_response-requires
write_response-requires c =
    let y = c.args.y.now in
    (omega (arith, c.meet.ensures.0, (few y c.requires.0).1), c.requires.1)

pub returns : goal.returns
returns c =
    let y = c.args.y.now in
    let m = c.meet in
    c.write_response.ensures
    ∙ ap (λ t. put t c.args.out.now) (table_ext (length y) (λ k l.
    ap (λ z. neg_ℤ (pos 2 *ℤ z)) (m.ensures.1 k l) ∙ sym (response-met (length y) c.requires.0.period (at y) k l)))
