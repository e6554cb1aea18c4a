-- `legendre::sequence::write_bits` meets its contract. Assumes nothing.
use mathlib.Core.Path.{subst}
use Rattle.legendre.specs.Working.{Marked}
use Rattle.legendre.proofs.Bits.{bits_written}
use Rattle.legendre.proofs.sequence.write_bits.Goals as goal

pub returns : goal.returns
returns c =
    let p = c.args.p in
    let marked = subst (λ w. Marked p p w c.mark_squares.new.out) c.fill_front.ensures c.mark_squares.ensures in
    bits_written p c.args.out.now _ marked c.requires.0 c.requires.2
