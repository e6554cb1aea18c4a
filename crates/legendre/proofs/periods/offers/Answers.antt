-- `legendre::periods::offers` meets its contract: each key is one of the list, and the rest is none. Assumes nothing.
use Rattle.legendre.specs.Legendre.{periods, offered}
use Rattle.std.proofs.lemmas.Bool.Decides.{nat_tests}
use native.Mathlib.Omega.{arith}
use mathlib.Core.Path.{sym}
use Rattle.sums.proofs.Members.{among_one}
use Rattle.legendre.proofs.periods.offers.Goals as goal

pub returns-in-7 : goal.returns-in-7
unfolding offered
returns-in-7 c = sym (among_one periods c.args.p c.in-7.is)

pub returns-in_default : goal.returns-in_default
unfolding offered
returns-in_default c = grind (arith, nat_tests)
