-- `lines::digest::residue` meets its contract. Assumes nothing.
use mathlib.Core.Path.{◌≡◌, refl, ap, ◌∙◌}
use native.Mathlib.Omega.{arith}
use lib.IntN.{pos}
use mir.Syntax.{w64}
use mir.ValLaws.{to_z-of_z}
use Rattle.std.specs.Int.{int_rem_euclid}
use Rattle.lines.specs.Digest.{residue}
use Rattle.lines.proofs.Folding.{residue_is, residue-lt}
use Rattle.lines.proofs.digest.residue.Goals as goal

pub returns : goal.returns
returns c =
    let v = c.args.v in
    let e : c.rem_euclid.result ≡ pos (residue v) =
    c.rem_euclid.ensures.value ∙ ap (λ z. int_rem_euclid z (pos 1000003)) (to_z-of_z w64 v c.ranges.v) ∙ residue_is v in
    let k = to_z-of_z w64 (pos (residue v)) (record { sfits = omega (arith, residue-lt v) }) in
    rw (e, k) (refl, residue-lt v)
