-- `lines::digest::digest_by` meets its contract: of the values passed d is the digest, whatever they are turned into. Assumes nothing.
use Rattle.std.proofs.Common.{◌≡◌, ℕ, ◌<◌, ℤ}
use Rattle.lines.specs.Digest.{digest, Turned}
use Rattle.lines.proofs.digest.digest_by.Given as goal

abbrev pub invariant-loop-x : goal.invariant-loop-x
invariant-loop-x g l = (l.d < 1000003) × ((f : ℕ → ℤ) → Turned (goal.F-post g l.number) l.v f → l.d ≡ digest l.x-index f)
