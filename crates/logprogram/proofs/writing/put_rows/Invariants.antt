-- `logprogram::writing::put_rows` meets its contract. Assumes nothing.
use Prim.Native.Nat.{◌+◌, ◌*◌, ◌≤◌}
use Rattle.report.specs.Lines.{Wrote}
use Rattle.logprogram.specs.Program.{rows_bytes}
use Rattle.logprogram.proofs.writing.put_rows.Given as goal

abbrev pub invariant-loop-k : goal.invariant-loop-k
invariant-loop-k l = (l.next ≤ l.at + 128 * l.k) × Wrote (rows_bytes l.k l.r l.mean) l.at l.initial.out l.next l.out
