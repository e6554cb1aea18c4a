-- `meterlog::running::refill` meets its contract. Assumes nothing.
use Prim.Native.Nat.{◌-◌, ◌≤◌}
use native.Mathlib.Omega.{arith}
use borrow.Rule.Slice.PartMut.{same_len_mid}
use lib.ListN.{length, length-take, length-drop}
use Rattle.std.specs.Prelude.{is_some, unwrap_or}
use Rattle.meterlog.proofs.Behind.{refilled}
use Rattle.meterlog.proofs.running.refill.Goals as goal

-- the bytes at hand are at the front of the buffer, and what was read lies behind them
pub returns : goal.returns
returns g c =
    let p = c.args.p in
    let left = p.to - p.from in
    let front = c.to_front.new.bytes in
    let part = c.read_once-came.new.bytes in
    let k = c.read_once-came.auto.bytes in
    let whole = same_len_mid left (length front - left) front part k in
    let l : left ≤ length front = omega (arith, c.requires, c.to_front.auto.bytes) in
    rw c.received.ensures
    (refilled p (is_some c.read_once-came.result) (unwrap_or c.read_once-came.result 0) c.args.bytes.now front part _ l c.read_once-came.ensures c.to_front.ensures
    (omega (arith, c.read_once-came.ensures, whole, simp (length-take, length-drop) at k)))
