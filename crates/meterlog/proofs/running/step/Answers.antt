-- `meterlog::running::step` meets its contract: it is the turn on the bytes at hand. Assumes nothing.
use mathlib.Core.Path.{◌≡◌, sym, ap, subst, ◌∙◌}
use mathlib.Core.Bool.{true}
use Prim.Native.Nat.{◌+◌, ◌-◌, ◌≤◌}
use native.Mathlib.Omega.{arith}
use Rattle.std.proofs.Common.{None}
use lib.ListN.{length-take, length-drop}
use Rattle.logeffects.specs.Book.{Memory, memory}
use Rattle.logprogram.specs.Program.{Turn, turn}
use Rattle.logprogram.specs.Reads.{Midway}
use Rattle.logprogram.proofs.Turns.{turn_bounded, short_idle, short_few}
use Rattle.meterlog.specs.Buffer.{midway, Stepped}
use Rattle.meterlog.specs.declared.Progress.{Progress}
use Rattle.meterlog.specs.declared.Failed.TheVariants.{Writing}
use Rattle.meterlog.proofs.Behind.{hand-passed, provided-inside}
use Rattle.meterlog.proofs.Steps.{written_step, read_step}
use Rattle.meterlog.proofs.running.step.Given as given
use Rattle.meterlog.proofs.running.step.Goals as goal
use Rattle.meterlog.proofs.running.step.Goals.{Start, In-Some, In_default}

-- where the bytes at hand are too few
module _ (g : given.Over) (c : In_default g) where
  abbrev first : Midway
  first =
      let a = c.args in
      midway a.p a.bytes.now (memory a.store.now a.sums.now a.recording.now a.r.now a.mean.now a.room.now a.tags.now)

  short_turn : (turn first.place first.hand first.ended).short ≡ true
  short_turn = ap (λ (t : Turn). t.short) (sym c.in_default.ensures.out_after)

  few : c.args.p.to - c.args.p.from ≤ 4
  few = omega (arith, simp (length-take, length-drop) at (short_few first.place first.hand first.ended short_turn), c.requires.inside)

  abbrev after : Memory
  after = let l = c.take_turn.new in memory l.store l.sums l.recording l.r l.mean l.room l.tags

  unmoved : after ≡ first.place.memory
  unmoved = ap (λ (t : Turn). t.place.memory) (c.in_default.ensures.out_after ∙ short_idle first.place first.hand first.ended short_turn)

used_fits : (g : given.Over) (c : In-Some g) → c.args.p.from + c.in-Some.t.used ≤ c.args.p.to
used_fits g c =
    let a = c.args in
    let m = midway a.p a.bytes.now (memory a.store.now a.sums.now a.recording.now a.r.now a.mean.now a.room.now a.tags.now) in
    omega (arith, ap (λ (t : Turn). t.used) c.in-Some.ensures.out_after, simp length-take at (turn_bounded m.place m.hand m.ended).0, c.requires.inside)

pub read_more-requires : goal.read_more-requires
read_more-requires g c =
    let t = (goal.at.read_more-requires g c).In_default in
    (c.requires.inside.0, omega (arith, few g t, c.requires.inside), omega (arith, c.requires.in_bounds, c.take_turn.auto.out))

pub returns-in_default-clause-stepped : goal.returns-in_default-clause-stepped
returns-in_default-clause-stepped g c =
    let t = (goal.at.returns-in_default-clause-stepped g c).In_default in
    let x = c.read_more in
    subst (λ (m : Memory). Stepped (first g t) (midway x.result x.new.bytes m) x.result.failed) (sym (unmoved g t))
    (read_step c.args.p c.args.bytes.now _ (short_turn g t) x.ensures.0)

pub written-next-requires : goal.written-next-requires
written-next-requires g c = used_fits g (goal.at.written-next-requires g c).In-Some

pub returns-clause-stepped : goal.returns-clause-stepped
returns-clause-stepped g c =
    let a = c.args in
    let t = c.in-Some.t in
    rw c.written-next.ensures
    (written_step a.p a.bytes.now t _ a.bytes.now _ c.in-Some.ensures.out_after
    (hand-passed a.bytes.now a.p.from a.p.to t.used (used_fits g (goal.at.returns-clause-stepped g c).In-Some) c.requires.inside.0.inside))

pub returns-clause-inside_2 : goal.returns-clause-inside_2
returns-clause-inside_2 g c =
    let a = c.args in
    let t = c.in-Some.t in
    let x : Progress = record { mark = t.mark; from = a.p.from + t.used; to = a.p.to; ended = a.p.ended; failed = None } in
    rw c.written-next.ensures
    (provided-inside c.is_ok-wrote.result x Writing
    (record { forth = used_fits g (goal.at.returns-clause-inside_2 g c).In-Some; inside = c.requires.inside.0.inside }))
