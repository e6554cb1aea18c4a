-- `response::recording::one_recording` meets its contract: what is handed in decides 1 to 5, the room and the range 6 and 7. Assumes nothing.
use mathlib.Core.Path.{◌≡◌, refl, sym, ap, ◌∙◌}
use mathlib.Core.Bool.{Bool}
use mathlib.Core.List.{List, []}
use Prim.Native.Nat.{ℕ, ◌+◌}
use lib.IntN.{ℤ}
use lib.ListN.{length}
use Rattle.sums.specs.Lists.{at, table, put}
use Rattle.samples.specs.Samples.{room_short, cleared_wide, cleared_tags}
use Rattle.refusals.specs.declared.Answer.{Answer}
use Rattle.refusals.proofs.Causes.{never_0, exits}
use Rattle.register.specs.Register.{P, wave}
use Rattle.register.proofs.HowShort.{period-told}
use Rattle.response.specs.Response.{response}
use Rattle.response.specs.Calls.{given_checks, recording_outcome}
use Rattle.samples.proofs.Checks.{refused, six, seven, left}
use Rattle.response.proofs.Checks.{Given, given}
use Rattle.response.proofs.recording.one_recording.Goals as goal
use Rattle.response.proofs.recording.one_recording.Goals.{After-room_short, Start}

-- what is handed back on a refusal, what is made, and the test of the room
abbrev kept : Start → ℕ → ℕ × List ℤ × List ℤ × List ℕ
kept c n = let a = c.args in (n, a.out.now, a.room.now, a.tags.now)

abbrev made : Start → ℕ × List ℤ × List ℤ × List ℕ
made c =
    let a = c.args in (
      0,
      put (table (P a.order) (response (P a.order) (wave a.order a.taps) (at a.y.now))) a.out.now,
      cleared_wide (P a.order + 1) a.room.now,
      cleared_tags (P a.order) a.tags.now,
    )

abbrev short : Start → Bool
short c = let a = c.args in room_short (P a.order) (length a.out.now) (length a.room.now) (length a.tags.now)

-- what is known once what is handed in has passed
passed : (c : After-room_short) → Given c.args.order c.args.taps c.args.y.now c.in_ok-period.period
passed c = given c.args.order c.args.taps c.args.y.now c.in_ok-period.ensures

-- what the test of the room says
tested : (c : After-room_short) → let a = c.args in c.room_short.result ≡ room_short (P a.order) (length a.out.now) (length a.room.now) (length a.tags.now)
tested c = rw (passed c).long at c.room_short.ensures

pub returns-in_err-period : goal.returns-in_err-period
unfolding recording_outcome
returns-in_err-period c =
    let a = c.args in
    let d = c.in_err-period.field-0.0 in
    let s = (goal.at.returns-in_err-period c).Start in
    rw (exits c.from_residual.result d c.from_residual.ensures.1) (
      sym (refused (kept s) (made s) (given_checks a.order a.taps a.y.now) a.y.now (short s) [] (ap (λ (x : Answer). x.number) c.in_err-period.ensures) (never_0 d)),
      period-told a.order a.taps c.in_err-period.ensures,
    )

pub returns-then-room_short : goal.returns-then-room_short
unfolding recording_outcome
returns-then-room_short c =
    let s = (goal.at.returns-then-room_short c).Start in
    let r = (goal.at.returns-then-room_short c).After-room_short in
    (sym (six (kept s) (made s) (given_checks c.args.order c.args.taps c.args.y.now) c.args.y.now (short s) [] (sym (passed r).none) tt refl (sym (tested r) ∙ c.if-room_short.true)), refl)

pub returns-then-some_out : goal.returns-then-some_out
unfolding recording_outcome
returns-then-some_out c =
    let s = (goal.at.returns-then-some_out c).Start in
    let r = (goal.at.returns-then-some_out c).After-room_short in (
      sym (seven (kept s) (made s) (given_checks c.args.order c.args.taps c.args.y.now) c.args.y.now (short s) [] (sym (passed r).none) tt refl
          (sym (tested r) ∙ c.if-room_short.false) (sym c.some_out.ensures ∙ c.if-some_out.true)),
      refl,
    )

pub returns : goal.returns
unfolding recording_outcome
returns c =
    let s = (goal.at.returns c).Start in
    let r = (goal.at.returns c).After-room_short in (
      rw (c.turn.ensures.0, c.turn.ensures.1, c.turn.ensures.2, c.new.ensures.order, c.new.ensures.taps)
          (sym (left (kept s) (made s) (given_checks c.args.order c.args.taps c.args.y.now) c.args.y.now (short s) [] (sym (passed r).none) tt refl
          (sym (tested r) ∙ c.if-room_short.false) (sym c.some_out.ensures ∙ c.if-some_out.false))),
      (passed r).whole,
    )

pub new-requires : goal.new-requires
new-requires c = (passed (goal.at.new-requires c).After-room_short).accepted
