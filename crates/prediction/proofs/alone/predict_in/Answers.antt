-- `prediction::alone::predict_in` meets its contract: what is read at the windows is the prediction. Assumes nothing.
use mathlib.Core.Path.{◌≡◌, sym, ap, ◌∙◌}
use mathlib.Core.List.{List}
use Prim.Native.Nat.{ℕ, ◌+◌, ◌-◌, ◌^◌, ◌<◌}
use native.Mathlib.Omega.{arith}
use lib.IntN.{ℤ, pos}
use lib.ListN.{length}
use lib.Pow.{suc_ones}
use Rattle.sums.specs.Lists.{at, table, put}
use Rattle.sums.proofs.Somewhere.{some_ext}
use Rattle.sums.proofs.Tables.{at-put, table_ext}
use Rattle.register.specs.Register.{P, window, wave, tag, Accepted}
use Rattle.register.proofs.Windows.{window-lt}
use Rattle.register.proofs.Word.{small}
use Rattle.response.specs.Response.{prediction}
use Rattle.samples.specs.Samples.{sample_out, some_out, cleared_wide}
use Rattle.response.specs.Route.{Laid, spectrum}
use Rattle.response.proofs.Clearing.{cleared_again}
use Rattle.response.proofs.FastRoute.{tags_walk, loud, route_back}
use Rattle.samples.proofs.Sizes.{quiet}
use Rattle.prediction.proofs.alone.predict_in.Goals as goal
use Rattle.prediction.proofs.alone.predict_in.Goals.{After-transform_room}

-- the room as the transform leaves it, read at the windows
module _ (N taps : ℕ) (a : Accepted N taps) (h was v t : List ℤ) (laid : Laid (P N) (λ i. tag N taps (P N - i)) (at h) was v)
    (long : P N < length was) (e : t ≡ put (table (2 ^ N) (spectrum N v)) v) where
  room_long : P N < length v
  room_long = omega (arith, laid.long)

  heard : (j : ℕ) → at t (window N taps j) ≡ prediction (P N) (wave N taps) (at h) j
  heard j =
      rw e (at-put (2 ^ N) (spectrum N v) v (window N taps j) (pos 0) (window-lt N taps j)) ∙ route_back N taps a room_long laid j

  sample-out-at : some_out (P N) (λ j. at t (window N taps j)) ≡ some_out (P N) (prediction (P N) (wave N taps) (at h))
  sample-out-at = some_ext (P N) (λ j _. ap sample_out (heard j))

told : (c : After-transform_room) → let a = c.args in
    some_out (P a.register.order) (λ j. at c.transform_room.new.room (window a.register.order a.register.taps j))
    ≡ some_out (P a.register.order) (prediction (P a.register.order) (wave a.register.order a.register.taps) (at a.h.now))
told c =
    let a = c.args in
    sample-out-at a.register.order a.register.taps c.args.register.accepted a.h.now a.room.now _ _ c.spread_back.ensures
    c.requires.h_len.2 c.transform_room.ensures

-- past what was used the room is as it was
room-kept : (c : After-transform_room) → let a = c.args in
    cleared_wide (P a.register.order + 1) c.transform_room.new.room ≡ cleared_wide (P a.register.order + 1) a.room.now
room-kept c =
    let N = c.args.register.order in
    ap (cleared_wide (P N + 1)) c.transform_room.ensures ∙ cleared_again N c.spread_back.ensures _

pub transform_room-requires : goal.transform_room-requires
transform_room-requires c =
    let N = c.args.register.order in
    let wide : P N < length c.spread_back.new.room = omega (arith, c.spread_back.ensures.long, c.requires.h_len.2) in (
      c.args.register.accepted.shaped.most,
      omega (arith, c.requires.h_len.0, suc_ones N),
      omega (arith, c.requires.h_len.0),
      rw (loud N (tags_walk N c.args.register.taps c.args.register.accepted) c.spread_back.ensures wide)
          (quiet c.args.h.now (P N) c.requires.h_len.0 (omega (arith, small c.args.register.accepted.shaped.most)) c.requires.h_value),
    )

pub returns-then-some_sample_out : goal.returns-then-some_sample_out
returns-then-some_sample_out c =
    let t = (goal.at.returns-then-some_sample_out c).After-transform_room in
    let tested = rw c.requires.h_len.0 at c.some_sample_out.ensures ∙ told t in
    (simp (sym tested ∙ c.if-some_sample_out.true), room-kept t)

pub returns : goal.returns
returns c =
    let a = c.args in
    let p = c.requires.h_len in
    let t = (goal.at.returns c).After-transform_room in
    let tested = rw p.0 at c.some_sample_out.ensures ∙ told t in (
      rw (rw p.0 at c.write_samples.ensures
          ∙ ap (λ l. put l a.out.now)
          (table_ext (P a.register.order)
          (λ j _. heard a.register.order a.register.taps a.register.accepted a.h.now a.room.now _ _ c.spread_back.ensures p.2 c.transform_room.ensures j)))
          (simp (sym tested ∙ c.if-some_sample_out.false)),
      room-kept t,
    )
