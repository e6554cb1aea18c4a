-- `logprogram::turning::take_turn` meets its contract: each case is the turn on what was found. Assumes nothing.
use mathlib.Core.Path.{◌≡◌, sym, ap, subst, ◌∙◌}
use Rattle.logitems.specs.Log.{decoded}
use Rattle.logitems.specs.declared.Found.{Found}
use Rattle.logitems.specs.declared.Found.TheVariants as found
use Rattle.logitems.proofs.Finding.{fits_kind, whole_size, whole_fits}
use Rattle.logeffects.specs.Book.{memory}
use Rattle.logprogram.specs.Program.{Place, place_of, stands_at, turn_on, turn}
use Rattle.logprogram.proofs.Turns.{StandsAt, found_at, turn_by}
use Rattle.logprogram.proofs.turning.take_turn.Goals as goal
use Rattle.logprogram.proofs.turning.take_turn.Goals.{After-decode}

-- the place at entry, and what was found there
module _ (c : After-decode) (f : Found) (e : f ≡ decoded c.args.mark.book.phase c.day_length-period.result c.args.bytes.now c.args.ended) where
  abbrev place : Place
  place = let a = c.args in place_of a.mark (memory a.store.now a.sums.now a.recording.now a.r.now a.mean.now a.room.now a.tags.now)

  stands : f ≡ stands_at place c.args.bytes.now c.args.ended
  stands = e ∙ ap (λ n. decoded c.args.mark.book.phase n c.args.bytes.now c.args.ended) c.day_length-period.ensures

  found_turn : turn place c.args.bytes.now c.args.ended ≡ turn_on place f
  found_turn = turn_by place c.args.bytes.now c.args.ended f stands

  -- a whole item
  whole : StandsAt place c.args.bytes.now c.args.ended f
  whole = subst (StandsAt place c.args.bytes.now c.args.ended) (sym stands) (found_at place c.args.bytes.now c.args.ended)

pub take_item-requires-clause-item_value : goal.take_item-requires-clause-item_value
take_item-requires-clause-item_value c =
    fits_kind (whole_fits (whole (goal.at.take_item-requires-clause-item_value c).After-decode _ c.in-Whole.ensures))

pub take_item-requires-clause-size_bound : goal.take_item-requires-clause-size_bound
take_item-requires-clause-size_bound c =
    let w = whole (goal.at.take_item-requires-clause-size_bound c).After-decode _ c.in-Whole.ensures in
    ((whole_size w).2, c.requires.0, c.requires.1, c.requires.2, c.requires.3)

pub returns-in-Whole-clause-out_after : goal.returns-in-Whole-clause-out_after
returns-in-Whole-clause-out_after c =
    c.take_item.ensures.out_after ∙ sym (found_turn (goal.at.returns-in-Whole-clause-out_after c).After-decode _ c.in-Whole.ensures)

pub returns-in-Short-clause-out_after : goal.returns-in-Short-clause-out_after
returns-in-Short-clause-out_after c = sym (found_turn (goal.at.returns-in-Short-clause-out_after c).After-decode found.Short c.in-Short.ensures)

pub returns-in-Bad-clause-out_after : goal.returns-in-Bad-clause-out_after
returns-in-Bad-clause-out_after c =
    c.bad.ensures.0 _ ∙ sym (found_turn (goal.at.returns-in-Bad-clause-out_after c).After-decode found.Bad c.in-Bad.ensures)

pub returns-in-End-clause-out_after : goal.returns-in-End-clause-out_after
returns-in-End-clause-out_after c =
    rw c.end.ensures (sym (found_turn (goal.at.returns-in-End-clause-out_after c).After-decode found.End c.in-End.ensures))
