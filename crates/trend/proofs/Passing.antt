-- What the checks of a response and of a summary have shown where none refuses. Assumes nothing.
use mathlib.Core.Path.{◌≡◌}
use mathlib.Core.List.{List}
use Prim.Native.Nat.{ℕ, ◌≤◌, ◌<◌}
use borrow.Author.Tests.{eqb-false}
use lib.IntN.{ℤ}
use lib.ListN.{length}
use Rattle.sums.specs.Refusals.{first}
use Rattle.sums.proofs.First.{passes}
use Rattle.register.specs.Register.{P}
use Rattle.samples.proofs.Rooms.{work_long}
use Rattle.records.specs.Record.{standing, days_in}
use Rattle.records.specs.declared.Campaign.{Campaign}
use Rattle.records.proofs.Holding.{Together, not_apart}
use Rattle.trend.specs.Calls.{response_checks, summary_checks}
use Rattle.trend.proofs.Enough.{answer_long}

-- ---- a response

pub record Answers (c : Campaign) (store sums r mean room : List ℤ) (tags : List ℕ) : Type 0 where
  pub whole : Together c store sums
  pub r_long : P c.order ≤ length r
  pub mean_long : P c.order ≤ length mean
  pub room_long : P c.order < length room
  pub tags_long : P c.order ≤ length tags
  pub some : days_in c standing ≡ 0 → ⊥

pub answers : (c : Campaign) (store sums r mean room : List ℤ) (tags : List ℕ) → first (response_checks c store sums r mean room tags) ≡ 0
    → Answers c store sums r mean room tags
answers c store sums r mean room tags z =
    let p = passes (response_checks c store sums r mean room tags) tt z in
    let long = answer_long (P c.order) (length r) (length mean) (length room) (length tags) p.1.0 in
    record {
      whole = not_apart c store sums p.0;
      r_long = long.0;
      mean_long = long.1;
      room_long = long.2;
      tags_long = long.3;
      some = eqb-false (days_in c standing) 0 p.1.1.0;
    }

-- ---- a summary

pub record Measures (c : Campaign) (store sums room : List ℤ) (tags : List ℕ) : Type 0 where
  pub whole : Together c store sums
  pub room_long : P c.order < length room
  pub tags_long : P c.order ≤ length tags

pub measures : (c : Campaign) (store sums room : List ℤ) (tags : List ℕ) → first (summary_checks c store sums room tags) ≡ 0 → Measures c store sums room tags
measures c store sums room tags z =
    let p = passes (summary_checks c store sums room tags) tt z in
    let work = work_long (P c.order) (length room) (length tags) p.1.0 in
    record { whole = not_apart c store sums p.0; room_long = work.0; tags_long = work.1 }
