-- docs/YEAR.md, "Memory" and "Two campaigns": how much the calls are lent, and what a plan has to keep to for that to be enough.
-- Assumes nothing.
use Rattle.std.specs.Prelude.{ℕ, ◌+◌, ◌*◌, ◌≤◌, ◌<◌}

abbrev pub store_places : ℕ
store_places = 24600

abbrev pub places : ℕ
places = 600

abbrev pub tag_places : ℕ
tag_places = 1100

abbrev pub recording : ℕ
recording = 2600

abbrev pub visits : ℕ
visits = 732

-- ---- the front parts that a response is lent lie within what there is

pub record Within (values means wide tagged : ℕ) : Type 0 where
  pub values_fit : values ≤ places
  pub means_fit : means ≤ places
  pub wide_fit : wide ≤ places
  pub tags_fit : tagged ≤ tag_places

-- ---- a plan whose recordings, store and visits fit

pub record Runs (capacity period lag most : ℕ) : Type 0 where
  pub shortest : 2 ≤ period
  pub longest : period < places
  pub some-periods : 1 ≤ most
  pub few_periods : most ≤ 16
  pub captures_fit : (1 + most) * period ≤ recording
  pub some_slots : 0 < capacity
  pub store_holds : capacity * period ≤ store_places
  pub lag_within : lag ≤ visits
