-- What a campaign says: counts, response and summary, each by one function from all that is handed in to all that is handed back: document 01,
-- "The campaign", "Refusal numbers", "Order of checks" and "Room", and document 02, requests 1, 7 and 9. Assumes nothing.
use Rattle.std.specs.Prelude.{List, [], ◌∷◌, Bool, cond, ◌||◌, ℕ, ◌+◌, ◌*◌, eqb, ltb, Float, ℤ, pos, nat_abs, length, Result, Ok, Err}
use Rattle.std.specs.Float.{binary64}
use Rattle.std.specs.Float.Ieee.{of_int, div}
use Rattle.sums.specs.Lists.{at, table, put}
use Rattle.sums.specs.Largest.{largest_at, largest, smallest}
use Rattle.sums.specs.Refusals.{outcome, Meaning, accepts, refuses}
use Rattle.register.specs.Register.{P, wave}
use Rattle.response.specs.Response.{response}
use Rattle.rounding.specs.Rounding.{rounded}
use Rattle.samples.specs.Samples.{work_short, room_short, cleared_wide, cleared_tags}
use Rattle.records.specs.Record.{unseen, standing, overloaded, dead, withdrawn, days_in, periods_standing, apart}
use Rattle.records.specs.declared.Campaign.{Campaign}
use Rattle.trend.specs.declared.Tally.{Tally}
use Rattle.trend.specs.declared.Extremes.{Extremes}
use Rattle.trend.specs.declared.Levels.{Levels}
use Rattle.trend.specs.declared.Summary.{Summary}
use Rattle.trend.specs.declared.Summary.TheVariants as summary

-- ---- counts: 15

abbrev pub tally : Campaign → Tally
tally c =
    record {
      unseen = days_in c unseen;
      standing = days_in c standing;
      overloaded = days_in c overloaded;
      dead = days_in c dead;
      withdrawn = days_in c withdrawn;
    }

unfoldable pub counts_outcome : Campaign → List ℤ → List ℤ → Result Tally ℕ
counts_outcome c store sums = outcome ((15, apart c store sums) ∷ []) Err (Ok (tally c))

-- ---- response: 15, 6, 14; the answer, r, the mean, the wide room and the tags

-- 6: by the lengths lent, r and the mean of P each, and the working room
abbrev pub answer_short : ℕ → ℕ → ℕ → ℕ → ℕ → Bool
answer_short P r mean room tags = ltb r P || room_short P mean room tags

abbrev pub response_checks : Campaign → List ℤ → List ℤ → List ℤ → List ℤ → List ℤ → List ℕ → List (ℕ × Bool)
response_checks c store sums r mean room tags =
    (15, apart c store sums)
    ∷ (6, answer_short (P c.order) (length r) (length mean) (length room) (length tags))
    ∷ (14, eqb (days_in c standing) 0)
    ∷ []

-- r worked from the sums; r over (P+1)·n, n periods standing, rounded by the record's edition
abbrev pub worked : Campaign → List ℤ → ℕ → ℤ
worked c sums = response (P c.order) (wave c.order c.taps) (at sums)

abbrev pub divisor : Campaign → ℕ
divisor c = (P c.order + 1) * periods_standing c

abbrev pub mean_at : Campaign → List ℤ → ℕ → ℤ
mean_at c sums k = rounded c.edition (worked c sums k) (divisor c)

unfoldable pub response_outcome : Campaign → List ℤ → List ℤ → List ℤ → List ℤ → List ℤ → List ℕ → ℕ × List ℤ × List ℤ × List ℤ × List ℕ
response_outcome c store sums r mean room tags =
    outcome (response_checks c store sums r mean room tags) (λ n. (n, r, mean, room, tags)) (
      0,
      put (table (P c.order) (worked c sums)) r,
      put (table (P c.order) (mean_at c sums)) mean,
      cleared_wide (P c.order + 1) room,
      cleared_tags (P c.order) tags,
    )

-- ---- summary: 15, 6, then nothing stands; the levels, the wide room and the tags

-- highest r, lowest r, and r at the peak, the first place of the largest |r|
abbrev pub extremes_of : ℕ → (ℕ → ℤ) → Extremes
extremes_of n r =
    record {
      highest = largest n r;
      lowest = smallest n r;
      peak = r (largest_at n (λ k. pos (nat_abs (r k))));
    }

-- the exact whole number made a double and divided once
unfoldable pub level : ℤ → ℕ → Float
level z d = div binary64 (of_int binary64 z) (of_int binary64 (pos d))

abbrev pub levels_of : ℕ → (ℕ → ℤ) → ℕ → Levels
levels_of n r d =
    record {
      highest = level (extremes_of n r).highest d;
      lowest = level (extremes_of n r).lowest d;
      peak = level (extremes_of n r).peak d;
    }

abbrev pub summary_checks : Campaign → List ℤ → List ℤ → List ℤ → List ℕ → List (ℕ × Bool)
summary_checks c store sums room tags = (15, apart c store sums) ∷ (6, work_short (P c.order) (length room) (length tags)) ∷ []

unfoldable pub summary_outcome : Campaign → List ℤ → List ℤ → List ℤ → List ℕ → Summary × List ℤ × List ℕ
summary_outcome c store sums room tags =
    outcome (summary_checks c store sums room tags) (λ n. (summary.Refused n, room, tags))
    (cond (eqb (days_in c standing) 0) (summary.Nothing, room, tags) (
      summary.Measured (levels_of (P c.order) (worked c sums) (divisor c)),
      cleared_wide (P c.order + 1) room,
      cleared_tags (P c.order) tags,
    ))

-- ---- this paper's number for each case of an answer, 0 where it is accepted, and its values

-- whether some day stands, 1 or 0; and the levels, given where one does
abbrev pub summary_means : Summary → Meaning (ℕ × Levels)
summary_means summary.Nothing = (0, λ was. (0, was.1))
summary_means (summary.Measured l) = accepts (1, l)
summary_means (summary.Refused n) = refuses n

abbrev pub summary_number : Summary → ℕ
summary_number s = (summary_means s).0
