-- Document 02, request 9: the same record in the other edition. Counts and summary are equal, and a response's answer, its r, the room and the tags: only the
-- mean may differ. Assumes nothing.
use mathlib.Core.Path.{◌≡◌, refl, sym, ap, ◌∙◌}
use mathlib.Core.Bool.{true, ◌&&◌}
use mathlib.Core.List.{List}
use Prim.Native.Nat.{ℕ, zero, suc, ◌+◌}
use lib.IntN.{ℤ}
use Rattle.sums.specs.Lists.{table, put}
use Rattle.sums.specs.Refusals.{first, answered}
use Rattle.register.specs.Register.{P}
use Rattle.rounding.specs.Rounding.{is_edition, rounded}
use Rattle.samples.specs.Samples.{cleared_wide, cleared_tags}
use Rattle.records.specs.Record.{taps_hold, slots_hold, states_hold, past_free, room_holds, slots_stand, one_slot, periods_hold, used_within, free_zero, sums_hold, together}
use Rattle.records.specs.declared.Campaign.{Campaign}
use Rattle.trend.specs.Calls.{worked, divisor, counts_outcome, response_checks, response_outcome, summary_outcome}

-- the record in edition e
abbrev pub in_edition : Campaign → ℕ → Campaign
in_edition c e =
    record { order = c.order; taps = c.taps; capacity = c.capacity; edition = e; days = c.days; slots = c.slots; periods = c.periods }

module _ (c : Campaign) (e : ℕ) (store sums : List ℤ) (p : is_edition c.edition ≡ true) (q : is_edition e ≡ true) where
  pub same-together : together (in_edition c e) store sums ≡ together c store sums
  unfolding together
  same-together =
      ap
      (λ b. taps_hold c && slots_hold c && b && states_hold c && past_free c && room_holds c store sums && slots_stand c && one_slot c && periods_hold c && used_within c store
      && free_zero c store && sums_hold c store sums)
      (q ∙ sym p)

  pub same_counts : counts_outcome (in_edition c e) store sums ≡ counts_outcome c store sums
  unfolding counts_outcome
  same_counts = rw same-together

  pub same_summary : (room : List ℤ) (tags : List ℕ) → summary_outcome (in_edition c e) store sums room tags ≡ summary_outcome c store sums room tags
  unfolding summary_outcome
  same_summary room tags = rw same-together

  module _ (r mean room : List ℤ) (tags : List ℕ) where
    -- accepted in edition k
    abbrev given : ℕ → ℕ × List ℤ × List ℤ × List ℤ × List ℕ
    given k = (
      0,
      put (table (P c.order) (worked c sums)) r,
      put (table (P c.order) (λ i. rounded k (worked c sums i) (divisor c))) mean,
      cleared_wide (P c.order + 1) room,
      cleared_tags (P c.order) tags,
    )

    abbrev Alike : ℕ × List ℤ × List ℤ × List ℤ × List ℕ → ℕ × List ℤ × List ℤ × List ℤ × List ℕ → Type 0
    Alike o u = (o.0 ≡ u.0) × (o.1 ≡ u.1) × (o.3 ≡ u.3) × (o.4 ≡ u.4)

    pub same_but_means : Alike (response_outcome (in_edition c e) store sums r mean room tags) (response_outcome c store sums r mean room tags)
    unfolding response_outcome
    same_but_means = rw same-together (by_answer (first (response_checks c store sums r mean room tags)))
      where
        by_answer : (n : ℕ) → Alike (answered n (λ n. (n, r, mean, room, tags)) (given e)) (answered n (λ n. (n, r, mean, room, tags)) (given c.edition))
        by_answer zero = (refl, refl, refl, refl)
        by_answer (suc n) = (refl, refl, refl, refl)
