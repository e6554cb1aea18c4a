-- Document 02, request 8: two records, the sums of the second turned by d. Their responses and means are turned by d, and of their summaries highest, lowest
-- and the peak's size are the same. The peak is the same unless two of the largest places have opposite signs, and where they have, some d changes its sign.
-- Assumes nothing.
use mathlib.Core.Path.{◌≡◌, refl, sym, ap, ap₂, subst, ◌∙◌}
use mathlib.Core.Bool.{true}
use mathlib.Core.List.{List}
use Prim.Native.Nat.{ℕ, ◌+◌, ◌*◌, ◌%◌, ◌<◌}
use native.Mathlib.Omega.{arith}
use lib.IntN.{ℤ, pos, nat_abs}
use lib.Ieee.{neg}
use lib.Pow.{pow_mono}
use Rattle.sums.specs.Lists.{at}
use Rattle.sums.specs.Largest.{largest_at}
use Rattle.sums.specs.Turned.{turned}
use Rattle.sums.proofs.Turned.{turned_permutes}
use Rattle.register.specs.Register.{P, wave}
use Rattle.response.specs.Response as formula
use Rattle.response.proofs.Late.{response-late}
use Rattle.response.proofs.Linear.{response_ext}
use Rattle.rounding.specs.Rounding.{rounded}
use Rattle.records.specs.Record.{periods_standing, together}
use Rattle.records.proofs.Holding.{Together, holds-together}
use Rattle.trend.specs.Calls.{worked, divisor, mean_at, levels_of, summary_outcome}
use Rattle.trend.specs.declared.Levels.{Levels}
use Rattle.trend.specs.declared.Summary.TheVariants.{Measured}
use Rattle.trend.proofs.Bounds.{divisor-some, divisor_small, worked_small}
use Rattle.trend.proofs.Opposed.{Opposed}
use Rattle.trend.proofs.Late.{Turns, Unmoved, levels_unmoved, levels_turn, opposed_levels}
use Rattle.trend.proofs.Late as trend_late
use Rattle.history.specs.Run.{World}
use Rattle.history.proofs.ExactLevels.{levels, carried, carries_some}

-- a record with its memory holds together
abbrev pub Holds : World → Type 0
Holds w = together w.campaign w.store w.sums ≡ true

-- P, and r from the sums
abbrev pub places : World → ℕ
places w = P w.campaign.order

abbrev pub response_of : World → ℕ → ℤ
response_of w = worked w.campaign w.sums

-- the levels that a summary gives, in whatever room is lent
pub record Given (w : World) (l : Levels) : Type 0 where
  pub room : List ℤ
  pub tags : List ℕ
  pub is : (summary_outcome w.campaign w.store w.sums room tags).0 ≡ Measured l

-- the same order, taps and number of periods, and the sums turned by d
pub record SumsLate (d : ℕ) (w₁ w₂ : World) : Type 0 where
  pub order : w₂.campaign.order ≡ w₁.campaign.order
  pub taps : w₂.campaign.taps ≡ w₁.campaign.taps
  pub periods : periods_standing w₂.campaign ≡ periods_standing w₁.campaign
  pub sums : (j : ℕ) → j < places w₁ → at w₂.sums j ≡ turned (places w₁) d (at w₁.sums) j

-- ---- response and mean

module _ (d : ℕ) (w₁ w₂ : World) (s : SumsLate d w₁ w₂) where
  pub response-turned : (k : ℕ) → k < places w₁ → response_of w₂ k ≡ turned (places w₁) d (response_of w₁) k
  response-turned k l =
      let x = wave w₁.campaign.order w₁.campaign.taps in
      ap₂ (λ n t. formula.response (P n) (wave n t) (at w₂.sums) k) s.order s.taps
      ∙ response_ext (places w₁) x s.sums k ∙ response-late (places w₁) x (at w₁.sums) d k l

  same-divisor : divisor w₂.campaign ≡ divisor w₁.campaign
  same-divisor = ap₂ (λ n m. (P n + 1) * m) s.order s.periods

  -- in one edition
  pub mean_turned : w₂.campaign.edition ≡ w₁.campaign.edition
      → (k : ℕ) → k < places w₁ → mean_at w₂.campaign w₂.sums k ≡ turned (places w₁) d (mean_at w₁.campaign w₁.sums) k
  mean_turned e k l =
      ap₂ (λ a z. rounded a z (divisor w₂.campaign)) e (response-turned k l)
      ∙ ap (rounded w₁.campaign.edition (turned (places w₁) d (response_of w₁) k)) same-divisor

-- ---- levels

module _ (d : ℕ) (w₁ w₂ : World) (h₁ : Holds w₁) (h₂ : Holds w₂) (s : SumsLate d w₁ w₂) {l₁ l₂ : Levels} (g₁ : Given w₁ l₁) (g₂ : Given w₂ l₂) where
  holding : Together w₁.campaign w₁.store w₁.sums
  holding = (holds-together w₁.campaign w₁.store w₁.sums).0 h₁

  given₁ : levels w₁.campaign w₁.sums ≡ l₁
  given₁ = carried w₁.campaign w₁.store w₁.sums g₁.room g₁.tags h₁ l₁ g₁.is

  given₂ : levels_of (places w₁) (response_of w₂) (divisor w₁.campaign) ≡ l₂
  given₂ =
      sym (ap₂ (λ n m. levels_of n (response_of w₂) m) (ap P s.order) (same-divisor d w₁ w₂ s))
      ∙ carried w₂.campaign w₂.store w₂.sums g₂.room g₂.tags h₂ l₂ g₂.is

  pub levels_late : Unmoved (places w₁) (response_of w₁) l₁ l₂
  levels_late =
      subst (λ l. Unmoved (places w₁) (response_of w₁) l l₂) given₁
      (subst (Unmoved (places w₁) (response_of w₁) (levels w₁.campaign w₁.sums)) given₂
      (levels_unmoved (record { from = λ j. (j + d) % places w₁; permutes = turned_permutes (places w₁) d; each = response-turned d w₁ w₂ s })
      (omega (arith, pow_mono {i = 2} {j = w₁.campaign.order} holding.filed.accepted.shaped.least))
      (divisor w₁.campaign)))

  -- so where the first's lowest level is not its highest with the other sign, the peak keeps its sign
  pub peak_stays : (l₁.lowest ≡ neg l₁.highest → ⊥) → l₂.peak ≡ l₁.peak
  peak_stays n =
      levels_late.peak (λ o. n (subst (λ (l : Levels). l.lowest ≡ neg l.highest) given₁ (opposed_levels (places w₁) (response_of w₁) (divisor w₁.campaign) o)))

  -- the level at the peak has the other sign, and is another double
  turned_round : (t : Turns (places w₁) (response_of w₁)) → t.by ≡ d → (l₂.peak ≡ neg l₁.peak) × (l₂.peak ≡ l₁.peak → ⊥)
  turned_round t e =
      subst (λ l. (l₂.peak ≡ neg l.peak) × (l₂.peak ≡ l.peak → ⊥)) given₁
      (subst (λ l. (l.peak ≡ neg (levels w₁.campaign w₁.sums).peak) × (l.peak ≡ (levels w₁.campaign w₁.sums).peak → ⊥)) given₂
      (levels_turn t (λ j l. response-turned d w₁ w₂ s j l ∙ ap (λ n. turned (places w₁) n (response_of w₁) j) (sym e)) (divisor w₁.campaign)
      (omega (arith, worked_small w₁.campaign w₁.store w₁.sums holding (largest_at (places w₁) (λ k. pos (nat_abs (response_of w₁ k))))))
      (divisor-some w₁.campaign holding.filed (carries_some w₁.campaign w₁.store w₁.sums g₁.room g₁.tags h₁ l₁ g₁.is))
      (omega (arith, divisor_small w₁.campaign holding.filed))))

-- a d that changes the sign of the level at the peak
pub record PeakTurns (w₁ : World) : Type 0 where
  pub by : ℕ
  pub by_within : by < places w₁
  pub turns : (w₂ : World) → Holds w₂ → SumsLate by w₁ w₂ → (l₁ l₂ : Levels) → Given w₁ l₁ → Given w₂ l₂
      → (l₂.peak ≡ neg l₁.peak) × (l₂.peak ≡ l₁.peak → ⊥)

pub peak_turns : (w₁ : World) → Holds w₁ → Opposed (places w₁) (response_of w₁) → PeakTurns w₁
peak_turns w₁ h₁ o =
    let t = trend_late.peak_turns (places w₁) (response_of w₁) o in
    record {
      by = t.by;
      by_within = t.by_within;
      turns = λ w₂ h₂ s l₁ l₂ g₁ g₂. turned_round t.by w₁ w₂ h₁ h₂ s g₁ g₂ t refl;
    }
