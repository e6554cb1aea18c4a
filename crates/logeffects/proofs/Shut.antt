-- Where no day is open a sample and an entry do nothing. Assumes nothing.
use mathlib.Core.Path.{◌≡◌, refl}
use mathlib.Core.Logic.{inl, inr}
use mathlib.Core.List.{List, [], ◌∷◌}
use Prim.Native.Nat.{ℕ}
use native.Mathlib.Omega.{arith}
use denote.Enum.Declared.{tag_of}
use types.Run.{OneOf}
use lib.IntN.{ℤ}
use Rattle.nights.specs.declared.Night.{Night}
use Rattle.records.specs.declared.Campaign.{Campaign}
use Rattle.logitems.specs.contracts.Phase.{the_type}
use Rattle.logitems.specs.declared.Phase.{Phase}
use Rattle.logitems.specs.declared.Phase.TheVariants as phase
use Rattle.report.specs.declared.Line.TheVariants as line
use Rattle.logeffects.specs.Book.{said, took_sample, closed_outcome}

-- what is left of the phases once it is not `Open`, by their places in the enum
abbrev pub Shut : Phase → Type 0
Shut p = OneOf (0 ∷ 1 ∷ 3 ∷ []) (tag_of the_type p)

not_open : (d n : ℕ) (night : Night) → Shut (phase.Open d night n) → ⊥
not_open d n night (inl e) = omega arith
not_open d n night (inr (inl e)) = omega arith
not_open d n night (inr (inr e)) = omega arith

pub no_sample : (p : Phase) (v : ℤ) (y : List ℤ) → Shut p → (p, y) ≡ took_sample p v y
no_sample phase.Unbegun v y s = refl
no_sample (phase.Between begun) v y s = refl
no_sample (phase.Open d night n) v y s = absurd (not_open d n night s)
no_sample phase.Stopped v y s = refl

pub no_entry : (p : Phase) (c : Campaign) (store sums y : List ℤ) → Shut p → (said p c line.Silent, store, sums) ≡ closed_outcome p c store sums y
no_entry phase.Unbegun c store sums y s = refl
no_entry (phase.Between begun) c store sums y s = refl
no_entry (phase.Open d night n) c store sums y s = absurd (not_open d n night s)
no_entry phase.Stopped c store sums y s = refl
