-- When what is lent for a response is too short, and when it is enough; and a buffer whose first n are zeros is cleared already. Assumes nothing.
use mathlib.Core.Path.{◌≡◌, refl, sym}
use mathlib.Core.Logic.{◌↔◌, ◌⊎◌}
use mathlib.Core.Bool.{true, false}
use mathlib.Core.List.{List}
use Prim.Native.Nat.{ℕ, ◌+◌, ◌≤◌, ◌<◌}
use native.Mathlib.Omega.{arith}
use borrow.Author.Tests.{ltb-false, le-ltb}
use lib.Dec.{ltb}
use lib.IntN.{ℤ, pos}
use lib.ListN.{length}
use Rattle.sums.specs.Lists.{at}
use Rattle.sums.proofs.First.{or-false, or_exactly, ltb_exactly}
use Rattle.sums.proofs.Tables.{by_places}
use Rattle.samples.specs.Samples.{work_short, room_short, cleared_wide}

-- ---- the working room

module _ (P room tags : ℕ) where
  pub work_short_lem : (work_short P room tags ≡ true) ↔ ((room < P + 1) ⊎ (tags < P))
  work_short_lem = or_exactly (ltb room (P + 1)) (ltb tags P) (ltb_exactly room (P + 1)) (ltb_exactly tags P)

  pub work_long : work_short P room tags ≡ false → (P < room) × (P ≤ tags)
  work_long h = let w = or-false (ltb room (P + 1)) (ltb tags P) h in (omega (arith, ltb-false room (P + 1) w.0), ltb-false tags P w.1)

  pub work_enough : P + 1 ≤ room → P ≤ tags → work_short P room tags ≡ false
  work_enough r t = simp (le-ltb room (P + 1) r, le-ltb tags P t)

  -- ---- and an output

  pub room_short_lem : (out : ℕ) → (room_short P out room tags ≡ true) ↔ ((out < P) ⊎ (room < P + 1) ⊎ (tags < P))
  room_short_lem out = or_exactly (ltb out P) (work_short P room tags) (ltb_exactly out P) work_short_lem

  pub room_long : (out : ℕ) → room_short P out room tags ≡ false → (P ≤ out) × (P < room) × (P ≤ tags)
  room_long out h = let w = or-false (ltb out P) (work_short P room tags) h in let l = work_long w.1 in (ltb-false out P w.0, l.0, l.1)

  pub room_enough : (out : ℕ) → P ≤ out → P + 1 ≤ room → P ≤ tags → room_short P out room tags ≡ false
  room_enough out o r t = simp (le-ltb out P o, work_enough r t)

-- ---- zeros

pub cleared_zeros : (n : ℕ) (v : List ℤ) → n ≤ length v → ((i : ℕ) → i < n → at v i ≡ pos 0) → cleared_wide n v ≡ v
cleared_zeros n v l zeros = sym (by_places (pos 0) n (λ _. pos 0) v v l refl zeros (λ i _. refl))
