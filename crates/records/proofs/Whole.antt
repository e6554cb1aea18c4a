-- The tests that reread a record, its store and its sums, and holding together: each follows from it, and it from all of them. Assumes nothing.
use mathlib.Core.Path.{◌≡◌, refl, sym}
use mathlib.Core.Bool.{Bool, true, false, true≢false}
use mathlib.Core.List.{List}
use Prim.Native.Nat.{◌*◌, ◌≤◌}
use native.Mathlib.Omega.{arith}
use lib.IntN.{ℤ}
use lib.ListN.{length}
use Rattle.register.specs.Register.{P}
use Rattle.records.specs.Record.{edition_holds, together}
use Rattle.records.specs.Blocks.{Block}
use Rattle.records.specs.declared.Campaign.{Campaign}
use Rattle.records.proofs.Holding.{Filed, Together, holds-together}
use Rattle.sums.proofs.Everywhere.{never_true}

-- two truth values, each true where the other is
pub both_ways : (a b : Bool) → (a ≡ true → b ≡ true) → (b ≡ true → a ≡ true) → a ≡ b
both_ways true b h g = sym (h refl)
both_ways false b h g = sym (never_true b (λ e. true≢false (sym (g e))))

module _ (c : Campaign) (store sums : List ℤ) where
  abbrev pub AllPlaces : Type 0
  AllPlaces = Block c.slots c.periods c.capacity (P c.order) store sums 0 (P c.order)

  pub whole : Filed c → edition_holds c ≡ true → c.capacity * P c.order ≤ length store → P c.order ≤ length sums → AllPlaces → Together c store sums
  whole f e a b k =
      record {
        filed = f;
        edition = e;
        store_long = a;
        sums_long = b;
        used = λ s l u j h. (k.rows s l).used u j (omega arith) (omega arith);
        zeros = λ s l e j h. (k.rows s l).zeros e j (omega arith) (omega arith);
        total = λ j h. k.total j (omega arith) (omega arith);
      }

  pub all_places : Together c store sums → AllPlaces
  all_places t =
      record {
        rows = λ s l. record { used = λ u j h k. t.used s l u j (omega arith); zeros = λ e j h k. t.zeros s l e j (omega arith) };
        total = λ j h k. t.total j (omega arith);
      }

  -- what cannot hold together does not
  pub does_not : (Together c store sums → ⊥) → false ≡ together c store sums
  does_not h = sym (never_true (together c store sums) (λ e. h ((holds-together c store sums).0 e)))
