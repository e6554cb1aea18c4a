-- How many lines of the response follow an item: at most 511. Assumes nothing.
use mathlib.Core.Path.{◌≡◌, refl}
use mathlib.Core.Bool.{Bool, true, false, cond}
use mathlib.Core.List.{List}
use Prim.Native.Nat.{ℕ, zero, suc, ◌≤◌}
use native.Mathlib.Omega.{arith}
use borrow.Author.Tests.{leb-true}
use lib.Dec.{leb}
use lib.IntN.{ℤ}
use lib.Pow.{pow_mono}
use Rattle.sums.specs.Refusals.{answered, first}
use Rattle.register.specs.Register.{P}
use Rattle.records.specs.declared.Campaign.{Campaign}
use Rattle.trend.specs.Calls.{response_outcome}
use Rattle.logitems.specs.declared.Phase.{Phase}
use Rattle.logitems.specs.declared.Phase.TheVariants as phase
use Rattle.logitems.specs.declared.Item.{Item}
use Rattle.logitems.specs.declared.Item.TheVariants as item
use Rattle.logeffects.specs.Book.{day_length, log_start_checks, began_outcome, log_enter_checks, entered_outcome, closed_outcome, Memory, applied}
use Rattle.logeffects.specs.declared.Book.{Book}
use Rattle.logeffects.specs.declared.Applied.{Applied}

day_in : (N : ℕ) (b : Bool) → leb N 9 ≡ b → cond b (P N) 0 ≤ 511
day_in N true e = omega (arith, pow_mono (leb-true N 9 e))
day_in N false e = omega arith

pub day_short : (N : ℕ) → day_length N ≤ 511
day_short N = day_in N (leb N 9) refl

none : (k : ℕ) (refused : ℕ → Applied × List ℤ × List ℤ) (accepted : Applied × List ℤ × List ℤ) → ((n : ℕ) → (refused n).0.rows ≡ 0)
    → accepted.0.rows ≡ 0
    → (answered k refused accepted).0.rows ≡ 0
none zero refused accepted f e = e
none (suc k) refused accepted f e = f (suc k)

pub start_few : (c : Campaign) (N taps C : ℕ) (store sums : List ℤ) → (began_outcome c N taps C store sums).0.rows ≡ 0
unfolding began_outcome
start_few c N taps C store sums = none (first (log_start_checks N taps C)) _ _ (λ n. refl) refl

close_few : (p : Phase) (c : Campaign) (store sums y : List ℤ) → (closed_outcome p c store sums y).0.rows ≡ 0
unfolding entered_outcome
close_few phase.Unbegun c store sums y = refl
close_few (phase.Between begun) c store sums y = refl
close_few (phase.Open d night n) c store sums y = none (first (log_enter_checks d night)) _ _ (λ k. refl) refl
close_few phase.Stopped c store sums y = refl

rows_in : (k n : ℕ) → n ≤ 511 → answered k (λ _. 0) n ≤ 511
rows_in zero n h = h
rows_in (suc k) n h = omega arith

pub rows_few : (b : Book) (i : Item) (m : Memory) → (applied b i m).0.rows ≤ 511
unfolding applied
rows_few b (item.Start N taps C) m = omega (arith, start_few b.campaign N taps C m.store m.sums)
rows_few b (item.Open d) m = omega arith
rows_few b (item.Sample v) m = omega arith
rows_few b item.Enter m = omega (arith, close_few b.phase b.campaign m.store m.sums m.recording)
rows_few b (item.Withdraw d) m = omega arith
rows_few b (item.Capture d k) m = omega arith
rows_few b (item.Edition e) m = omega arith
rows_few b item.Ask m =
    rows_in (response_outcome b.campaign m.store m.sums m.r m.mean m.room m.tags).0 (day_length b.campaign.order)
    (day_short b.campaign.order)
