-- A run that begins with an accepted start is under way, whatever calls follow, and it is that start's campaign until the next. Assumes nothing.
use mathlib.Core.Path.{◌≡◌, ap, subst, ◌∙◌}
use mathlib.Core.Bool.{true, false, cond, ◌&&◌, ◌||◌, or-true}
use mathlib.Core.List.{List, [], ◌∷◌, ◌++◌}
use Prim.Native.Nat.{ℕ}
use borrow.Author.Tests.{eq-eqb}
use lib.Dec.{T}
use Rattle.records.specs.Record.{fresh}
use Rattle.history.specs.Run.{World, Call, start, judge, file, withdraw, counts, response, summary, answer, accepted, run, starts, under_way, begun}
use Rattle.history.proofs.History.{if_alike}

pub stays_under_way : (w : World) (call : Call) (before : List Call) → under_way w before ≡ true → under_way w (call ∷ before) ≡ true
unfolding under_way
stays_under_way w call before u =
    ap (λ b. (starts call && accepted (run w before) call) || b) u ∙ or-true (starts call && accepted (run w before) call)

pub same_campaign : (w : World) (call : Call) (before : List Call) → starts call ≡ false → begun w (call ∷ before) ≡ begun w before
unfolding begun
same_campaign w (start N taps C E) before e = absurd (subst T e tt)
same_campaign w (judge N taps night y) before _ = if_alike (accepted (run w before) (judge N taps night y)) (begun w before)
same_campaign w (file d night y s) before _ = if_alike (accepted (run w before) (file d night y s)) (begun w before)
same_campaign w (withdraw d) before _ = if_alike (accepted (run w before) (withdraw d)) (begun w before)
same_campaign w counts before _ = if_alike (accepted (run w before) counts) (begun w before)
same_campaign w (response r mean room tags) before _ = if_alike (accepted (run w before) (response r mean room tags)) (begun w before)
same_campaign w (summary room tags) before _ = if_alike (accepted (run w before) (summary room tags)) (begun w before)

-- ---- an accepted start

module _ (w : World) (N taps C E : ℕ) (before : List Call) (accepted_0 : answer (run w before) (start N taps C E) ≡ 0) where
  pub started : under_way w (start N taps C E ∷ before) ≡ true
  unfolding under_way
  started = ap (λ b. b || under_way w before) (eq-eqb (answer (run w before) (start N taps C E)) 0 accepted_0)

  pub started_campaign : begun w (start N taps C E ∷ before) ≡ fresh N taps C E
  unfolding begun
  started_campaign = ap (λ b. cond b (fresh N taps C E) (begun w before)) (eq-eqb (answer (run w before) (start N taps C E)) 0 accepted_0)

pub from_start : (w : World) (N taps C E : ℕ) → answer w (start N taps C E) ≡ 0 → (cs : List Call) → under_way w (cs ++ start N taps C E ∷ []) ≡ true
unfolding run
from_start w N taps C E e [] = started w N taps C E [] e
from_start w N taps C E e (call ∷ cs) = stays_under_way w call (cs ++ start N taps C E ∷ []) (from_start w N taps C E e cs)
