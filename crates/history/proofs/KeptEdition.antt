-- Document 02, request 9: no call of a run changes the edition. Whatever the run began with, it is the one chosen at the last accepted start. Assumes nothing.
use mathlib.Core.Path.{◌≡◌, refl, sym, ap, subst, ◌∙◌}
use mathlib.Core.Bool.{Bool, true, false, cond}
use mathlib.Core.List.{List, [], ◌∷◌}
use Prim.Native.Nat.{ℕ}
use lib.Dec.{T}
use Rattle.records.specs.Record.{fresh}
use Rattle.records.specs.declared.Campaign.{Campaign}
use Rattle.campaign.specs.Calls.{shown_to}
use Rattle.campaign.proofs.Handed.{file_handed, withdraw_handed, start_edition}
use Rattle.history.specs.Run.{World, Call, start, judge, file, withdraw, counts, response, summary, after, accepted, run, starts, begun}
use Rattle.history.proofs.UnderWay.{same_campaign}

-- a call that is no start, in any world
pub stays : (w : World) (call : Call) → starts call ≡ false → (after w call).campaign.edition ≡ w.campaign.edition
stays w (start N taps C E) e = absurd (subst T e tt)
stays w (judge N taps night y) e = refl
stays w (file d night y s) e = (file_handed w.campaign w.store w.sums d night y (shown_to w.campaign night y s)).edition
stays w (withdraw d) e = (withdraw_handed w.campaign w.store w.sums d).edition
stays w counts e = refl
stays w (response r mean room tags) e = refl
stays w (summary room tags) e = refl

pub kept : (w : World) (cs : List Call) → (run w cs).campaign.edition ≡ (begun w cs).edition
unfolding run begun
kept w [] = refl
kept w (call ∷ cs) = go call (kept w cs)
  where
    either : (b : Bool) (x : ℕ) (c d : Campaign) → x ≡ d.edition → cond b c.edition x ≡ (cond b c d).edition
    either true x c d h = refl
    either false x c d h = h

    other : (call : Call) → starts call ≡ false → (run w cs).campaign.edition ≡ (begun w cs).edition
        → (run w (call ∷ cs)).campaign.edition ≡ (begun w (call ∷ cs)).edition
    other call n h = stays (run w cs) call n ∙ h ∙ ap (λ (c : Campaign). c.edition) (sym (same_campaign w call cs n))

    go : (call : Call) → (run w cs).campaign.edition ≡ (begun w cs).edition → (run w (call ∷ cs)).campaign.edition ≡ (begun w (call ∷ cs)).edition
    go (start N taps C E) h =
        start_edition (run w cs).campaign N taps C E (run w cs).store (run w cs).sums
        ∙ either (accepted (run w cs) (start N taps C E)) (run w cs).campaign.edition (fresh N taps C E) (begun w cs) h
    go (judge N taps night y) h = other (judge N taps night y) refl h
    go (file d night y s) h = other (file d night y s) refl h
    go (withdraw d) h = other (withdraw d) refl h
    go counts h = other counts refl h
    go (response r mean room tags) h = other (response r mean room tags) refl h
    go (summary room tags) h = other (summary room tags) refl h
