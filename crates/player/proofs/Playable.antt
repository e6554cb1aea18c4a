-- What refusals 1, 2, 3 and 16 leave of a player, and that each step of it leaves such a player. Assumes nothing.
use Rattle.std.proofs.Common.{◌≡◌, ℕ, zero, suc, ◌^◌, ◌<◌, eqb, leb, [], ◌∷◌, ◌∙◌, ne_eqb, leb-false}
use borrow.Author.Tests.{eqb-false, lt-leb}
use Rattle.sums.specs.Refusals.{first}
use Rattle.sums.proofs.First.{passes, passed_first, or-false}
use Rattle.register.specs.Register.{Shaped}
use Rattle.register.specs.Calls.{shape_checks}
use Rattle.player.specs.Calls.{window_out, step_checks, advanced, after}
use Rattle.player.specs.declared.Player.{Player}
use Rattle.register.proofs.Windows.{step-lt}
use Rattle.register.proofs.Orbit.{step-pos}
use Rattle.register.proofs.Judged.{from_passed, passes_shape}

pub record Playable (p : Player) : Type 0 where
  pub shaped : Shaped p.order p.taps
  pub some : p.window ≡ 0 → ⊥
  pub fits : p.window < 2 ^ p.order

pub playable : (p : Player) → first (step_checks p) ≡ 0 → Playable p
playable p h =
    let e = passes (step_checks p) tt h in
    let w = or-false (eqb p.window 0) (leb (2 ^ p.order) p.window) e.1.1.1.0 in
    record {
      shaped = from_passed p.order p.taps e.0 e.1.0 e.1.1.0;
      some = eqb-false p.window 0 w.0;
      fits = leb-false (2 ^ p.order) p.window w.1;
    }

pub passes_step : (p : Player) → Playable p → first (step_checks p) ≡ 0
passes_step p a =
    passed_first (shape_checks p.order p.taps) ((16, window_out p.order p.window) ∷ []) tt (passes_shape p.order p.taps a.shaped)
    ∙ simp (ne_eqb p.window 0 a.some, lt-leb (2 ^ p.order) p.window a.fits)

pub next_playable : (p : Player) → Playable p → Playable (advanced p)
next_playable p a =
    record {
      shaped = a.shaped;
      some = λ h. a.some (step-pos p.order p.taps a.shaped.tapped p.window a.fits h);
      fits = step-lt p.order p.taps p.window a.fits;
    }

pub after_playable : (p : Player) → Playable p → (k : ℕ) → Playable (after p k)
unfolding after
after_playable p a zero = a
after_playable p a (suc k) = next_playable (after p k) (after_playable p a k)
