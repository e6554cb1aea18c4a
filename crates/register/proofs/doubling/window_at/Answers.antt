-- `register::doubling::window_at` meets its contract: after i turns the window's i lowest bits are there, and the tag is that of the next.
-- Assumes nothing.
use mathlib.Core.Path.{◌≡◌, sym, ap, ap₂, ◌∙◌}
use Prim.Native.Nat.{ℕ, ◌+◌, ◌*◌, ◌%◌, ◌^◌, ◌≤◌, ◌<◌}
use native.Mathlib.Nat.{mod-lt, mod-eq_of_lt, zero-add, add_comm, zero-lt-suc}
use native.Mathlib.Omega.{arith}
use lib.Bits.{and_mask}
use lib.Count.{ones}
use lib.Pow.{mod-pow-add}
use Rattle.register.specs.Register.{bit_of, dot, window as window_of, bit, tag as tag_of, Tapped}
use Rattle.register.proofs.Recurrence.{window-bit}
use Rattle.register.proofs.Windows.{window-lt, tag-lt, tag-next, ahead, bit-mul}
use Rattle.register.proofs.Word.{small}
use Rattle.register.proofs.doubling.window_at.Goals as goal
use Rattle.register.proofs.doubling.window_at.Goals.{In-loop-i}

-- bit i of a window, read off all ones by the tag of its delay
read_off : (N taps : ℕ) → Tapped N taps → (m i : ℕ) → i < N → ones (tag_of N taps (m + i)) % 2 ≡ bit_of (window_of N taps m) i
unfolding window_of dot
read_off N taps t m i h =
    sym (window-bit N taps i m h
    ∙ ap (bit N taps) (sym (zero-add (m + i)))
    ∙ ahead N taps t (m + i) 0
    ∙ ap (λ x. ones x % 2) (and_mask (tag_of N taps (m + i)) N ∙ mod-eq_of_lt (tag-lt N taps t (m + i))))

-- the bit goes above those that are there
with-bit : (c : In-loop-i) → let a = c.args in let l = c.loop-i in
    l.window + ones l.tag % 2 * 2 ^ l.i % 2 ^ 32 ≡ window_of a.order a.taps a.m % 2 ^ (l.i + 1)
with-bit c =
    let a = c.args in
    let l = c.loop-i in
    let w = window_of a.order a.taps a.m in
    let e : ones l.tag % 2 ≡ bit_of w l.i = ap (λ x. ones x % 2) l.invariant.2 ∙ read_off a.order a.taps c.requires.1 a.m l.i (omega arith) in
    let i : l.i ≤ 16 = omega arith in
    let b : ones l.tag % 2 * 2 ^ l.i < 2 ^ 32 = omega (arith, bit-mul (ones l.tag % 2) (2 ^ l.i) (mod-lt (ones l.tag) (zero-lt-suc 1)), small i) in
    ap₂ ◌+◌ l.invariant.1 (mod-eq_of_lt b ∙ ap (λ x. x * 2 ^ l.i) e)
    ∙ add_comm (w % 2 ^ l.i) (bit_of w l.i * 2 ^ l.i)
    ∙ sym (mod-pow-add w 1 l.i) ∙ ap (λ n. w % 2 ^ n) (add_comm 1 l.i)

pub loop-i-preserved : goal.loop-i-preserved
loop-i-preserved c =
    let i = c.loop-i.invariant in
    (omega arith, with-bit (goal.at.loop-i-preserved c).In-loop-i, tag-next c.args.order c.args.taps c.requires.1 i.2 (omega arith) c.tag_step-tag.ensures)

pub returns : goal.returns
returns c =
    let a = c.args in
    let e : c.loop-i.i ≡ a.order = omega arith in
    rw e at c.loop-i.invariant.1 ∙ mod-eq_of_lt (window-lt a.order a.taps a.m)

pub tag_step-tag-requires-clause-tag_bound : goal.tag_step-tag-requires-clause-tag_bound
tag_step-tag-requires-clause-tag_bound c =
    (rw c.loop-i.invariant.2 (tag-lt c.args.order c.args.taps c.requires.1 (c.args.m + c.loop-i.i)))
