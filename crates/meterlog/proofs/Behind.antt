-- Where the bytes at hand lie in the buffer, after a turn and after a read. Assumes nothing.
use mathlib.Core.Path.{◌≡◌, refl, sym, ap, ◌∙◌}
use mathlib.Core.Bool.{Bool, true, false}
use mathlib.Core.List.{List, [], ◌∷◌, ◌++◌}
use Prim.Native.Nat.{ℕ, suc, ◌+◌, ◌-◌, ◌≤◌}
use native.Mathlib.Omega.{arith}
use borrow.Author.Tests.{ne_eqb}
use lib.Dec.{eqb}
use lib.ListN.{length, take, drop, length-drop}
use lib.Seq.{length-take-le, take-append-le, take-append-add, take-add, drop-drop, drop_at}
use Rattle.logprogram.specs.Reads.{none}
use Rattle.meterlog.specs.Buffer.{hand, Inside, provided, after_read, Refilled}
use Rattle.meterlog.specs.declared.Progress.{Progress}
use Rattle.meterlog.specs.declared.Failed.{Failed}
use Rattle.meterlog.specs.declared.Failed.TheVariants.{Reading}
use Rattle.std.proofs.Common.{None}

-- what failed leaves the bytes at hand where they are
pub provided-hand : (ok : Bool) (p : Progress) (f : Failed) (bytes : List ℕ) → hand (provided ok p f) bytes ≡ hand p bytes
provided-hand true p f bytes = refl
provided-hand false p f bytes = refl

pub provided-inside : (ok : Bool) (p : Progress) (f : Failed) {bytes : List ℕ} → Inside p bytes → Inside (provided ok p f) bytes
provided-inside true p f i = i
provided-inside false p f i = record { forth = i.forth; inside = i.inside }

-- ---- a read

pub none_is : (l : List ℕ) → eqb (length l) 0 ≡ none l
none_is [] = refl
none_is (b ∷ l) = ne_eqb (suc (length l)) 0 (λ e. omega arith)

-- the bytes at hand are at the front of the buffer, and the n first of what follows them were read
read_behind : (left n : ℕ) (s part tail : List ℕ) → left ≤ length s → n ≤ length part
    → take (left + n - 0) (take left s ++ (part ++ tail)) ≡ take left s ++ take n part
read_behind left n s part tail h l =
    let z : left + n - 0 ≡ left + n = omega arith in
    ap (λ k. take k (take left s ++ (part ++ tail))) z
    ∙ ap (λ k. take (k + n) (take left s ++ (part ++ tail))) (sym (length-take-le left s h))
    ∙ take-append-add (take left s) (part ++ tail) n
    ∙ ap (λ t. take left s ++ t) (take-append-le n part tail l)

pub refilled : (p : Progress) (got : Bool) (n : ℕ) (before front part tail : List ℕ) → let left = p.to - p.from in
    left ≤ length front → n ≤ length part → take left front ≡ hand p before → let after = take left front ++ (part ++ tail) in left + n ≤ length after
    → Refilled p before (after_read p got n) after × Inside (after_read p got n) after
refilled p got n before front part tail l m e i = (
  record {
    got = got;
    came = take n part;
    behind = provided-hand got x Reading _ ∙ read_behind (p.to - p.from) n front part tail l m ∙ ap (λ y. y ++ take n part) e;
    is = ap (after_read p got) (sym (length-take-le n part m));
  },
  provided-inside got x Reading (record { forth = omega arith; inside = i }),
)
  where
    x : Progress
    x = record { mark = p.mark; from = 0; to = p.to - p.from + n; ended = eqb n 0; failed = None }

-- ---- a turn

-- bytes passed
pub hand-passed : (bytes : List ℕ) (from to u : ℕ) → from + u ≤ to → to ≤ length bytes
    → take (to - (from + u)) (drop (from + u) bytes) ≡ drop u (take (to - from) (drop from bytes))
hand-passed bytes from to u h l =
    let k = to - (from + u) in
    let e : to - from ≡ u + k = omega arith in
    let f : length (take u (drop from bytes)) ≡ u = length-take-le u (drop from bytes) (simp length-drop (omega arith)) in
    ap (take k) (sym (drop-drop u from bytes))
    ∙ sym (drop_at (take u (drop from bytes)) (take k (drop u (drop from bytes))) u f)
    ∙ ap (drop u) (sym (take-add u k (drop from bytes)) ∙ ap (λ n. take n (drop from bytes)) (sym e))
