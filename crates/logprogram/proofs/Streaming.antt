-- However the input is cut into reads, the text that is handed to be written is what the whole input makes. Assumes nothing.
use mathlib.Core.Path.{◌≡◌, refl, sym, ap, subst, ◌∙◌}
use mathlib.Core.Bool.{Bool, true, false, cond}
use mathlib.Core.List.{List, [], ◌∷◌, ◌++◌, append_assoc, append-nil}
use Prim.Native.Nat.{ℕ, zero, suc, ◌+◌, ◌<◌}
use mathlib.Core.Logic.{◌⊎◌, inl, inr, ⊎_elim}
use native.Mathlib.Omega.{arith}
use lib.Dec.{T}
use lib.ListN.{length, drop, length-append, length-drop}
use lib.Seq.{drop-append-le}
use Rattle.logitems.specs.declared.Found.{Found}
use Rattle.logitems.specs.declared.Found.TheVariants as found
use Rattle.logitems.proofs.Finding.{whole, short, bad, end}
use Rattle.logitems.proofs.Standing.{settled}
use Rattle.report.specs.Lines.{bad_bytes}
use Rattle.logeffects.specs.Book.{day_length}
use Rattle.logprogram.specs.Program.{Place, Turn, stopped, turn_on, stands_at, output, log_output}
use Rattle.logprogram.specs.Reads.{given, Midway, outset, next, passed, fed, Ran, begun, taken, more, most_turns}
use Rattle.logprogram.proofs.Turns.{StandsAt, found_at, turns, output_off, output_on, then}

-- ---- the turns of given reads

abbrev next_read : List (List ℕ) → List ℕ
next_read [] = []
next_read (bytes ∷ reads) = bytes

abbrev later_reads : List (List ℕ) → List (List ℕ)
later_reads [] = []
later_reads (bytes ∷ reads) = reads

-- what is handed to be written in at most n turns, the reads being these
unfoldable session : ℕ → Midway → List (List ℕ) → List ℕ
session zero m reads = []
session (suc n) m reads = elim m.place.going [
  | true ↦ cond (next m).short (session n (fed m (next_read reads)) (later_reads reads)) ((next m).text ++ session n (passed m) reads)
  | false ↦ []
]

session_off : (n : ℕ) (m : Midway) (reads : List (List ℕ)) → m.place.going ≡ false → session n m reads ≡ []
unfolding session
session_off zero m reads e = refl
session_off (suc n) m reads e = rw e

-- after a turn
abbrev onward : ℕ → Midway → List (List ℕ) → Turn → List ℕ
onward n m reads t =
    cond t.short (session n (fed m (next_read reads)) (later_reads reads))
    (t.text ++ session n (record { place = t.place; hand = drop t.used m.hand; ended = m.ended }) reads)

session_on : (n : ℕ) (m : Midway) (reads : List (List ℕ)) → m.place.going ≡ true → session (suc n) m reads ≡ onward n m reads (next m)
unfolding session
session_on n m reads e = rw e

-- ---- what is still to come

abbrev rest : Bool → List (List ℕ) → List ℕ
rest ended reads = cond ended [] (given reads)

-- all bytes from the place on
abbrev coming : Midway → List (List ℕ) → List ℕ
coming m reads = m.hand ++ rest m.ended reads

-- as many turns as may be left
abbrev left : Midway → List (List ℕ) → ℕ
left m reads = length m.hand + length (rest m.ended reads) + cond m.ended 0 (suc (length reads))

abbrev midway : Place → List ℕ → Bool → Midway
midway p hand ended = record { place = p; hand = hand; ended = ended }

-- one read more
read_on : (p : Place) (hand : List ℕ) (reads : List (List ℕ)) → let m = midway p hand false in
    (coming (fed m (next_read reads)) (later_reads reads) ≡ hand ++ given reads) × (left (fed m (next_read reads)) (later_reads reads) < left m reads)
unfolding given
read_on p hand [] = (append-nil (hand ++ []), simp length-append (omega arith))
read_on p hand ([] ∷ reads) = (append-nil (hand ++ []), simp length-append (omega arith))
read_on p hand ((b ∷ bytes) ∷ reads) = (append_assoc hand (b ∷ bytes) (given reads), simp length-append (omega arith))

-- ---- a turn finds the same in what is at hand as in all that comes, or it is too short

same_found : (p : Place) (hand : List ℕ) (ended : Bool) (reads : List (List ℕ))
    → (stands_at p hand ended ≡ found.Short) ⊎ (stands_at p (hand ++ rest ended reads) true ≡ stands_at p hand ended)
same_found p hand true reads = inr (ap (λ l. stands_at p l true) (append-nil hand))
same_found p hand false reads = settled p.book.phase (day_length p.book.campaign.order) hand (given reads) true

settled_at : (p : Place) (hand : List ℕ) (ended : Bool) (reads : List (List ℕ)) (f : Found) → stands_at p hand ended ≡ f → (turn_on p f).short ≡ false
    → stands_at p (hand ++ rest ended reads) true ≡ f
settled_at p hand ended reads f e s =
    ⊎_elim (λ q. absurd (subst T (sym (ap (λ x. (turn_on p x).short) (sym e ∙ q)) ∙ s) tt)) (λ q. q ∙ e) (same_found p hand ended reads)

-- ---- all turns

abbrev Same : ℕ → ℕ → Type 0
Same n k = (m : Midway) (reads : List (List ℕ)) → left m reads < n → length (coming m reads) < k → session n m reads ≡ output k m.place (coming m reads)

module _ (n k : ℕ) (p : Place) (hand : List ℕ) (reads : List (List ℕ)) (again : (k : ℕ) → Same n k) where
  -- where the turn is not too short, it is that of the whole input
  same_turn : (ended : Bool) (f : Found) → p.going ≡ true → stands_at p hand ended ≡ f → (turn_on p f).short ≡ false
      → output (suc k) p (hand ++ rest ended reads) ≡ then k (hand ++ rest ended reads) (turn_on p f)
  same_turn ended f g e s =
      output_on k p (hand ++ rest ended reads) g
      ∙ ap (then k (hand ++ rest ended reads)) (turns p (hand ++ rest ended reads) true ∙ ap (turn_on p) (settled_at p hand ended reads f e s))

  by_found : (ended : Bool) (f : Found) → StandsAt p hand ended f → p.going ≡ true → stands_at p hand ended ≡ f
      → left (midway p hand ended) reads < suc n → length (hand ++ rest ended reads) < suc k
      → onward n (midway p hand ended) reads (turn_on p f) ≡ output (suc k) p (hand ++ rest ended reads)
  by_found ended f (whole {i = i} {n = used} _ some fits _) g e h l =
      let t = turn_on p (found.Whole i used) in
      let d : drop used (hand ++ rest ended reads) ≡ drop used hand ++ rest ended reads = drop-append-le used hand (rest ended reads) fits in
      ap (λ x. t.text ++ x)
      (again k (midway t.place (drop used hand) ended) reads (simp length-drop (omega arith))
      (simp (length-append, length-drop) (omega (arith, simp length-append at l)))
      ∙ ap (output k t.place) (sym d))
      ∙ sym (same_turn ended (found.Whole i used) g e refl)
  by_found ended f (short _) g e h l =
      let r = read_on p hand reads in
      again (suc k) (fed (midway p hand false) (next_read reads)) (later_reads reads) (omega (arith, r.1)) (rw r.0 l)
      ∙ ap (output (suc k) p) r.0
  by_found ended f (bad _) g e h l =
      ap (λ x. bad_bytes p.offset ++ x)
      (session_off n (midway (stopped p) hand ended) reads refl ∙ sym (output_off k (stopped p) (hand ++ rest ended reads) refl))
      ∙ sym (same_turn ended found.Bad g e refl)
  by_found ended f (end _) g e h l =
      session_off n (midway (stopped p) hand ended) reads refl ∙ sym (output_off k (stopped p) (hand ++ rest ended reads) refl)
      ∙ sym (same_turn ended found.End g e refl)

  by_going : (b : Bool) → p.going ≡ b → (ended : Bool) → left (midway p hand ended) reads < suc n → length (hand ++ rest ended reads) < suc k
      → session (suc n) (midway p hand ended) reads ≡ output (suc k) p (hand ++ rest ended reads)
  by_going false g ended h l = session_off (suc n) (midway p hand ended) reads g ∙ sym (output_off (suc k) p (hand ++ rest ended reads) g)
  by_going true g ended h l =
      session_on n (midway p hand ended) reads g ∙ ap (onward n (midway p hand ended) reads) (turns p hand ended)
      ∙ by_found ended (stands_at p hand ended) (found_at p hand ended) g refl h l

session_output : (n k : ℕ) → Same n k
session_output zero k m reads h l = absurd (omega arith)
session_output (suc n) zero m reads h l = absurd (omega arith)
session_output (suc n) (suc k) m reads h l = by_going n k m.place m.hand reads (λ j. session_output n j) m.place.going refl m.ended h l

-- the turns are enough for the bytes and the reads
abbrev pub Enough : ℕ → List (List ℕ) → Type 0
Enough n reads = length (given reads) + length reads + 1 < n

streamed : (reads : List (List ℕ)) (n : ℕ) → Enough n reads → session n outset reads ≡ log_output (given reads)
unfolding log_output
streamed reads n h = session_output n (suc (length (given reads))) outset reads (omega arith) (omega arith)

-- ---- turn by turn

-- a session is what was handed to be written, and then the session from there on
ran_session : {k : ℕ} {text : List ℕ} {reads : List (List ℕ)} {m : Midway} → Ran k text reads m → (n : ℕ) (later : List (List ℕ))
    → session (k + n) outset (reads ++ later) ≡ text ++ session n m later
ran_session begun n later = ap (λ k. session k outset later) (omega arith)
ran_session (taken {n = k} {text} {reads} {m} r g s) n later =
    let e : suc k + n ≡ k + suc n = omega arith in
    ap (λ i. session i outset (reads ++ later)) e
    ∙ ran_session r (suc n) later
    ∙ ap (λ l. text ++ l) (session_on n m later g
    ∙ ap (λ b. cond b (session n (fed m (next_read later)) (later_reads later)) ((next m).text ++ session n (passed m) later)) s)
    ∙ sym (append_assoc text (next m).text (session n (passed m) later))
ran_session (more {n = k} {text} {reads} {m} r g s bytes) n later =
    let e : suc k + n ≡ k + suc n = omega arith in
    ap (λ i. session i outset ((reads ++ bytes ∷ []) ++ later)) e
    ∙ ap (session (k + suc n) outset) (append_assoc reads (bytes ∷ []) later)
    ∙ ran_session r (suc n) (bytes ∷ later)
    ∙ ap (λ l. text ++ l) (session_on n m (bytes ∷ later) g
    ∙ ap (λ b. cond b (session n (fed m bytes) later) ((next m).text ++ session n (passed m) (bytes ∷ later))) s)

module _ {n : ℕ} {text : List ℕ} {reads : List (List ℕ)} {m : Midway} (r : Ran n text reads m) (later : List (List ℕ)) where
  -- once the program has stopped, the text is that of the whole input, whatever of it is still to be read
  pub ran_stopped : m.place.going ≡ false → text ≡ log_output (given (reads ++ later))
  ran_stopped g =
      let k = length (given (reads ++ later)) + length (reads ++ later) + 2 in
      sym
      (sym (streamed (reads ++ later) (n + k) (omega arith))
      ∙ ran_session r k later
      ∙ ap (λ l. text ++ l) (session_off k m later g)
      ∙ append-nil text)

  -- and so it is once the turns were enough for it
  ran_enough : Enough n (reads ++ later) → text ≡ log_output (given (reads ++ later))
  unfolding session
  ran_enough h =
      let z : n + 0 ≡ n = omega arith in
      sym (sym (streamed (reads ++ later) n h) ∙ ap (λ k. session k outset (reads ++ later)) (sym z) ∙ ran_session r 0 later ∙ append-nil text)

  -- so of an input for which the most turns are enough, the program that ran to its end handed over all that is to be printed
  pub all_printed : (m.place.going ≡ false) ⊎ (n ≡ most_turns) → Enough most_turns (reads ++ later) → text ≡ log_output (given (reads ++ later))
  all_printed (inl g) h = ran_stopped g
  all_printed (inr e) h = ran_enough (rw e h)
