-- Wherever an input is cut into reads, their answers after the header are all that the program prints for it.
use Rattle.std.specs.Prelude.{◌≡◌, refl, Bool, true, false, ℕ, eqb, ltb, length}
use Rattle.std.proofs.Common.{sym, ◌∙◌, arith, eqb-true, lt-ltb}
use Rattle.std.proofs.Math.Path.{ap}
use mathlib.Core.List.{List, [], ◌∷◌, ◌++◌, map, flatten, append_assoc, append-nil}
use Rattle.rules.specs.Times.{newline, lines_of, ended, times}
use Rattle.line_dates.specs.DateLines.{dates}
use Rattle.line_reads.specs.declared.Program.{Program}
use Rattle.line_reads.specs.declared.starts.Start.{Start}
use Rattle.line_reads.specs.Reads.{
  answered_by,
  header_line,
  printed_by,
  none,
  with_byte,
  answered,
  start_after,
  answer_at,
  start_after_all,
  answers_to,
  last_answer,
  answers_of,
  start_of_next,
}
use Rattle.line_reads.specs.Inputs.{ToTheEnd, GoingOn, answers_of_all}
use Rattle.line_reads.specs.Starts.{Keeps, keeps_none, keeps_more, keeps_answer}
use Rattle.line_reads.specs.LineEnds.{Unended, unended_more, lines_ended, lines_last}

-- ---- the answers to lines, with their ends

abbrev pub answers : Program → List (List ℕ) → List ℕ
answers p lines = ended (map (answered_by p) lines)

-- after the header, all that is printed
pub printed_is : (p : Program) (bytes : List ℕ) → header_line p ++ answers p (lines_of bytes) ≡ printed_by p bytes
unfolding header_line answered_by printed_by times dates ended
printed_is Program.Times bytes = refl
printed_is Program.Dates bytes = refl

-- at the end of the input
last_answer_lem : (p : Program) (s : Start) (line : List ℕ) → Unended line → Keeps s line
    → last_answer p s ≡ answers p (lines_of line)
unfolding last_answer ended lines_of
last_answer_lem p s [] u k = rw k.count
last_answer_lem p s (b ∷ line) u k =
    let t : ltb 0 (length s) ≡ true = lt-ltb 0 (length s) (omega (arith, k.count)) in
    rw (t, lines_last b line u) (keeps_answer p s (b ∷ line) k)

-- from a line that has begun to the end of the input
abbrev pub FromBegun : Program → List ℕ → Type 0
FromBegun p bytes = (s : Start) (line : List ℕ) → Unended line → Keeps s line
    → answers_to p s bytes ++ last_answer p (start_after_all s bytes) ≡ answers p (lines_of (line ++ bytes))

module _ (p : Program) (b : ℕ) (bytes : List ℕ) (more : FromBegun p bytes) (s : Start) (line : List ℕ)
    (u : Unended line) (k : Keeps s line) where
  abbrev AnswersAll : Type 0
  AnswersAll =
      answers_to p s (b ∷ bytes) ++ last_answer p (start_after_all s (b ∷ bytes)) ≡ answers p (lines_of (line ++ b ∷ bytes))

  at_end : b ≡ newline → AnswersAll
  unfolding answers_to start_after_all answer_at start_after ended
  at_end e =
      rw (e, lines_ended line bytes u)
      (append_assoc (answered p s) (answers_to p none bytes) (last_answer p (start_after_all none bytes))
      ∙ rw (keeps_answer p s line k, more none [] tt keeps_none)
      (append_assoc (answered_by p line) (newline ∷ []) (answers p (lines_of bytes))))

  at_byte : eqb b newline ≡ false → AnswersAll
  unfolding answers_to start_after_all answer_at start_after
  at_byte e =
      rw e (more (with_byte s b) (line ++ b ∷ []) (unended_more line b u e) (keeps_more s line k b)
      ∙ ap (λ l. answers p (lines_of l)) (append_assoc line (b ∷ []) bytes))

pub answers_from : (p : Program) (bytes : List ℕ) → FromBegun p bytes
unfolding answers_to start_after_all
answers_from p [] s line u k = rw (append-nil line) (last_answer_lem p s line u k)
answers_from p (b ∷ bytes) s line u k = go (eqb b newline) refl (answers_from p bytes)
  where
    go : (t : Bool) → eqb b newline ≡ t → FromBegun p bytes
        → answers_to p s (b ∷ bytes) ++ last_answer p (start_after_all s (b ∷ bytes))
        ≡ answers p (lines_of (line ++ b ∷ bytes))
    go true e more = at_end p b bytes more s line u k (eqb-true b newline e)
    go false e more = at_byte p b bytes more s line u k e

-- ---- reads

answers_append : (p : Program) (s : Start) (a b : List ℕ)
    → answers_to p s (a ++ b) ≡ answers_to p s a ++ answers_to p (start_after_all s a) b
unfolding answers_to start_after_all
answers_append p s [] b = refl
answers_append p s (c ∷ a) b =
    let t : Start = start_after s c in
    rw (answers_append p t a b)
    (sym (append_assoc (answer_at p s c) (answers_to p t a) (answers_to p (start_after_all t a) b)))

start_append : (s : Start) (a b : List ℕ) → start_after_all s (a ++ b) ≡ start_after_all (start_after_all s a) b
unfolding start_after_all
start_append s [] b = refl
start_append s (c ∷ a) b = start_append (start_after s c) a b

-- the cuts do not matter
pub answers_of_all_lem : (p : Program) (s : Start) (reads : List (List ℕ)) → ToTheEnd reads
    → answers_of_all p s reads ≡ answers_to p s (flatten reads) ++ last_answer p (start_after_all s (flatten reads))
unfolding ToTheEnd answers_of_all flatten answers_to start_after_all answers_of start_of_next
answers_of_all_lem p s [] e = absurd e
answers_of_all_lem p s ([] ∷ reads) e = rw e (append-nil (last_answer p s))
answers_of_all_lem p s ((b ∷ bytes) ∷ reads) e =
    let read : List ℕ = b ∷ bytes in
    let t : Start = start_after_all s read in
    let rest : List ℕ = flatten reads in
    rw (answers_of_all_lem p t reads e, answers_append p s read rest, start_append s read rest)
    (sym (append_assoc (answers_to p s read) (answers_to p t rest) (last_answer p (start_after_all t rest))))

-- ---- an input that goes on

pub answers_so_far : (p : Program) (s : Start) (reads : List (List ℕ)) → GoingOn reads
    → answers_of_all p s reads ≡ answers_to p s (flatten reads)
unfolding GoingOn answers_of_all flatten answers_to start_after_all answers_of start_of_next
answers_so_far p s [] g = refl
answers_so_far p s ([] ∷ reads) g = absurd g
answers_so_far p s ((b ∷ bytes) ∷ reads) g =
    let read : List ℕ = b ∷ bytes in
    rw (answers_so_far p (start_after_all s read) reads g, answers_append p s read (flatten reads))

pub none_begun : (p : Program) (s : Start) (front : List ℕ) → last_answer p (start_after_all s (front ++ newline ∷ [])) ≡ []
unfolding start_after_all start_after last_answer
none_begun p s front = rw (start_append s front (newline ∷ []))
