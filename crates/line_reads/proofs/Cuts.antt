-- Wherever an input is cut into reads: what rests on the answers of all reads.
use Rattle.std.specs.Prelude.{◌≡◌, ℕ}
use Rattle.std.proofs.Common.{sym, ◌∙◌}
use mathlib.Core.List.{List, [], ◌∷◌, ◌++◌, flatten, append-nil}
use Rattle.rules.specs.Times.{newline, lines_of, times}
use Rattle.line_dates.specs.DateLines.{dates}
use Rattle.line_reads.specs.declared.Program.{Program}
use Rattle.line_reads.specs.Reads.{header_line, printed_by, none, start_after_all, answers_to, last_answer}
use Rattle.line_reads.specs.Inputs.{ToTheEnd, GoingOn, answers_of_all}
use Rattle.line_reads.specs.Starts.{keeps_none}
use Rattle.line_reads.specs.Cuts.{answers, printed_is, answers_from, answers_of_all_lem, answers_so_far, none_begun}

-- the header, and the answers of each read to the end of the input
pub printed_of_reads : (p : Program) (reads : List (List ℕ)) → ToTheEnd reads
    → header_line p ++ answers_of_all p none reads ≡ printed_by p (flatten reads)
printed_of_reads p reads e =
    rw (answers_of_all_lem p none reads e, answers_from p (flatten reads) none [] tt keeps_none)
    (printed_is p (flatten reads))

-- no answer waits for more: where the last byte read ends a line, every line read is answered
pub printed_so_far : (p : Program) (reads : List (List ℕ)) (front : List ℕ) → GoingOn reads
    → flatten reads ≡ front ++ newline ∷ [] → header_line p ++ answers_of_all p none reads ≡ printed_by p (flatten reads)
printed_so_far p reads front g e =
    let bytes : List ℕ = flatten reads in
    let last : last_answer p (start_after_all none bytes) ≡ [] = rw e (none_begun p none front) in
    let whole : answers_to p none bytes ≡ answers p (lines_of bytes) =
    sym (append-nil (answers_to p none bytes)) ∙ (rw last at (answers_from p bytes none [] tt keeps_none)) in
    rw (answers_so_far p none reads g, whole) (printed_is p bytes)

-- ---- of each program

pub times_of_reads : (reads : List (List ℕ)) → ToTheEnd reads
    → header_line Program.Times ++ answers_of_all Program.Times none reads ≡ times (flatten reads)
unfolding printed_by
times_of_reads reads e = printed_of_reads Program.Times reads e

pub dates_of_reads : (reads : List (List ℕ)) → ToTheEnd reads
    → answers_of_all Program.Dates none reads ≡ dates (flatten reads)
unfolding header_line printed_by
dates_of_reads reads e = printed_of_reads Program.Dates reads e
