-- How long the answers to a line, to bytes and to a read can be.
use Rattle.std.specs.Prelude.{Bool, true, false, cond, List, [], ◌∷◌, ℕ, ◌*◌, ◌≤◌, eqb, ltb, length}
use Rattle.std.proofs.Common.{arith, length-append}
use Rattle.rules.specs.Lines.{line_of}
use Rattle.rules.specs.Times.{newline, ended}
use Rattle.laws.specs.Times.{printed_le}
use Rattle.line_dates.specs.DateLaws.{date_line_le}
use Rattle.line_reads.specs.declared.Program.{Program}
use Rattle.line_reads.specs.declared.starts.Start.{Start}
use Rattle.line_reads.specs.Reads.{answered, start_after, answer_at, answers_to, last_answer, answers_of}
use Rattle.line_reads.specs.Reads.{answered_by, header_line}

-- without its end
pub answer_le : (p : Program) (line : List ℕ) → length (answered_by p line) ≤ 62
unfolding answered_by
answer_le Program.Times line = printed_le (line_of line)
answer_le Program.Dates line = omega (arith, date_line_le line)

-- with its end
pub answered_le : (p : Program) (s : Start) → length (answered p s) ≤ 63
unfolding answered
answered_le p s = simp length-append (omega (arith, answer_le p s))

pub answer_at_le : (p : Program) (s : Start) (b : ℕ) → length (answer_at p s b) ≤ 63
unfolding answer_at
answer_at_le p s b = go (eqb b newline)
  where
    go : (t : Bool) → length (cond t (answered p s) []) ≤ 63
    go true = answered_le p s
    go false = omega arith

pub last_le : (p : Program) (s : Start) → length (last_answer p s) ≤ 63
unfolding last_answer
last_le p s = go (ltb 0 (length s))
  where
    go : (t : Bool) → length (cond t (answered p s) []) ≤ 63
    go true = answered_le p s
    go false = omega arith

pub answers_le : (p : Program) (s : Start) (bytes : List ℕ) → length (answers_to p s bytes) ≤ 64 * length bytes
unfolding answers_to
answers_le p s [] = omega arith
answers_le p s (b ∷ bytes) =
    simp length-append (omega (arith, answer_at_le p s b, answers_le p (start_after s b) bytes))

-- so a room of 65,536 bytes is enough for a read of 1,024
pub written_le : (p : Program) (s : Start) (bytes : List ℕ) → length bytes ≤ 1024
    → length (answers_of p s bytes) ≤ 65536
unfolding answers_of
written_le p s [] h = omega (arith, last_le p s)
written_le p s (b ∷ bytes) h = omega (arith, answers_le p s (b ∷ bytes))

pub header_le : (p : Program) → length (header_line p) ≤ 64
unfolding header_line ended
header_le Program.Times = omega arith
header_le Program.Dates = omega arith
