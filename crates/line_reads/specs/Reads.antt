-- Lines as reads bring them: how a read is answered, and what of it is kept for the next. Definitions only.
use Rattle.std.specs.Prelude.{
  ◌≡◌,
  ℕ,
  ◌-◌,
  ◌≤◌,
  cond,
  List,
  [],
  ◌∷◌,
  ◌++◌,
  eqb,
  ltb,
  length,
  take,
  drop,
  replicate,
  codes,
}
use Rattle.rules.specs.Lines.{line_of}
use Rattle.rules.specs.Times.{printed, header, newline, ended, times}
use Rattle.line_dates.specs.DateLines.{date_line, dates}
use Rattle.line_reads.specs.declared.Program.{Program}
use Rattle.line_reads.specs.declared.AfterRead.{AfterRead}
use Rattle.line_reads.specs.declared.starts.Start.{Start}
use Rattle.line_reads.specs.declared.starts.Start.TheInside.{Inside}

-- ---- the two programs

-- the name that it is called by
abbrev pub name_of : Program → List ℕ
name_of Program.Times = codes "times"
name_of Program.Dates = codes "dates"

-- what a line is answered by, without its end
unfoldable pub answered_by : Program → List ℕ → List ℕ
answered_by Program.Times line = printed (line_of line)
answered_by Program.Dates line = date_line line

-- what is printed before any answer, with its end
abbrev pub times_header : List ℕ
times_header = ended (header ∷ [])

unfoldable pub header_line : Program → List ℕ
header_line Program.Times = times_header
header_line Program.Dates = []

-- all that is printed for an input
unfoldable pub printed_by : Program → List ℕ → List ℕ
printed_by Program.Times bytes = times bytes
printed_by Program.Dates bytes = dates bytes

-- ---- the start of a line

-- its bytes: the first of the array. All else sees a start as these.
abbrev pub held : Inside → List ℕ
held s = take s.len s.bytes

-- the rest of the array is nought, so the bytes tell the fields
abbrev pub Padded : Inside → Type 0
Padded s = (s.len ≤ 32) × (length s.bytes ≡ 32) × (drop s.len s.bytes ≡ replicate (32 - s.len) 0)

abbrev pub fields_of : List ℕ → Inside
fields_of line = record { bytes = line ++ replicate (32 - length line) 0; len = length line }

-- no line has begun
abbrev pub none : Start
none = []

-- one byte more, where there is room for it
unfoldable pub with_byte : Start → ℕ → Start
with_byte s b = cond (ltb (length s) 32) (s ++ b ∷ []) s

-- what a line is answered by, with its end
unfoldable pub answered : Program → Start → List ℕ
answered p s = answered_by p s ++ newline ∷ []

-- ---- a byte

-- a line end leaves no line begun
unfoldable pub start_after : Start → ℕ → Start
start_after s b = cond (eqb b newline) none (with_byte s b)

-- and is answered
unfoldable pub answer_at : Program → Start → ℕ → List ℕ
answer_at p s b = cond (eqb b newline) (answered p s) []

-- ---- bytes, one after another

unfoldable pub start_after_all : Start → List ℕ → Start
start_after_all s [] = s
start_after_all s (b ∷ bytes) = start_after_all (start_after s b) bytes

unfoldable pub answers_to : Program → Start → List ℕ → List ℕ
answers_to p s [] = []
answers_to p s (b ∷ bytes) = answer_at p s b ++ answers_to p (start_after s b) bytes

-- ---- a read

-- a last line without its end is answered, if it has begun
unfoldable pub last_answer : Program → Start → List ℕ
last_answer p s = cond (ltb 0 (length s)) (answered p s) []

-- an empty read is the end of the input
unfoldable pub answers_of : Program → Start → List ℕ → List ℕ
answers_of p s [] = last_answer p s
answers_of p s (b ∷ bytes) = answers_to p s (b ∷ bytes)

unfoldable pub start_of_next : Start → List ℕ → Start
start_of_next s [] = none
start_of_next s (b ∷ bytes) = start_after_all s (b ∷ bytes)

-- ---- in lent memory: the start, and how many bytes stand at the front

abbrev pub after_read : Program → Start → List ℕ → AfterRead
after_read p s bytes = record { start = start_of_next s bytes; written = length (answers_of p s bytes) }

-- before any read: the header
abbrev pub begun : Program → AfterRead
begun p = record { start = none; written = length (header_line p) }
