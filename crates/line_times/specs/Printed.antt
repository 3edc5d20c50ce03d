-- What is printed for a moment, for a line, and into a room of any length. Definitions only.
use Rattle.std.specs.Prelude.{ℕ, cond, List, [], ltb, length}
use Rattle.rules.specs.declared.Moment.{Moment}
use Rattle.rules.specs.Calendar.{day_number}
use Rattle.rules.specs.Dates.{instants}
use Rattle.rules.specs.Lines.{line_of}
use Rattle.rules.specs.Times.{answer_line, printed, overlaid}

abbrev pub answer_to : Moment → List ℕ
answer_to m = answer_line (day_number m.date) (instants m)

abbrev pub printed_for : List ℕ → List ℕ
printed_for line = printed (line_of line)

-- the room afterwards
abbrev pub overlaid_for : List ℕ → List ℕ → List ℕ
overlaid_for room line = overlaid (printed_for line) room

-- nothing where the room may be too small: no answer is longer than 64 bytes
unfoldable pub printed_in : List ℕ → List ℕ → List ℕ
printed_in room line = cond (ltb (length room) 64) [] (printed_for line)

abbrev pub overlaid_in : List ℕ → List ℕ → List ℕ
overlaid_in room line = overlaid (printed_in room line) room
