-- Our own program `dates`, not document 01: what it prints for a line, and in all. Definitions only.
-- A line is a TT in ms, an optional minus and 1 to 18 digits; it gets its UTC date and time, or `refused 20`, and a
-- line of another form `refused 0`. There is no header.
use Rattle.std.specs.Prelude.{ℕ, cond, List, [], ◌∷◌, ◌++◌, map, ltb, ℤ, nat_abs, length, Result, Ok, Err}
use Rattle.rules.specs.declared.Date.{Date}
use Rattle.rules.specs.declared.Time.{Time}
use Rattle.rules.specs.declared.Utc.{Utc}
use Rattle.rules.specs.Refusals.{number}
use Rattle.rules.specs.Numerals.{space, hyphen, point, colon, of_number, signed}
use Rattle.rules.specs.Times.{refused_line, overlaid, lines_of, ended}
use Rattle.rules.specs.Utc.{utc_of_tt}
use Rattle.laws.specs.Decimal.{last_digits}
use Rattle.rules.specs.declared.Refusal.{Refusal}

-- ---- a UTC time

-- a number in a field of so many digits
abbrev pub field_text : ℕ → ℤ → List ℕ
field_text count n = last_digits count (nat_abs n)

-- `YYYY-MM-DD`
unfoldable pub date_text : Date → List ℕ
date_text d = field_text 4 d.year ++ hyphen ∷ field_text 2 d.month ++ hyphen ∷ field_text 2 d.day

-- ` hh:mm:ss.mmm`, with the space before it
unfoldable pub time_text : Time → List ℕ
time_text t = space ∷ field_text 2 t.hour ++ colon ∷ field_text 2 t.minute ++ colon ∷ field_text 2 t.second
    ++ point ∷ field_text 3 t.ms

unfoldable pub utc_text : Utc → List ℕ
utc_text u = date_text u.date ++ time_text u.time

-- the UTC time, or the refusal
unfoldable pub clocked_text : Result Utc Refusal → List ℕ
clocked_text (Ok u) = utc_text u
clocked_text (Err r) = refused_line (number r)

-- ---- a line

-- a line without its end
unfoldable pub date_line : List ℕ → List ℕ
date_line line = cond (of_number 18 line) (clocked_text (utc_of_tt (record { 0 = signed line }))) (refused_line 0)

-- nothing where the room may be too small: no answer is longer than 64 bytes
unfoldable pub date_in : List ℕ → List ℕ → List ℕ
date_in room line = cond (ltb (length room) 64) [] (date_line line)

-- the room afterwards
abbrev pub overlaid_in : List ℕ → List ℕ → List ℕ
overlaid_in room line = overlaid (date_in room line) room

-- ---- the program

-- for each line of the input its own, with its end
unfoldable pub dates : List ℕ → List ℕ
dates bytes = ended (map date_line (lines_of bytes))
