-- Our own program `places`, not document 01: all that it prints, in bytes, and the words that it is called by.
-- Definitions only.
use Rattle.std.specs.Prelude.{ℕ, zero, suc, Bool, true, false, cond, ◌&&◌, List, [], ◌∷◌, ◌++◌, eqb, take, Option, Some, None}
use Rattle.rules.specs.declared.Night.{Night}
use Rattle.rules.specs.Refusals.{number}
use Rattle.rules.specs.Bytes.{same_bytes}
use Rattle.rules.specs.Numerals.{space}
use Rattle.rules.specs.Times.{refused_line, newline, ended}
use Rattle.numerals.specs.Tenths.{of_tenths, tenths_of}
use Rattle.line_asked.specs.Asking.{length_before}
use Rattle.line_entries.specs.declared.air.Air.{Air}
use Rattle.line_places.specs.declared.command.Command.{Command}
use Rattle.line_places.specs.Answers.{Begun, begun, answer_line}
use Rattle.line_places.specs.Air.{command_for, air_of}

-- ---- what is printed

-- `entry mark ra dec az alt`
abbrev pub header : List ℕ
header = 101 ∷ 110 ∷ 116 ∷ 114 ∷ 121 ∷ space ∷ 109 ∷ 97 ∷ 114 ∷ 107 ∷ space ∷ 114 ∷ 97 ∷ space
    ∷ 100 ∷ 101 ∷ 99 ∷ space ∷ 97 ∷ 122 ∷ space ∷ 97 ∷ 108 ∷ 116 ∷ []

-- and with pressure and temperature ` obs`
unfoldable pub header_in : Option Air → List ℕ
header_in None = header
header_in (Some air) = header ++ space ∷ 111 ∷ 98 ∷ 115 ∷ []

-- the lines of the first `count` entries of a file
unfoldable pub entry_lines : Bool → Option Air → List ℕ → Night → ℕ → List (List ℕ)
entry_lines people air file n zero = []
entry_lines people air file n (suc count) =
    entry_lines people air file n count ++ answer_line people air file n count ∷ []

-- a header and a line for each entry, or `refused N`
unfoldable pub answer_lines : Bool → Option Air → List ℕ → Begun → List (List ℕ)
answer_lines people air file (Begun.For count n) = header_in air ∷ entry_lines people air file n count
answer_lines people air file (Begun.Refused r) = refused_line (number r) ∷ []
answer_lines people air file Begun.Other = refused_line 0 ∷ []

-- the first line of an input, without its end; all of an input that has no end of a line
unfoldable pub first_line : List ℕ → List ℕ
first_line input = take (length_before newline input) input

-- all bytes that are printed: whether for people, the air, the bytes of the file, and those of standard input
unfoldable pub places : Bool → Option Air → List ℕ → List ℕ → List ℕ
places people air file input = ended (answer_lines people air file (begun air file (first_line input)))

-- ---- the words of a command: `places FILE [sexagesimal] [PRESSURE TEMPERATURE]`

-- `sexagesimal`
abbrev pub people_word : List ℕ
people_word = 115 ∷ 101 ∷ 120 ∷ 97 ∷ 103 ∷ 101 ∷ 115 ∷ 105 ∷ 109 ∷ 97 ∷ 108 ∷ []

-- by the words of pressure and temperature
unfoldable pub with_air : Bool → List ℕ → List ℕ → Option Command
with_air people pressure temperature =
    cond (of_tenths pressure && of_tenths temperature)
    (Some (command_for people (Some (air_of (tenths_of pressure) (tenths_of temperature))))) None

-- by how many words there are, the program's name among them, and the third to the fifth
unfoldable pub command_of : ℕ → List ℕ → List ℕ → List ℕ → Option Command
command_of words third fourth fifth =
    let people = same_bytes third people_word in
    cond (eqb words 2) (Some (command_for false None))
    (cond (eqb words 3 && people) (Some (command_for true None))
    (cond (eqb words 4) (with_air false third fourth)
    (cond (eqb words 5 && people) (with_air true fourth fifth) None)))
