-- The room that the lines need: what the clauses of `printing` ask, and what ShortLines.antt says of it. Definitions
-- only.
use Rattle.std.specs.Prelude.{◌≡◌, ℕ, ◌<◌, ◌≤◌, Bool, true, List, length, Ok, Option}
use Rattle.rules.specs.declared.Entry.{Entry}
use Rattle.rules.specs.ListFile.{most_records}
use Rattle.entries_listing.specs.declared.Listing.{Listing}
use Rattle.line_entries.specs.declared.air.Air.{Air}
use Rattle.line_places.specs.Air.{air_accepted}
use Rattle.line_places.specs.Listed.{listed_line}

-- of a header and 64 lines
abbrev pub answer_room : ℕ
answer_room = 9472

-- the longest line without its end
abbrev pub line_length : ℕ
line_length = 146

-- no line is longer
abbrev pub Short : (ℕ → List ℕ) → ℕ → Type 0
Short line count = (index : ℕ) → index < count → length (line index) ≤ line_length

-- the first `count` entries
pub record Printable (people : Bool) (air : Option Air) (entries : List Entry) (count room : ℕ) : Type 0 where
  pub few : count ≤ most_records
  pub short : air_accepted air ≡ true → Short (listed_line people air entries) count
  pub inside : answer_room ≤ room

-- a list, where it was worked
pub record WorkedPrintable (people : Bool) (air : Option Air) (worked : Listing) (count room : ℕ) : Type 0 where
  pub entries : (marked : ℕ) → worked.answer ≡ Ok marked
      → Printable people air worked.entries count room
  pub inside : answer_room ≤ room
