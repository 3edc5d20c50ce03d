-- Our own program `places`, not document 01: what a file and a line come to, and an entry's line. Definitions only.
-- The file is checked first, by 9, 10, 5; then the form of the line, by 0; then date and site, by 1 to 4, 6; then the
-- air, by 14.
use Rattle.std.specs.Prelude.{ℕ, Bool, cond, List, ◌∷◌, ◌++◌, pos, Result, Ok, Err, Option, Some, None}
use Rattle.rules.specs.declared.Entry.{Entry}
use Rattle.rules.specs.declared.Night.{Night}
use Rattle.rules.specs.declared.Refusal.{Refusal}
use Rattle.rules.specs.Refusals.{number, Answer, given, refused, other_form}
use Rattle.rules.specs.Answers.{prepared_answer}
use Rattle.rules.specs.Times.{refused_line}
use Rattle.rules.specs.Night.{night_of}
use Rattle.rules.specs.ListReading.{fresh_entry, list_count, list_star}
use Rattle.rules.specs.NightList.{worked}
use Rattle.line_asked.specs.declared.Asked.{Asked}
use Rattle.line_asked.specs.Asking.{asked_of}
use Rattle.line_entries.specs.EntryLine.{entry_line}
use Rattle.line_entries.specs.Observed.{observed_column}
use Rattle.line_entries.specs.declared.air.Air.{Air}
use Rattle.line_places.specs.Air.{air_accepted}
use Rattle.rules.specs.declared.Star.{Star}

-- ---- a file and a line

-- what they come to: how many entries there are and their night, or the refusal, or a line of another form
pub data Begun : Type 0 where
  For : ℕ → Night → Begun
  Refused : Refusal → Begun
  Other : Begun

unfoldable pub begun_in : ℕ → Result Night Refusal → Begun
begun_in count (Ok n) = Begun.For count n
begun_in count (Err r) = Begun.Refused r

unfoldable pub begun_for : ℕ → Option Asked → Begun
begun_for count (Some asked) = begun_in count (night_of asked.moment asked.site)
begun_for count None = Begun.Other

unfoldable pub begun_of : Result ℕ Refusal → Option Asked → Begun
begun_of (Ok count) asked = begun_for count asked
begun_of (Err r) asked = Begun.Refused r

-- 02, C-11: "14, a reading not accepted, after all others"
unfoldable pub in_air : Option Air → Begun → Begun
in_air air (Begun.For count n) = cond (air_accepted air) (Begun.For count n) (Begun.Refused Refusal.Reading)
in_air air (Begun.Refused r) = Begun.Refused r
in_air air Begun.Other = Begun.Other

-- how many entries there are, and their night; or the refusal; or a line of another form
unfoldable pub begun : Option Air → List ℕ → List ℕ → Begun
begun air file line = in_air air (begun_of (list_count file) (asked_of line))

-- number and values: the count, and the 20 numbers of the night
unfoldable pub begun_answer : Begun → Answer
begun_answer (Begun.For count n) = given (pos count ∷ (prepared_answer (Ok n)).values)
begun_answer (Begun.Refused r) = refused r 21
begun_answer Begun.Other = other_form

-- ---- the line of an entry

-- with pressure and temperature it has a further column, the observed altitude
unfoldable pub line_in : Bool → Option Air → ℕ → Entry → List ℕ
line_in people None index e = entry_line people index e
line_in people (Some air) index e =
    entry_line people index e ++ observed_column people air.pressure air.temperature e

-- of a star in a night, worked as an entry of a list is
unfoldable pub star_line : Bool → Option Air → Night → ℕ → Result Star Refusal → List ℕ
star_line people air n index (Ok s) = line_in people air index (worked n (fresh_entry s))
star_line people air n index (Err r) = refused_line (number r)

-- the line of an entry of a file
unfoldable pub answer_line : Bool → Option Air → List ℕ → Night → ℕ → List ℕ
answer_line people air file n index = star_line people air n index (list_star file index)
