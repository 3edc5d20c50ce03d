-- Our own program `places`, not document 01: what a command says of the air, in tenths. Definitions only.
use Rattle.std.specs.Prelude.{ℤ, Bool, true, cond, ◌&&◌, [], ◌∷◌, Option, Some, None}
use Rattle.rules.specs.Units.{+◌, −◌, between}
use Rattle.rules.specs.Refusals.{Answer, given, other_form}
use Rattle.line_entries.specs.declared.air.Air.{Air}
use Rattle.line_places.specs.declared.command.Command.{Command}

abbrev pub air_of : ℤ → ℤ → Air
air_of p t = record { pressure = p; temperature = t }

abbrev pub command_for : Bool → Option Air → Command
command_for people air = record { people = people; air = air }

-- 02, C-11: "500 to 1,100 and −50 to 50, ends included", in tenths; nothing is refused where they are not given
unfoldable pub air_accepted : Option Air → Bool
air_accepted None = true
air_accepted (Some air) = between (+ 5000) (+ 11000) air.pressure && between (− 500) (+ 500) air.temperature

-- ---- number and values

-- none, or pressure and temperature
unfoldable pub air_answer : Option Air → Answer
air_answer None = given []
air_answer (Some air) = given (air.pressure ∷ air.temperature ∷ [])

-- 1 for people and 0 else, and then what is said of the air
unfoldable pub command_answer : Option Command → Answer
command_answer (Some c) = given (cond c.people (+ 1) (+ 0) ∷ (air_answer c.air).values)
command_answer None = other_form
