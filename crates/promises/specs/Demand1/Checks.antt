-- The checks of each entry point, in the order in which they run: a refusal of the table, and what it is given for.
-- Definitions only.
use Rattle.std.specs.Prelude.{Bool, true, false, not, cond, List, [], ◌∷◌, ◌++◌, ℕ, ltb, length, ℤ, Float}
use Rattle.rules.specs.declared.Date.{Date}
use Rattle.rules.specs.declared.Tt.{Tt}
use Rattle.rules.specs.declared.Moment.{Moment}
use Rattle.rules.specs.declared.Star.{Star}
use Rattle.rules.specs.declared.Site.{Site}
use Rattle.rules.specs.declared.Direction.{Direction}
use Rattle.rules.specs.declared.Reading.{Reading}
use Rattle.rules.specs.declared.Weather.{Weather}
use Rattle.rules.specs.declared.Entry.{Entry}
use Rattle.rules.specs.declared.Refusal.{Refusal}
use Rattle.rules.specs.Units.{same, +◌}
use Rattle.rules.specs.Checks.{Check, ◌if◌}
use Rattle.rules.specs.Calendar.{year_refused, day_refused, number_refused, day_number}
use Rattle.rules.specs.Dates.{time_refused, ut1_minus_utc_refused}
use Rattle.rules.specs.Utc.{stretch_refused}
use Rattle.rules.specs.Polynomials.{instant_refused}
use Rattle.rules.specs.Length.{length_refused}
use Rattle.rules.specs.Turning.{direction_refused, turn_refused}
use Rattle.rules.specs.Night.{site_refused}
use Rattle.rules.specs.Stars.{star_refused}
use Rattle.rules.specs.Weather.{is_pressure, is_temperature, is_accepted, in_range, mended}
use Rattle.rules.specs.ListFile.{count_in, any_refused, stars}
use Rattle.rules.specs.ListReading.{mark_refused, count_refused}
use Rattle.rules.specs.ListWriting.{stars_of, room_refused}
use Rattle.rules.specs.ListWriting.{number_stars, row_refused}
use Rattle.rules.specs.NightList.{list_refused}

-- "Checks run in rising number where several apply": a date 1, 2
abbrev pub day_checks : Date → List Check
day_checks d =
    Refusal.Year if year_refused d
    ∷ Refusal.Day if day_refused d
    ∷ []

-- a day number 1
abbrev pub number_checks : ℤ → List Check
number_checks n = Refusal.Year if number_refused n ∷ []

-- a moment 1, 2, 3, 4
abbrev pub date_checks : Moment → List Check
date_checks m = day_checks m.date ++ (
    Refusal.Time if time_refused (day_number m.date) m.time
    ∷ Refusal.Ut1MinusUtc if ut1_minus_utc_refused m
    ∷ [])

-- UTC of a TT 20
abbrev pub stretch_checks : Tt → List Check
stretch_checks t = Refusal.Stretch if stretch_refused t ∷ []

-- an angle at an instant 12
abbrev pub instant_checks : ℤ → List Check
instant_checks t = Refusal.Instant if instant_refused t ∷ []

-- bringing to length 13
abbrev pub length_checks : Direction → List Check
length_checks v = Refusal.Length if length_refused v ∷ []

-- a turn 7, 8
abbrev pub turn_checks : ℤ → ℤ → Direction → List Check
turn_checks axis angle v =
    Refusal.Direction if direction_refused v
    ∷ Refusal.Turn if turn_refused axis angle
    ∷ []

-- a place 1 to 4, 5, 6
abbrev pub place_checks : Moment → Star → Site → List Check
place_checks m star site = date_checks m ++ (
    Refusal.Star if star_refused star
    ∷ Refusal.Site if site_refused site
    ∷ [])

-- a weather record that C kept 14: a reading that has come is not accepted
abbrev pub record_checks : Weather → List Check
record_checks w = Refusal.Reading if not (in_range (mended w)) ∷ []

-- and one reading more
abbrev pub reading_checks : Weather → Reading → List Check
reading_checks w r = record_checks w ++ (Refusal.Reading if not (is_accepted r) ∷ [])

-- by its kind, 0 nothing, 1 a pressure, 2 a temperature
abbrev pub kind_refused : ℤ → Float → Bool
kind_refused kind x =
    cond (same kind (+ 0)) false
    (cond (same kind (+ 1)) (not (is_pressure x))
    (cond (same kind (+ 2)) (not (is_temperature x)) true))

abbrev pub kind_checks : Weather → ℤ → Float → List Check
kind_checks w kind x = record_checks w ++ (Refusal.Reading if kind_refused kind x ∷ [])

-- a place with its observed altitude: those of the place, then 14, "after all others"
abbrev pub observed_checks : Moment → Star → Site → Weather → List Check
observed_checks m star site w = place_checks m star site ++ record_checks w

-- a night 1 to 4, 6
abbrev pub night_checks : Moment → Site → List Check
night_checks m site = date_checks m ++ (Refusal.Site if site_refused site ∷ [])

-- "a file is checked 9, 10, 5, then 11": 9, 10 and 5 are of the file alone
abbrev pub file_checks : List ℕ → List Check
file_checks file =
    Refusal.Mark if mark_refused file
    ∷ Refusal.Count if count_refused file
    ∷ Refusal.Star if any_refused (stars file)
    ∷ []

-- then 11, where the file is read into entries
abbrev pub read_checks : List ℕ → List Entry → List Check
read_checks file entries = file_checks file ++ (Refusal.Room if ltb (length entries) (count_in file) ∷ [])

-- and where a star of it is asked for
abbrev pub star_checks : List ℕ → ℕ → List Check
star_checks file index = file_checks file ++ (Refusal.Room if not (ltb index (count_in file)) ∷ [])

-- a list written 5, 11: of entries
abbrev pub write_checks : List Entry → List ℕ → List Check
write_checks entries room =
    Refusal.Star if any_refused (stars_of entries)
    ∷ Refusal.Room if room_refused (length entries) (length room)
    ∷ []

-- and of a row of numbers
abbrev pub row_checks : List ℤ → List ℕ → List Check
row_checks numbers room =
    Refusal.Star if any_refused (number_stars numbers)
    ∷ Refusal.Room if row_refused numbers (length room)
    ∷ []

-- "a night list is checked 1 to 4, 6, 11": then 5 for each entry, which marks it and doesn't refuse the list
abbrev pub night_list_checks : Moment → Site → List Entry → List Check
night_list_checks m site entries = night_checks m site ++ (Refusal.Room if list_refused entries ∷ [])
