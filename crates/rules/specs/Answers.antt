-- docs/RULES.md, "Refusal numbers": the number and values of each answer. Definitions only.
use Rattle.std.specs.Prelude.{ℕ, Bool, true, false, cond, List, [], ◌∷◌, ◌++◌, ℤ, pos, Result, Ok, Err, Option, Some, None}
use Rattle.rules.specs.Data.{Pair, Place, Date, Precession, Arguments, Nutation, Direction, Night, Star}
use Rattle.rules.specs.Data.{Utc, Moment, Instants}
use Rattle.rules.specs.Data.{Observed}
use Rattle.rules.specs.Data.{Weather, Refusal}
use Rattle.rules.specs.Refusals.{number, Answer, given, refused, other_form}

-- the day number
unfoldable pub numbered_answer : Result ℤ Refusal → Answer
numbered_answer (Ok n) = given (n ∷ [])
numbered_answer (Err r) = refused r 1

-- year, month, day
unfoldable pub dated_answer : Result Date Refusal → Answer
dated_answer (Ok d) = given (d.year ∷ d.month ∷ d.day ∷ [])
dated_answer (Err r) = refused r 3

-- UT, TT
unfoldable pub instants_answer : Result Instants Refusal → Answer
instants_answer (Ok i) = given (i.ut.0 ∷ i.tt.0 ∷ [])
instants_answer (Err r) = refused r 2

-- year, month, day; hour, minute, second, ms
abbrev pub utc_numbers : Utc → List ℤ
utc_numbers u = u.date.year ∷ u.date.month ∷ u.date.day
    ∷ u.time.hour ∷ u.time.minute ∷ u.time.second ∷ u.time.ms ∷ []

unfoldable pub clocked_answer : Result Utc Refusal → Answer
clocked_answer (Ok u) = given (utc_numbers u)
clocked_answer (Err r) = refused r 7

-- year, month, day; hour, minute, second, ms; UT1−UTC
unfoldable pub moment_numbers : Moment → List ℤ
moment_numbers m = m.date.year ∷ m.date.month ∷ m.date.day
    ∷ m.time.hour ∷ m.time.minute ∷ m.time.second ∷ m.time.ms ∷ m.ut1_minus_utc ∷ []

unfoldable pub line_answer : Option Moment → Answer
line_answer (Some m) = given (moment_numbers m)
line_answer None = other_form

-- the angle
unfoldable pub angle_answer : Result ℤ Refusal → Answer
angle_answer (Ok a) = given (a ∷ [])
angle_answer (Err r) = refused r 1

-- ζ, z, θ
unfoldable pub precessed_answer : Result Precession Refusal → Answer
precessed_answer (Ok p) = given (p.zeta ∷ p.z ∷ p.theta ∷ [])
precessed_answer (Err r) = refused r 3

-- l, l', F, D, Ω
unfoldable pub five_arguments_answer : Result Arguments Refusal → Answer
five_arguments_answer (Ok a) = given (a.moon ∷ a.sun ∷ a.latitude ∷ a.elongation ∷ a.node ∷ [])
five_arguments_answer (Err r) = refused r 5

-- Δψ, Δε
unfoldable pub nutated_answer : Result Nutation Refusal → Answer
nutated_answer (Ok n) = given (n.longitude ∷ n.obliquity ∷ [])
nutated_answer (Err r) = refused r 2

-- x, y, z
unfoldable pub turned_answer : Result Direction Refusal → Answer
turned_answer (Ok v) = given (v.x ∷ v.y ∷ v.z ∷ [])
turned_answer (Err r) = refused r 3

-- 02, C-12: "there is no angle"
unfoldable pub has_angle : Option ℤ → Bool
has_angle (Some a) = true
has_angle None = false

-- 02, C-12: "nought in the angle that has none"
unfoldable pub or_nought : Option ℤ → ℤ
or_nought (Some a) = a
or_nought None = pos 0

-- beside an angle: 1 where there is one
unfoldable pub flag : Option ℤ → ℤ
flag a = cond (has_angle a) (pos 1) (pos 0)

-- flag and angle
unfoldable pub read_answer : Option ℤ → Answer
read_answer a = given (flag a ∷ or_nought a ∷ [])

-- right ascension with its flag, declination, azimuth with its flag, altitude; then what stands beside the place
unfoldable pub place_numbers : Place → List ℤ → List ℤ
place_numbers p beside =
    flag p.ra ∷ or_nought p.ra ∷ p.declination
    ∷ flag p.azimuth ∷ or_nought p.azimuth ∷ p.altitude ∷ beside

unfoldable pub placed_answer : Result Place Refusal → Answer
placed_answer (Ok p) = given (place_numbers p [])
placed_answer (Err r) = refused r 6

-- the place, and the observed altitude
unfoldable pub observed_answer : Result Observed Refusal → Answer
observed_answer (Ok o) = given (place_numbers o.place (o.altitude ∷ []))
observed_answer (Err r) = refused r 7

-- 0 or 14; the record's floats are no whole numbers, so it stands beside its number
unfoldable pub weathered_number : Result Weather Weather → ℕ
weathered_number (Ok w) = 0
weathered_number (Err w) = number Refusal.Reading

-- the record: 02, C-11: "the record stays"
unfoldable pub weathered_record : Result Weather Weather → Weather
weathered_record (Ok w) = w
weathered_record (Err w) = w

-- the count
unfoldable pub listed_answer : Result ℕ Refusal → Answer
listed_answer (Ok n) = given (pos n ∷ [])
listed_answer (Err r) = refused r 1

-- right ascension, declination, their motions
unfoldable pub listed_star_answer : Result Star Refusal → Answer
listed_star_answer (Ok s) = given (s.ra ∷ s.declination ∷ s.ra_motion ∷ s.declination_motion ∷ [])
listed_star_answer (Err r) = refused r 4

-- a pair's two parts
unfoldable pub parts : Pair → List ℤ
parts p = p.cosine ∷ p.sine ∷ []

-- TT, then what each of the steps 3 to 6 takes
unfoldable pub prepared_answer : Result Night Refusal → Answer
prepared_answer (Ok n) = given (n.tt.0 ∷ parts n.zeta ++ parts n.minus_theta ++ parts n.z
    ++ (n.aberration.x ∷ n.aberration.y ∷ n.aberration.z ∷ [])
    ++ parts n.minus_epsilon ++ parts n.delta_psi ++ parts n.true_epsilon ++ parts n.minus_sidereal ++ parts n.latitude_less_quarter)
prepared_answer (Err r) = refused r 20
