-- docs/RULES.md, "Polynomials in time": the five arguments of nutation (IAU 1980). Definitions only.
use Rattle.std.specs.Prelude.{cond, List, [], ◌∷◌, ℤ, Result, Ok, Err}
use Rattle.rules.specs.Data.{Tt, Arguments, Refusal}
use Rattle.rules.specs.Units.{+◌, −◌}
use Rattle.rules.specs.Polynomials.{polynomial, instant_refused}

-- l, the Moon's mean anomaly: in degrees M' of source 000, section 3.5.1.2
abbrev pub moon_row : List ℤ
moon_row = + 485866733000 ∷ + 1717915922633000 ∷ + 31310000 ∷ + 64000 ∷ []

-- l', the Sun's mean anomaly: M there
abbrev pub sun_row : List ℤ
sun_row = + 1287099804000 ∷ + 129596581224000 ∷ − 577000 ∷ − 12000 ∷ []

-- F, the Moon's mean argument of latitude
abbrev pub latitude_row : List ℤ
latitude_row = + 335778877000 ∷ + 1739527263137000 ∷ − 13257000 ∷ + 11000 ∷ []

-- D, the Moon's mean elongation from the Sun: E there
abbrev pub elongation_row : List ℤ
elongation_row = + 1072261307000 ∷ + 1602961601328000 ∷ − 6891000 ∷ + 19000 ∷ []

-- Ω, the longitude of the Moon's ascending node
abbrev pub node_row : List ℤ
node_row = + 450160280000 ∷ − 6962890539000 ∷ + 7455000 ∷ + 8000 ∷ []

unfoldable pub arguments : Tt → Arguments
arguments t = record {
  moon = polynomial moon_row t.0;
  sun = polynomial sun_row t.0;
  latitude = polynomial latitude_row t.0;
  elongation = polynomial elongation_row t.0;
  node = polynomial node_row t.0;
}

-- or refusal 12
unfoldable pub arguments_at : Tt → Result Arguments Refusal
arguments_at t = cond (instant_refused t.0) (Err Refusal.Instant) (Ok (arguments t))
