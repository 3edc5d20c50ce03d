-- The rules' data from plain numbers. Definitions only.
use Rattle.std.specs.Prelude.{not, cond, ℤ, Float, Result, Err}
use Rattle.rules.specs.declared.Tt.{Tt}
use Rattle.rules.specs.declared.Moment.{Moment}
use Rattle.rules.specs.declared.Site.{Site}
use Rattle.rules.specs.declared.Direction.{Direction}
use Rattle.rules.specs.declared.Reading.{Reading}
use Rattle.rules.specs.declared.Weather.{Weather}
use Rattle.rules.specs.Units.{same, +◌}
use Rattle.rules.specs.Weather.{taken_from}

-- a date, a time of day, and UT1−UTC in ms
abbrev pub moment_of : ℤ → ℤ → ℤ → ℤ → ℤ → ℤ → ℤ → ℤ → Moment
moment_of year month day hour minute second ms ut1_minus_utc = record {
  date = record { year = year; month = month; day = day };
  time = record { hour = hour; minute = minute; second = second; ms = ms };
  ut1_minus_utc = ut1_minus_utc;
}

abbrev pub tt_of : ℤ → Tt
tt_of t = record { 0 = t }

abbrev pub site_of : ℤ → ℤ → Site
site_of latitude longitude = record { latitude = latitude; longitude = longitude }

abbrev pub direction_of : ℤ → ℤ → ℤ → Direction
direction_of x y z = record { x = x; y = y; z = z }

-- the weather record: a flag is set where it is any number but nought
abbrev pub weather_of : Float → Float → ℤ → ℤ → Weather
weather_of pressure temperature has_pressure has_temperature = record {
  pressure = pressure;
  temperature = temperature;
  has_pressure = not (same has_pressure (+ 0));
  has_temperature = not (same has_temperature (+ 0));
}

-- a reading by its kind: 0 is nothing, 1 a pressure, 2 a temperature, and any other is not accepted
unfoldable pub taken_by_kind : Weather → ℤ → Float → Result Weather Weather
taken_by_kind w kind x =
    cond (same kind (+ 0)) (taken_from w Reading.Nothing)
    (cond (same kind (+ 1)) (taken_from w (Reading.Pressure x))
    (cond (same kind (+ 2)) (taken_from w (Reading.Temperature x))
    (Err w)))
