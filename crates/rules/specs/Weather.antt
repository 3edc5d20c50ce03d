-- docs/RULES.md, "Refraction": the probe's readings and the weather record (02, C-11). Definitions only.
use Rattle.std.specs.Prelude.{Bool, true, false, cond, ◌&&◌, pos, Float, Result, Ok, Err}
use Rattle.std.specs.Float.{fin}
use Rattle.rules.specs.Data.{Reading, Weather}
use Rattle.rules.specs.Units.{+◌, −◌}
use Rattle.rules.specs.Floats.{lies}

-- "Accepted are finite values, 500 to 1,100 and −50 to 50, ends included"
unfoldable pub is_pressure : Float → Bool
is_pressure x = lies (+ 500) (+ 1100) x

unfoldable pub is_temperature : Float → Bool
is_temperature x = lies (− 50) (+ 50) x

-- whether a reading is accepted: that nothing came, always
unfoldable pub is_accepted : Reading → Bool
is_accepted (Reading.Pressure p) = is_pressure p
is_accepted (Reading.Temperature t) = is_temperature t
is_accepted Reading.Nothing = true

-- the record's fields are finite and in range, whether they have come or not
unfoldable pub in_range : Weather → Bool
in_range w = is_pressure w.pressure && is_temperature w.temperature

-- what a field holds before a reading has come: the formula's own weather, 1010 hPa and 10 degrees
abbrev pub standard_pressure : Float
standard_pressure = fin false 505 (pos 1)

abbrev pub standard_temperature : Float
standard_temperature = fin false 5 (pos 1)

-- the record before any reading
unfoldable pub no_weather : Weather
no_weather = record {
  pressure = standard_pressure;
  temperature = standard_temperature;
  has_pressure = false;
  has_temperature = false;
}

-- "The latest of each make the weather record"
unfoldable pub with_pressure : Weather → Float → Weather
with_pressure w p = record {
  pressure = p;
  temperature = w.temperature;
  has_pressure = true;
  has_temperature = w.has_temperature;
}

unfoldable pub with_temperature : Weather → Float → Weather
with_temperature w t = record {
  pressure = w.pressure;
  temperature = t;
  has_pressure = w.has_pressure;
  has_temperature = true;
}

unfoldable pub with_reading : Weather → Reading → Weather
with_reading w (Reading.Pressure p) = with_pressure w p
with_reading w (Reading.Temperature t) = with_temperature w t
with_reading w Reading.Nothing = w

-- "14, a reading not accepted ..; the record stays"
unfoldable pub taken : Weather → Reading → Result Weather Weather
taken w r = cond (is_accepted r) (Ok (with_reading w r)) (Err w)

-- ---- a record that C kept, and that may be anything

-- a field that has not come is what it is before any reading
unfoldable pub mended : Weather → Weather
mended w = record {
  pressure = cond w.has_pressure w.pressure standard_pressure;
  temperature = cond w.has_temperature w.temperature standard_temperature;
  has_pressure = w.has_pressure;
  has_temperature = w.has_temperature;
}

-- and one that has come has to be accepted
unfoldable pub recorded : Weather → Result Weather Weather
recorded w = cond (in_range (mended w)) (Ok (mended w)) (Err w)

-- a reading into it: where either is refused, the record stays as C kept it
unfoldable pub stays : Weather → Result Weather Weather → Result Weather Weather
stays w (Ok v) = Ok v
stays w (Err v) = Err w

unfoldable pub taken_in : Weather → Result Weather Weather → Reading → Result Weather Weather
taken_in w (Ok v) r = stays w (taken v r)
taken_in w (Err v) r = Err w

unfoldable pub taken_from : Weather → Reading → Result Weather Weather
taken_from w r = taken_in w (recorded w) r
