-- Where Sirius is seen on the evening of `SamplePlace`, at 1013.25 hPa and −10.25 degrees, by the rules alone: README's
-- C program prints the same.
use Rattle.std.specs.Prelude.{true, false, negsuc}
use Rattle.std.specs.Float.{fin}
use Rattle.rules.specs.declared.Weather.{Weather}

abbrev pub frosty_weather : Weather
frosty_weather = record {
  pressure = fin false 4053 (negsuc 1);
  temperature = fin true 41 (negsuc 1);
  has_pressure = true;
  has_temperature = true;
}
