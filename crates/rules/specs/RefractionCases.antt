-- docs/RULES.md, "Refraction": worked cases of the rules (02, C-11), as one list under one claim.
use Rattle.std.specs.Prelude.{◌≡◌, refl, true, false, pos, negsuc, Float, Ok, Err}
use Rattle.std.specs.Float.{nan, inf, fin}
use Rattle.rules.specs.Data.{Reading, Weather, Refusal}
use Rattle.rules.specs.Units.{+◌, −◌, between}
use Rattle.rules.specs.Rounding.{rnd, rnd_size, modulo}
use Rattle.rules.specs.Length.{root_from, root, square, pair_squares, part_to, pair_to_length}
use Rattle.rules.specs.Circle.{radian_parts, square_parts, stage, stages, raw_sine, raw_cosine, pair_of_parts}
use Rattle.rules.specs.Circle.{pair_to_half, exchanged_pair, pair_to_quarter, in_quarter, folded, pair}
use Rattle.rules.specs.Floats.{with_sign, finite, numerator, denominator, lies, tenths}
use Rattle.rules.specs.Weather.{is_pressure, is_temperature, is_accepted, in_range, standard_temperature, no_weather}
use Rattle.rules.specs.Weather.{with_pressure, with_temperature, with_reading, taken, mended, recorded}
use Rattle.rules.specs.Refraction.{argument, not_below_nought, lift_of, standard_lift, in_weather, is_lifted}
use Rattle.rules.specs.Refraction.{lift_at, lift, observed, observed_in, observed_altitude}

-- 1013.25, −10.25, and minus nought
abbrev usual : Float
usual = fin false 4053 (negsuc 1)

abbrev frost : Float
frost = fin true 41 (negsuc 1)

abbrev minus_nought : Float
minus_nought = fin true 0 (pos 0)

abbrev weather : Float → Float → Weather
weather p t = record { pressure = p; temperature = t; has_pressure = true; has_temperature = true }

abbrev pressure_alone : Float → Weather
pressure_alone p = record {
  pressure = p;
  temperature = standard_temperature;
  has_pressure = true;
  has_temperature = false;
}

-- 1100 hPa and −50 degrees: the most that is lifted
abbrev coldest : Weather
coldest = weather (fin false 275 (pos 2)) (fin true 25 (pos 1))

pub record RefractionCases : Type 0 where
  pub tenths_of_1013_and_a_quarter : tenths usual ≡ + 10133
  pub tenths_of_minus_10_and_a_quarter : tenths frost ≡ − 103
  pub tenths_of_minus_nought : tenths minus_nought ≡ + 0
  pub pressure_500 : is_pressure (fin false 125 (pos 2)) ≡ true
  pub pressure_1100 : is_pressure (fin false 275 (pos 2)) ≡ true
  pub pressure_next_above_1100 : is_pressure (fin false 9011201 (negsuc 12)) ≡ false
  pub pressure_nan : is_pressure nan ≡ false
  pub pressure_without_end : is_pressure (inf false) ≡ false
  pub temperature_minus_50 : is_temperature (fin true 25 (pos 1)) ≡ true
  pub temperature_minus_nought : is_temperature minus_nought ≡ true
  pub none_has_come : in_range no_weather ≡ true
  pub refused : taken no_weather (Reading.Pressure nan) ≡ Err no_weather
  pub nothing : taken coldest Reading.Nothing ≡ Ok coldest
  pub first_pressure : taken no_weather (Reading.Pressure usual) ≡ Ok (pressure_alone usual)
  pub latest_temperature : taken coldest (Reading.Temperature frost)
      ≡ Ok (weather (fin false 275 (pos 2)) frost)
  pub argument_at_the_floor : argument (− 3600000000) ≡ + 5421897810
  pub standard_at_the_floor : standard_lift (− 3600000000) ≡ + 2327690259
  pub standard_at_the_horizon : standard_lift (+ 0) ≡ + 1738915635
  pub standard_at_the_zenith : standard_lift (+ 324000000000) ≡ + 0
  pub coldest_at_the_floor : lift coldest (− 3600000000) ≡ + 3217200096
  pub coldest_below_the_floor : lift coldest (− 3600000001) ≡ + 0
  pub observed_at_10_degrees : observed (weather usual frost) (+ 36000000000) ≡ + 36350675425
  pub observed_without_weather : observed_altitude no_weather (+ 36000000000) ≡ Ok (+ 36000000000)
  pub observed_with_pressure_alone : observed_altitude (pressure_alone usual) (+ 36000000000)
      ≡ Ok (+ 36000000000)
  pub observed_refused_lem : observed_altitude (weather nan frost) (+ 0) ≡ Err Refusal.Reading

pub refraction_cases : RefractionCases
unfolding between rnd rnd_size modulo root_from root square pair_squares part_to pair_to_length radian_parts square_parts
    stage stages raw_sine raw_cosine pair_of_parts pair_to_half exchanged_pair pair_to_quarter in_quarter folded pair with_sign
    finite numerator denominator lies tenths is_pressure is_temperature is_accepted in_range no_weather with_pressure
    with_temperature with_reading taken mended recorded argument not_below_nought lift_of standard_lift in_weather is_lifted
    lift_at lift observed observed_in observed_altitude
refraction_cases = record {
  tenths_of_1013_and_a_quarter = refl;
  tenths_of_minus_10_and_a_quarter = refl;
  tenths_of_minus_nought = refl;
  pressure_500 = refl;
  pressure_1100 = refl;
  pressure_next_above_1100 = refl;
  pressure_nan = refl;
  pressure_without_end = refl;
  temperature_minus_50 = refl;
  temperature_minus_nought = refl;
  none_has_come = refl;
  refused = refl;
  nothing = refl;
  first_pressure = refl;
  latest_temperature = refl;
  argument_at_the_floor = refl;
  standard_at_the_floor = refl;
  standard_at_the_horizon = refl;
  standard_at_the_zenith = refl;
  coldest_at_the_floor = refl;
  coldest_below_the_floor = refl;
  observed_at_10_degrees = refl;
  observed_without_weather = refl;
  observed_with_pressure_alone = refl;
  observed_refused_lem = refl;
}
