-- Where Sirius is seen on the evening of `SamplePlace`, at 1013.25 hPa and −10.25 degrees, by the rules alone.
use Rattle.std.specs.Prelude.{◌≡◌, refl, Ok}
use Rattle.std.proofs.Common.{ap, ◌∙◌}
use Rattle.rules.specs.declared.Observed.{Observed}
use Rattle.rules.specs.Units.{+◌, between}
use Rattle.rules.specs.Rounding.{rnd, rnd_size, modulo}
use Rattle.rules.specs.Length.{root_from, root, square, pair_squares, part_to, pair_to_length}
use Rattle.rules.specs.Circle.{radian_parts, square_parts, stage, stages, raw_sine, raw_cosine, pair_of_parts}
use Rattle.rules.specs.Circle.{pair_to_half, exchanged_pair, pair_to_quarter, in_quarter, folded, pair}
use Rattle.rules.specs.Floats.{with_sign, finite, numerator, denominator, lies, tenths}
use Rattle.rules.specs.Weather.{is_pressure, is_temperature, in_range, mended, recorded}
use Rattle.rules.specs.Refraction.{argument, not_below_nought, lift_of, standard_lift, in_weather, is_lifted, lift_at, lift}
use Rattle.rules.specs.Refraction.{observed, observed_in, observed_altitude, observed_at, observed_beside, observed_place}
use Rattle.laws.specs.SampleNight.{evening, here}
use Rattle.laws.specs.SamplePlace.{sirius, sirius_place}
use Rattle.laws.proofs.SamplePlace.{sirius_stands}
use Rattle.laws.specs.SampleObserved.{frosty_weather}
use Rattle.rules.specs.Refraction.{observed_with}

pub sirius_observed : observed_place evening sirius here frosty_weather ≡ Ok (observed_with sirius_place (+ 63990822289))
unfolding between rnd rnd_size modulo root_from root square pair_squares part_to pair_to_length radian_parts square_parts
    stage stages raw_sine raw_cosine pair_of_parts pair_to_half exchanged_pair pair_to_quarter in_quarter folded pair with_sign
    finite numerator denominator lies tenths is_pressure is_temperature in_range mended recorded argument not_below_nought
    lift_of standard_lift in_weather is_lifted lift_at lift observed observed_in observed_altitude observed_at observed_beside
    observed_place
sirius_observed = ap (λ a. observed_beside a frosty_weather) sirius_stands ∙ refl
