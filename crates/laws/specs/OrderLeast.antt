-- No smaller distance than the 119 µas of `order_kept` does: two altitudes 118 µas apart are seen at the same height.
use Rattle.std.specs.Prelude.{◌≡◌, refl, true, false, ℤ, pos, ◌+ℤ◌, ◌≤ℤ◌, ◌<ℤ◌}
use Rattle.std.proofs.Common.{subst}
use Rattle.std.specs.Float.{fin}
use Rattle.std.specs.Int.Signed.{<ℤ_irrefl}
use Rattle.rules.specs.declared.Weather.{Weather}
use Rattle.rules.specs.Units.{+◌, −◌, between}
use Rattle.rules.specs.Rounding.{rnd, rnd_size, modulo}
use Rattle.rules.specs.Length.{root_from, root, square, pair_squares, part_to, pair_to_length}
use Rattle.rules.specs.Circle.{radian_parts, square_parts, stage, stages, raw_sine, raw_cosine, pair_of_parts}
use Rattle.rules.specs.Circle.{pair_to_half, exchanged_pair, pair_to_quarter, in_quarter, folded, pair}
use Rattle.rules.specs.Floats.{with_sign, finite, numerator, denominator, lies, tenths}
use Rattle.rules.specs.Weather.{is_pressure, is_temperature}
use Rattle.rules.specs.Refraction.{argument, not_below_nought, lift_of, standard_lift, in_weather, is_lifted}
use Rattle.rules.specs.Refraction.{lift_at, lift, observed}
use Rattle.laws.specs.Weather.{FieldsInRange}

-- 1100 hPa and −50 degrees: the most that is lifted
abbrev pub coldest : Weather
coldest = record {
  pressure = fin false 275 (pos 2);
  temperature = fin true 25 (pos 1);
  has_pressure = true;
  has_temperature = true;
}

coldest_in_range : FieldsInRange coldest
unfolding is_pressure is_temperature lies finite numerator denominator with_sign between
coldest_in_range = record { pressure = refl; temperature = refl }

-- 8,864 µas above the floor: the x of g is one more from the next altitude on, and the lift 118 less
pub observed_same : observed coldest (− 3599991136) ≡ observed coldest (− 3599991018)
unfolding between rnd rnd_size modulo root_from root square pair_squares part_to pair_to_length radian_parts square_parts
    stage stages raw_sine raw_cosine pair_of_parts pair_to_half exchanged_pair pair_to_quarter in_quarter folded pair with_sign
    finite numerator denominator tenths argument not_below_nought lift_of standard_lift in_weather is_lifted lift_at lift
    observed
observed_same = refl

pub order_lost : ¬ ((w : Weather) (h k : ℤ) → FieldsInRange w → (h +ℤ + 118) ≤ℤ k → observed w h <ℤ observed w k)
order_lost f = <ℤ_irrefl (subst (λ z. z <ℤ observed coldest (− 3599991018)) observed_same
    (f coldest (− 3599991136) (− 3599991018) coldest_in_range (record { le = tt })))
