-- The weather record keeps its fields finite and in range, from no reading on and by every step.
use Rattle.std.specs.Prelude.{◌≡◌, refl, Bool, true, false, cond, ◌&&◌, ◌≤◌, ℤ, pos, nat_abs, Float, Ok, Err}
use Rattle.std.proofs.Common.{arith}
use Rattle.std.specs.Float.{fin}
use Rattle.std.specs.Float.Ieee.{le}
use Rattle.rules.specs.declared.Reading.{Reading}
use Rattle.rules.specs.declared.Weather.{Weather}
use Rattle.integers.specs.Difference.{le_z_true}
use Rattle.integers.specs.Size.{abs_le}
use Rattle.rules.specs.Units.{between, +◌, −◌}
use Rattle.laws.specs.Ranges.{InRange, in_range_lem, between_iff, both_true, true_not_false, yes}
use Rattle.rules.specs.Floats.{with_sign, finite, numerator, denominator, lies, tenths}
use Rattle.rules.specs.Weather.{is_pressure, is_temperature, is_accepted, in_range, no_weather, with_pressure}
use Rattle.rules.specs.Weather.{with_temperature, with_reading}
use Rattle.rules.specs.Weather.{taken}
use Rattle.rules.specs.Answers.{weathered_record}
use Rattle.rules.specs.Weather.{standard_pressure, standard_temperature}
use Rattle.laws.specs.FloatComparison.{lies_by_tests}
use Rattle.laws.specs.Floats.{denominator_pos, Lies, lies_is, lies_size, tenths_between}
use Rattle.laws.specs.Tenths.{Small}

-- ---- the fields

-- each field is finite and in range
pub record FieldsInRange (w : Weather) : Type 0 where
  pub pressure : is_pressure w.pressure ≡ true
  pub temperature : is_temperature w.temperature ≡ true

pub fields_in_range : (w : Weather) → in_range w ≡ true → FieldsInRange w
unfolding in_range
fields_in_range w e =
    let b = both_true (is_pressure w.pressure) (is_temperature w.temperature) e in
    record { pressure = b.0; temperature = b.1 }

pub in_range_of_fields : (w : Weather) → FieldsInRange w → in_range w ≡ true
unfolding in_range
in_range_of_fields w h = rw (h.pressure, h.temperature)

-- two comparisons decide: 500 is 125 × 2^2, 1100 is 275 × 2^2, 50 is 25 × 2
pub pressure_by_tests : (x : Float)
    → (le (fin false 125 (pos 2)) x && le x (fin false 275 (pos 2))) ≡ is_pressure x
unfolding is_pressure with_sign
pressure_by_tests x = lies_by_tests false false 125 275 2 2 x

pub temperature_by_tests : (x : Float)
    → (le (fin true 25 (pos 1)) x && le x (fin false 25 (pos 1))) ≡ is_temperature x
unfolding is_temperature with_sign
temperature_by_tests x = lies_by_tests true false 25 25 1 1 x

-- what code needs of a field
small_of : (low high : ℤ) (x : Float) → nat_abs low ≤ 1100 → nat_abs high ≤ 1100 → Lies low high x → Small x
small_of low high x hl hh r =
    record { finite = r.finite; size = omega (arith, lies_size low high 1100 x hl hh r, denominator_pos x) }

pub pressure_small : (x : Float) → is_pressure x ≡ true → Small x
unfolding is_pressure
pressure_small x e = small_of (+ 500) (+ 1100) x (omega arith) (omega arith) (lies_is (+ 500) (+ 1100) x e)

pub temperature_small : (x : Float) → is_temperature x ≡ true → Small x
unfolding is_temperature
temperature_small x e = small_of (− 50) (+ 50) x (omega arith) (omega arith) (lies_is (− 50) (+ 50) x e)

-- 5000 to 11000, and −500 to 500
pub pressure_tenths : (x : Float) → is_pressure x ≡ true → InRange 5000 11000 (tenths x)
unfolding is_pressure
pressure_tenths x e = in_range_lem 5000 11000 (tenths x)
    ((between_iff (+ 5000) (+ 11000) (tenths x)).1 (tenths_between (+ 500) (+ 1100) x (lies_is (+ 500) (+ 1100) x e)))

pub temperature_tenths : (x : Float) → is_temperature x ≡ true → nat_abs (tenths x) ≤ 500
unfolding is_temperature
temperature_tenths x e =
    let t = tenths x in
    let b = tenths_between (− 50) (+ 50) x (lies_is (− 50) (+ 50) x e) in
    abs_le t 500
    (omega (arith, le_z_true t (+ 500) (yes _ b.below.le)))
    (omega (arith, le_z_true (− 500) t (yes _ b.above.le)))

-- ---- every step

-- besides, a field that has not come is what it is before any reading
pub record Kept (w : Weather) : Type 0 where
  pub fields : FieldsInRange w
  pub no_pressure : w.has_pressure ≡ false → w.pressure ≡ standard_pressure
  pub no_temperature : w.has_temperature ≡ false → w.temperature ≡ standard_temperature

-- at the start
pub no_weather_kept : Kept no_weather
unfolding no_weather is_pressure is_temperature lies finite numerator denominator with_sign between
no_weather_kept = record {
  fields = record { pressure = refl; temperature = refl };
  no_pressure = λ e. refl;
  no_temperature = λ e. refl;
}

-- with a reading that is accepted
pub with_kept : (w : Weather) (r : Reading) → Kept w → is_accepted r ≡ true → Kept (with_reading w r)
unfolding is_accepted with_reading with_pressure with_temperature
with_kept w (Reading.Pressure p) h e = record {
  fields = record { pressure = e; temperature = h.fields.temperature };
  no_pressure = λ f. true_not_false f;
  no_temperature = h.no_temperature;
}
with_kept w (Reading.Temperature t) h e = record {
  fields = record { pressure = h.fields.pressure; temperature = e };
  no_pressure = h.no_pressure;
  no_temperature = λ f. true_not_false f;
}
with_kept w Reading.Nothing h e = h

-- with any reading: the answer's record is kept
pub taken_kept : (w : Weather) (r : Reading) → Kept w → Kept (weathered_record (taken w r))
unfolding taken weathered_record
taken_kept w r h = by (is_accepted r) refl
  where
    by : (b : Bool) → is_accepted r ≡ b
        → Kept (weathered_record (cond b (Ok (with_reading w r)) (Err w)))
    by true e = with_kept w r h e
    by false e = h
