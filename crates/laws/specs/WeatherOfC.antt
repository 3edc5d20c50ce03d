-- The record that C keeps: what the module answered it takes back as it was, and any other is taken only with its
-- fields in range. So the fields are in range at the start, after any readings, and whatever C hands back.
use Rattle.std.specs.Prelude.{◌≡◌, refl, Bool, true, false, cond, List, [], ◌∷◌, Float, Ok, Err}
use Rattle.std.proofs.Common.{sym, ap, subst, ◌∙◌, arith}
use Rattle.rules.specs.declared.Reading.{Reading}
use Rattle.rules.specs.declared.Weather.{Weather}
use Rattle.rules.specs.Units.{between}
use Rattle.rules.specs.Refusals.{number}
use Rattle.rules.specs.Answers.{weathered_number, weathered_record}
use Rattle.rules.specs.Floats.{with_sign, finite, numerator, denominator, lies}
use Rattle.rules.specs.Weather.{is_pressure, is_temperature, is_accepted, in_range, standard_pressure, standard_temperature}
use Rattle.rules.specs.Weather.{no_weather, with_reading, taken, mended, recorded, stays, taken_in, taken_from}
use Rattle.laws.specs.Weather.{fields_in_range, in_range_of_fields, Kept, no_weather_kept, taken_kept}

-- ---- whatever C hands back

mended_keeps : (w : Weather) → in_range (mended w) ≡ true → Kept (mended w)
unfolding mended
mended_keeps w t = record {
  fields = fields_in_range (mended w) t;
  no_pressure = λ e. rw e;
  no_temperature = λ e. rw e;
}

pub recorded_keeps : (w v : Weather) → recorded w ≡ Ok v → Kept v
unfolding recorded weathered_number weathered_record number
recorded_keeps w v e = by (in_range (mended w)) refl e
  where
    by : (b : Bool) → in_range (mended w) ≡ b
        → cond b (Ok (mended w)) (Err w) ≡ Ok v → Kept v
    by true t e = subst Kept (ap weathered_record e) (mended_keeps w t)
    by false t e = absurd (omega (arith, ap weathered_number e))

-- ---- what the module answered

field : (b : Bool) (x y : Float) → (b ≡ false → x ≡ y) → cond b x y ≡ x
field true x y f = refl
field false x y f = sym (f refl)

mended_kept : (w : Weather) → Kept w → mended w ≡ w
unfolding mended
mended_kept w h = rw (
  field w.has_pressure w.pressure standard_pressure h.no_pressure,
  field w.has_temperature w.temperature standard_temperature h.no_temperature,
)

-- is taken back as it is, and a reading into it as into one that never left
pub recorded_kept : (w : Weather) → Kept w → recorded w ≡ Ok w
unfolding recorded
recorded_kept w h = rw (mended_kept w h, in_range_of_fields w h.fields)

pub taken_from_kept : (w : Weather) (r : Reading) → Kept w → taken_from w r ≡ taken w r
unfolding taken_from taken_in taken stays
taken_from_kept w r h = ap (λ a. taken_in w a r) (recorded_kept w h) ∙ either (is_accepted r)
  where
    either : (b : Bool)
        → stays w (cond b (Ok (with_reading w r)) (Err w))
        ≡ cond b (Ok (with_reading w r)) (Err w)
    either true = refl
    either false = refl

-- a record of which nothing has come, all noughts say, is the one before any reading
pub nothing_come : (p t : Float)
    → recorded (record { pressure = p; temperature = t; has_pressure = false; has_temperature = false })
    ≡ Ok no_weather
unfolding recorded mended no_weather in_range is_pressure is_temperature lies finite numerator denominator with_sign between
nothing_come p t = refl

-- ---- after any readings, from none on: each call is given the record that the one before answered

pub after : Weather → List Reading → Weather
after w [] = w
after w (r ∷ rs) = after (weathered_record (taken_from w r)) rs

after_kept : (w : Weather) (rs : List Reading) → Kept w → Kept (after w rs)
unfolding after
after_kept w [] h = h
after_kept w (r ∷ rs) h = after_kept (weathered_record (taken_from w r)) rs
    (subst (λ a. Kept (weathered_record a)) (sym (taken_from_kept w r h)) (taken_kept w r h))

pub record_kept : (rs : List Reading) → Kept (after no_weather rs)
record_kept rs = after_kept no_weather rs no_weather_kept
