-- Change C-11 in full: the weather record, the lift and the observed altitude. Demand 2 reads this for the observed
-- altitude only: `Demand1/Weather.place_untouched` says that the place beside it is the place's own. What is refused,
-- and exactly when, is `Demand1/Weather`; that every rule is followed to the last unit, `ByContract` and
-- `ByContractForC`.
use Rattle.std.specs.Prelude.{◌≡◌, true, false, List, ◌+◌, ◌≤◌, Float, ℤ, pos, nat_abs, ◌+ℤ◌, ◌*ℤ◌, ◌<ℤ◌, ◌≤ℤ◌, Ok}
use Rattle.std.proofs.Common.{lit<}
use Rattle.std.specs.Int.Signed.{lt_z}
use Rattle.rules.specs.declared.Reading.{Reading}
use Rattle.rules.specs.declared.Weather.{Weather}
use Rattle.rules.specs.Units.{unit, quarter, +◌, −◌}
use Rattle.rules.specs.Rounding.{rnd}
use Rattle.rules.specs.Circle.{pair}
use Rattle.rules.specs.Floats.{numerator, denominator, tenths}
use Rattle.rules.specs.Weather.{no_weather, recorded, taken_from}
use Rattle.rules.specs.Refraction.{argument, is_lifted, lift_at, lift, observed}
use Rattle.laws.specs.UpTo.{UpTo}
use Rattle.laws.specs.Nearest.{Nearest}
use Rattle.laws.specs.Floats as floats
use Rattle.laws.specs.Weather.{FieldsInRange}
use Rattle.laws.specs.WeatherOfC as kept
use Rattle.laws.proofs.WeatherOfC as kept_proved
use Rattle.laws.specs.RefractionArgument.{above_nought, argument_sine}
use Rattle.laws.specs.Refraction as lifts
use Rattle.laws.specs.Air as air
use Rattle.laws.specs.ObservedAltitude as altitudes
use Rattle.laws.specs.Order as order
use Rattle.laws.specs.OrderLeast as least

-- ---- "whole tenths, the nearest to the float's exact value, halves away from zero"

pub tenths_nearest : (x : Float) → Nearest (pos 10 *ℤ numerator x) (denominator x) (tenths x)
tenths_nearest x = floats.tenths_nearest x

-- and no second number is
pub tenths_one : (x : Float) (n : ℤ) → Nearest (pos 10 *ℤ numerator x) (denominator x) n → tenths x ≡ n
tenths_one x n h = floats.tenths_one x n h

-- ---- "the weather record, kept as floats": each field finite and in range

-- after any readings, from none on
pub record_in_range : (rs : List Reading) → FieldsInRange (kept.after no_weather rs)
record_in_range rs = (kept.record_kept rs).fields

-- whatever C hands back: what is taken of it, with a reading and without
pub handed_in_range : (w v : Weather) → recorded w ≡ Ok v → FieldsInRange v
handed_in_range w v e = (kept.recorded_keeps w v e).fields

pub taken_in_range : (w v : Weather) (r : Reading) → taken_from w r ≡ Ok v → FieldsInRange v
taken_in_range w v r e = (kept_proved.taken_from_keeps w v r e).fields

-- what was answered is taken back as it is
pub taken_back : (w v : Weather) (r : Reading) → taken_from w r ≡ Ok v → recorded v ≡ Ok v
taken_back w v r e = kept.recorded_kept v (kept_proved.taken_from_keeps w v r e)

-- and a record of which nothing has come, noughts say, is the one before any reading
pub noughts_begin : (p t : Float)
    → recorded (record { pressure = p; temperature = t; has_pressure = false; has_temperature = false })
    ≡ Ok no_weather
noughts_begin p t = kept.nothing_come p t

-- ---- the lift

-- sin g is above nought
pub sine_above_nought : (h : ℤ) → is_lifted h ≡ true → pos 0 <ℤ (pair (argument h)).sine
sine_above_nought h e = above_nought (pair (argument h)).sine 20000000 unit (lit< tt) (argument_sine h e)

-- "nought if negative"
pub lift_where_negative : (w : Weather) (h : ℤ) → FieldsInRange w
    → lt_z (rnd (+ 61200000 *ℤ (pair (argument h)).cosine) (nat_abs (pair (argument h)).sine)) (+ 0) ≡ true
    → lift w h ≡ + 0
lift_where_negative w h f e = air.lift_where_negative w h f e

-- "until both have come the lift is nought"
pub lift_without_pressure : (w : Weather) (h : ℤ) → w.has_pressure ≡ false → lift w h ≡ + 0
lift_without_pressure w h e = lifts.lift_without_pressure w h e

pub lift_without_temperature : (w : Weather) (h : ℤ) → w.has_temperature ≡ false → lift w h ≡ + 0
lift_without_temperature w h e = lifts.lift_without_temperature w h e

-- "Below that altitude the lift is nought"
pub lift_below_the_floor : (w : Weather) (h : ℤ) → h <ℤ − 3600000000 → lift w h ≡ + 0
lift_below_the_floor w h e = lifts.lift_nought w h (lifts.below_the_floor h e)

-- from nought to 4,600,000,000
pub lift_in_range : (w : Weather) (h : ℤ) → FieldsInRange w → UpTo (lift w h) 4600000000
lift_in_range w h f = lifts.lift_range w h f

-- denser air lifts no less, warmer air no more, by the tenths of pressure and temperature
pub denser_lifts_no_less : (h p q t : ℤ) → lifts.Air p t → lifts.Air q t → p ≤ℤ q → lift_at p t h ≤ℤ lift_at q t h
denser_lifts_no_less h p q t u v k = air.denser_lifts_no_less h p q t u v k

pub warmer_lifts_no_more : (h p s t : ℤ) → lifts.Air p s → lifts.Air p t → s ≤ℤ t → lift_at p t h ≤ℤ lift_at p s h
warmer_lifts_no_more h p s t u v k = air.warmer_lifts_no_more h p s t u v k

-- ---- the observed altitude

-- within a quarter where the true one is
pub observed_within : (w : Weather) (h : ℤ) → FieldsInRange w → nat_abs h ≤ quarter → nat_abs (observed w h) ≤ quarter
observed_within w h f k = altitudes.observed_within w h f k

-- never below it
pub observed_above : (w : Weather) (h : ℤ) → FieldsInRange w → h ≤ℤ observed w h
observed_above w h f = altitudes.observed_above w h f

-- of two altitudes at least 119 µas apart the higher is seen higher
pub order_kept : (w : Weather) (h k : ℤ) → FieldsInRange w → (h +ℤ + 119) ≤ℤ k → observed w h <ℤ observed w k
order_kept w h k f l = order.order_kept w h k f l

-- and no smaller distance does
pub order_lost : ¬ ((w : Weather) (h k : ℤ) → FieldsInRange w → (h +ℤ + 118) ≤ℤ k → observed w h <ℤ observed w k)
order_lost = least.order_lost
