-- docs/RULES.md, "Refraction": the lift and the observed altitude (02, C-11), Sæmundsson's formula. Definitions only.
use Rattle.std.specs.Prelude.{Bool, cond, ◌&&◌, ℤ, pos, nat_abs, ◌+ℤ◌, ◌*ℤ◌, Result, Ok, Err}
use Rattle.std.specs.Int.Signed.{lt_z}
use Rattle.rules.specs.Data.{Pair, Moment, Star, Site, Place, Weather}
use Rattle.rules.specs.Data.{Refusal, Observed}
use Rattle.rules.specs.Units.{quarter, +◌, −◌, between}
use Rattle.rules.specs.Rounding.{rnd}
use Rattle.rules.specs.Circle.{pair}
use Rattle.rules.specs.Place.{place}
use Rattle.rules.specs.Floats.{tenths}
use Rattle.rules.specs.Weather.{recorded}

-- ---- the lift

-- "g = h + Rnd(133,488,000,000,000,000,000 / (h + 18,396,000,000))"
unfoldable pub argument : ℤ → ℤ
argument h = h +ℤ rnd (+ 133488000000000000000) (nat_abs (h +ℤ + 18396000000))

-- "nought if negative"
unfoldable pub not_below_nought : ℤ → ℤ
not_below_nought z = cond (lt_z z (+ 0)) (+ 0) z

-- "the lift is Rnd(61,200,000 × cos g / sin g), nought if negative"; the sine is above nought
unfoldable pub lift_of : Pair → ℤ
lift_of p = not_below_nought (rnd (+ 61200000 *ℤ p.cosine) (nat_abs p.sine))

-- before the weather
unfoldable pub standard_lift : ℤ → ℤ
standard_lift h = lift_of (pair (argument h))

-- "then Rnd(lift × pressure tenths × 2830 / (10100 × (2730 + temperature tenths)))"; the divisor is above nought
unfoldable pub in_weather : ℤ → ℤ → ℤ → ℤ
in_weather l p t = rnd (l *ℤ p *ℤ + 2830) (nat_abs (+ 10100 *ℤ (+ 2730 +ℤ t)))

-- "For true altitude h, as the place gives it, of at least −3,600,000,000 µas"
unfoldable pub is_lifted : ℤ → Bool
is_lifted h = between (− 3600000000) (pos quarter) h

-- "Below that altitude the lift is nought": by the tenths of pressure and temperature
unfoldable pub lift_at : ℤ → ℤ → ℤ → ℤ
lift_at p t h = cond (is_lifted h) (in_weather (standard_lift h) p t) (+ 0)

-- "until both have come the lift is nought"
unfoldable pub lift : Weather → ℤ → ℤ
lift w h =
    cond (w.has_pressure && w.has_temperature)
    (lift_at (tenths w.pressure) (tenths w.temperature) h)
    (+ 0)

-- ---- the observed altitude

unfoldable pub observed : Weather → ℤ → ℤ
observed w h = h +ℤ lift w h

-- by a record that C kept: "14, a reading not accepted"
unfoldable pub observed_in : Result Weather Weather → ℤ → Result ℤ Refusal
observed_in (Ok w) h = Ok (observed w h)
observed_in (Err w) h = Err Refusal.Reading

unfoldable pub observed_altitude : Weather → ℤ → Result ℤ Refusal
observed_altitude w h = observed_in (recorded w) h

-- ---- the place with its observed altitude

-- a place and its observed altitude together
abbrev pub observed_with : Place → ℤ → Observed
observed_with p h = record { place = p; altitude = h }

unfoldable pub observed_at : Place → Result ℤ Refusal → Result Observed Refusal
observed_at p (Ok a) = Ok (observed_with p a)
observed_at p (Err r) = Err r

-- "after all others": those of the place first
unfoldable pub observed_beside : Result Place Refusal → Weather → Result Observed Refusal
observed_beside (Ok p) w = observed_at p (observed_altitude w p.altitude)
observed_beside (Err r) w = Err r

unfoldable pub observed_place : Moment → Star → Site → Weather → Result Observed Refusal
observed_place m star site w = observed_beside (place m star site) w
