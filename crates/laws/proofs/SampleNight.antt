-- The night of `SampleNight`, to the last unit, and the same evening on the meridian of `here`.
use Rattle.std.specs.Prelude.{◌≡◌, ℤ, pos, ◌-ℤ◌, Ok}
use Rattle.std.proofs.Common.{ap, ◌∙◌}
use Rattle.rules.specs.declared.Pair.{Pair}
use Rattle.rules.specs.Units.{quarter, between, within}
use Rattle.rules.specs.Rounding.{remainder}
use Rattle.rules.specs.Circle.{pair}
use Rattle.rules.specs.Sun.{sun_longitude, perihelion}
use Rattle.rules.specs.Night.{local_sidereal, night, site_refused, night_at, night_of}
use Rattle.laws.specs.SampleNight.{evening, here, ut_now, tt_now, evening_is, night_by, in_parts, parts_are, nutation_tonight, sun_tonight, tonight, turned_by, north_of, tonight_by}

-- the night of `here`
pub night_is : night ut_now tt_now here ≡ tonight
night_is = in_parts
    ∙ ap (λ n. night_by n (sun_longitude tt_now) (perihelion tt_now)) parts_are.nutated
    ∙ ap (λ s. night_by nutation_tonight s (perihelion tt_now)) parts_are.sun
    ∙ ap (night_by nutation_tonight sun_tonight) parts_are.perihelion
    ∙ parts_are.all

pub made_ready : night_of evening here ≡ Ok tonight
unfolding night_of night_at site_refused between within
made_ready = ap (λ i. night_at i here) evening_is ∙ ap Ok night_is

pub night_north : (latitude : ℤ) (p : Pair) → pair (remainder (latitude -ℤ pos quarter)) ≡ p
    → night ut_now tt_now (north_of latitude) ≡ tonight_by p
unfolding night local_sidereal
night_north latitude p e =
    ap (turned_by (pair (remainder (latitude -ℤ pos quarter)))) night_is ∙ ap tonight_by e
