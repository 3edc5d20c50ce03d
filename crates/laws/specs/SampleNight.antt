-- A night worked out by the rules alone, to the last unit: 20 March 2026 at 20:00 UTC, at 50° 05' 16'' north,
-- 14° 25' 15'' east.
use Rattle.std.specs.Prelude.{◌≡◌, refl, ℤ, pos, neg_ℤ, ◌+ℤ◌, ◌-ℤ◌, ◌*ℤ◌, Ok}
use Rattle.rules.specs.declared.Ut.{Ut}
use Rattle.rules.specs.declared.Tt.{Tt}
use Rattle.rules.specs.declared.Moment.{Moment}
use Rattle.rules.specs.declared.Pair.{Pair}
use Rattle.rules.specs.declared.Direction.{Direction}
use Rattle.rules.specs.declared.Nutation.{Nutation}
use Rattle.rules.specs.declared.Site.{Site}
use Rattle.rules.specs.declared.Night.{Night}
use Rattle.rules.specs.declared.Instants.{Instants}
use Rattle.rules.specs.Units.{quarter, unit, +◌, −◌, same, between, within}
use Rattle.rules.specs.Rounding.{rnd, rnd_size, modulo, remainder}
use Rattle.rules.specs.Years.{leap, months, sum, up_from, years}
use Rattle.rules.specs.Calendar.{days_before2000, day_count, day_number, year_refused, month_days, day_refused}
use Rattle.rules.specs.Dates.{tai_minus_utc, before_step, last_second, time_refused, ms_of_day, utc, ut_of, tt_of}
use Rattle.rules.specs.Dates.{ut1_minus_utc_refused, instants}
use Rattle.rules.specs.Length.{root_from, root, square, pair_squares, part_to, pair_to_length}
use Rattle.rules.specs.Circle.{radian_parts, square_parts, stage, stages, raw_sine, raw_cosine, pair_of_parts, pair_to_half}
use Rattle.rules.specs.Circle.{exchanged_pair, pair_to_quarter, in_quarter, folded, pair}
use Rattle.rules.specs.Polynomials.{times_t_plus, polynomial}
use Rattle.rules.specs.Precession.{precession, obliquity}
use Rattle.rules.specs.Arguments.{arguments}
use Rattle.rules.specs.Nutation.{term_angle, longitude_product, obliquity_product, total, nutation_by, nutation}
use Rattle.rules.specs.Sun.{mean_longitude, centre_product, centre_sum, centre, sun_longitude, perihelion}
use Rattle.rules.specs.Sidereal.{sidereal_polynomial, sidereal}
use Rattle.rules.specs.Night.{aberration_x, aberration_y, aberration, local_sidereal, night}
use Rattle.rules.specs.Dates.{ut_and_tt}

-- ---- the moment and the site

abbrev pub evening : Moment
evening = record {
  date = record { year = + 2026; month = + 3; day = + 20 };
  time = record { hour = + 20; minute = + 0; second = + 0; ms = + 0 };
  ut1_minus_utc = + 0;
}

abbrev pub here : Site
here = record { latitude = + 180316000000; longitude = + 51915000000 }

abbrev pub ut_now : Ut
ut_now = record { 0 = + 827308800000 }

abbrev pub tt_now : Tt
tt_now = record { 0 = + 827308869184 }

pub evening_is : instants evening ≡ Ok (ut_and_tt ut_now tt_now)
unfolding same between within leap months sum up_from years days_before2000 day_count day_number year_refused month_days
    day_refused tai_minus_utc before_step last_second time_refused ms_of_day utc ut_of tt_of ut1_minus_utc_refused instants
evening_is = refl

-- ---- the night

abbrev pub pair_of : ℤ → ℤ → Pair
pair_of c s = record { cosine = c; sine = s }

abbrev pub direction : ℤ → ℤ → ℤ → Direction
direction x y z = record { x = x; y = y; z = z }

abbrev pub tonight : Night
tonight = record {
  tt = tt_now;
  zeta = pair_of (+ 1073737212) (+ 3147410);
  minus_theta = pair_of (+ 1073738341) (− 2735131);
  z = pair_of (+ 1073737211) (+ 3147693);
  aberration = direction (− 1312) (− 98269) (− 42598);
  minus_epsilon = pair_of (+ 985164275) (− 427051351);
  delta_psi = pair_of (+ 1073741824) (+ 32125);
  true_epsilon = pair_of (+ 985145387) (+ 427094921);
  minus_sidereal = pair_of (− 729340088) (− 788025725);
  latitude_less_quarter = pair_of (+ 823590368) (− 688927000);
}

-- a night with another pair of latitude − quarter
abbrev pub turned_by : Pair → Night → Night
turned_by p n = record {
  tt = n.tt;
  zeta = n.zeta;
  minus_theta = n.minus_theta;
  z = n.z;
  aberration = n.aberration;
  minus_epsilon = n.minus_epsilon;
  delta_psi = n.delta_psi;
  true_epsilon = n.true_epsilon;
  minus_sidereal = n.minus_sidereal;
  latitude_less_quarter = p;
}

-- the night of a nutation, a longitude of the Sun and one of perihelion, each worked out before
abbrev pub night_by : Nutation → ℤ → ℤ → Night
night_by n s p = record {
  tt = tt_now;
  zeta = pair (precession tt_now).zeta;
  minus_theta = pair (neg_ℤ (precession tt_now).theta);
  z = pair (precession tt_now).z;
  aberration = aberration (pair s) (pair p) (pair (obliquity tt_now));
  minus_epsilon = pair (neg_ℤ (obliquity tt_now));
  delta_psi = pair n.longitude;
  true_epsilon = pair (obliquity tt_now +ℤ n.obliquity);
  minus_sidereal = pair (remainder (neg_ℤ
      (sidereal ut_now +ℤ rnd (n.longitude *ℤ (pair (obliquity tt_now)).cosine) unit +ℤ here.longitude)));
  latitude_less_quarter = pair (remainder (here.latitude -ℤ pos quarter));
}

pub in_parts : night ut_now tt_now here ≡ night_by (nutation tt_now) (sun_longitude tt_now) (perihelion tt_now)
unfolding night local_sidereal
in_parts = refl

-- Δψ and Δε
abbrev pub nutation_tonight : Nutation
nutation_tonight = record { longitude = + 6171244; obliquity = + 9122441 }

-- S and ϖ
abbrev pub sun_tonight : ℤ
sun_tonight = + 34992817376817

abbrev pub perihelion_tonight : ℤ
perihelion_tonight = + 372197348747

pub record PartsTonight : Type 0 where
  pub nutated : nutation tt_now ≡ nutation_tonight
  pub sun : sun_longitude tt_now ≡ sun_tonight
  pub perihelion : perihelion tt_now ≡ perihelion_tonight
  pub all : night_by nutation_tonight sun_tonight perihelion_tonight ≡ tonight

pub parts_are : PartsTonight
unfolding rnd rnd_size modulo remainder root_from root square pair_squares part_to pair_to_length radian_parts square_parts
    stage stages raw_sine raw_cosine pair_of_parts pair_to_half exchanged_pair pair_to_quarter in_quarter folded pair times_t_plus
    polynomial precession obliquity arguments term_angle longitude_product obliquity_product total nutation_by nutation
    mean_longitude centre_product centre_sum centre sun_longitude perihelion sidereal_polynomial sidereal aberration_x
    aberration_y aberration
parts_are = record { nutated = refl; sun = refl; perihelion = refl; all = refl }

-- ---- the same evening on the meridian of `here`

abbrev pub north_of : ℤ → Site
north_of latitude = record { latitude = latitude; longitude = here.longitude }

-- the last turn alone is another
abbrev pub tonight_by : Pair → Night
tonight_by p = turned_by p tonight
