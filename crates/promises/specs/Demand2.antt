-- Demand 2: each polynomial lies within 2 µas of its exact value, each sine and cosine within 4 parts in 2^30 of its
-- series; and what 01 promises of a reading and of the ranges of a place. `Demand2OfFunctions` has it of the functions.
-- That every rule is followed to the last unit is each function's own contract, an equality with the rule: `ByContract`
-- and `ByContractForC`.
use Rattle.std.specs.Prelude.{◌≡◌, List, suc, ◌+◌, ◌-◌, ◌*◌, ◌≤◌, ◌^◌, length, ℤ, pos, negsuc, nat_abs, ◌+ℤ◌, ◌-ℤ◌, ◌*ℤ◌, ◌<ℤ◌, ◌≤ℤ◌, Ok, Some}
use Rattle.std.proofs.Common.{arith, lit≤, le→leb}
use Rattle.std.specs.Int.Signed.{le_z_yes, lt_z_yes}
use Rattle.rules.specs.declared.Ut.{Ut}
use Rattle.rules.specs.declared.Tt.{Tt}
use Rattle.rules.specs.declared.Moment.{Moment}
use Rattle.rules.specs.declared.Star.{Star}
use Rattle.rules.specs.declared.Site.{Site}
use Rattle.rules.specs.declared.Term.{Term}
use Rattle.rules.specs.declared.Place.{Place}
use Rattle.rules.specs.Units.{circle, quarter, century, unit}
use Rattle.rules.specs.Circle.{pair}
use Rattle.rules.specs.Series.{whole, radian, series}
use Rattle.rules.specs.Polynomials.{polynomial, exact_times_cube}
use Rattle.rules.specs.Precession.{precession, zeta_row, z_row, theta_row, obliquity}
use Rattle.rules.specs.Precession.{obliquity_row}
use Rattle.rules.specs.Arguments.{arguments, moon_row, sun_row, latitude_row, elongation_row, node_row}
use Rattle.rules.specs.Sun.{mean_longitude, mean_longitude_row, first_row, second_row, third_row, perihelion, perihelion_row}
use Rattle.rules.specs.Nutation.{longitude_amplitude, obliquity_amplitude}
use Rattle.rules.specs.Sidereal.{sidereal_polynomial, sidereal_row}
use Rattle.rules.specs.Reading.{reading}
use Rattle.rules.specs.Place.{place}
use Rattle.laws.specs.UpTo.{UpTo}
use Rattle.laws.specs.Polynomials.{polynomial_near}
use Rattle.laws.proofs.Angles.{pair_near}
use Rattle.laws.proofs.Reading.{reading_reads}
use Rattle.laws.specs.Place.{place_ranges}

-- ---- polynomials

-- p lies within 2 µas of the exact value of a row's polynomial at t, both sides times Q³
abbrev pub Within2 : ℤ → List ℤ → ℤ → Type 0
Within2 p row t = nat_abs (p *ℤ pos (century ^ 3) -ℤ exact_times_cube row t) ≤ 2 * century ^ 3

-- any polynomial in time
pub polynomial_within_2 : (cs : List ℤ) (t : ℤ) → length cs ≤ 4 → nat_abs t ≤ century
    → Within2 (polynomial cs t) cs t
polynomial_within_2 cs t h k = polynomial_near cs t h k

-- and each that documents 01 and 02 name, by its row
pub record PolynomialsWithin2 (t : Tt) (u : Ut) : Type 0 where
  pub zeta : Within2 (precession t).zeta zeta_row t.0
  pub z : Within2 (precession t).z z_row t.0
  pub theta : Within2 (precession t).theta theta_row t.0
  pub obliquity : Within2 (obliquity t) obliquity_row t.0
  -- l, l', F, D, Ω
  pub moon : Within2 (arguments t).moon moon_row t.0
  pub sun : Within2 (arguments t).sun sun_row t.0
  pub latitude : Within2 (arguments t).latitude latitude_row t.0
  pub elongation : Within2 (arguments t).elongation elongation_row t.0
  pub node : Within2 (arguments t).node node_row t.0
  -- the Sun's mean longitude, and the amplitudes of the centre
  pub mean_longitude_lem : Within2 (mean_longitude t) mean_longitude_row t.0
  pub first : Within2 (polynomial first_row t.0) first_row t.0
  pub second : Within2 (polynomial second_row t.0) second_row t.0
  pub third : Within2 (polynomial third_row t.0) third_row t.0
  -- 02, C-14: ϖ
  pub perihelion : Within2 (perihelion t) perihelion_row t.0
  -- the amplitudes of a term of nutation
  pub longitude_amplitude_lem : (m : Term)
      → Within2 (polynomial (longitude_amplitude m) t.0) (longitude_amplitude m) t.0
  pub obliquity_amplitude_lem : (m : Term)
      → Within2 (polynomial (obliquity_amplitude m) t.0) (obliquity_amplitude m) t.0
  -- "the polynomial alone", at UT
  pub sidereal : Within2 (sidereal_polynomial u) sidereal_row u.0

pub each_polynomial_within_2 : (t : Tt) (u : Ut) → nat_abs t.0 ≤ century → nat_abs u.0 ≤ century
    → PolynomialsWithin2 t u
unfolding precession obliquity arguments mean_longitude perihelion sidereal_polynomial
each_polynomial_within_2 t u h k = record {
  zeta = polynomial_within_2 zeta_row t.0 (lit≤ tt) h;
  z = polynomial_within_2 z_row t.0 (lit≤ tt) h;
  theta = polynomial_within_2 theta_row t.0 (lit≤ tt) h;
  obliquity = polynomial_within_2 obliquity_row t.0 (lit≤ tt) h;
  moon = polynomial_within_2 moon_row t.0 (lit≤ tt) h;
  sun = polynomial_within_2 sun_row t.0 (lit≤ tt) h;
  latitude = polynomial_within_2 latitude_row t.0 (lit≤ tt) h;
  elongation = polynomial_within_2 elongation_row t.0 (lit≤ tt) h;
  node = polynomial_within_2 node_row t.0 (lit≤ tt) h;
  mean_longitude_lem = polynomial_within_2 mean_longitude_row t.0 (lit≤ tt) h;
  first = polynomial_within_2 first_row t.0 (lit≤ tt) h;
  second = polynomial_within_2 second_row t.0 (lit≤ tt) h;
  third = polynomial_within_2 third_row t.0 (lit≤ tt) h;
  perihelion = polynomial_within_2 perihelion_row t.0 (lit≤ tt) h;
  longitude_amplitude_lem = λ m. polynomial_within_2 (longitude_amplitude m) t.0 (lit≤ tt) h;
  obliquity_amplitude_lem = λ m. polynomial_within_2 (obliquity_amplitude m) t.0 (lit≤ tt) h;
  sidereal = polynomial_within_2 sidereal_row u.0 (lit≤ tt) k;
}

-- ---- sine and cosine

-- of every angle, both sides times the series' denominator
pub cosine_within_4 : (a : ℤ)
    → nat_abs ((pair a).cosine *ℤ pos (whole radian) -ℤ pos unit *ℤ (series a).cosine) ≤ 4 * whole radian
cosine_within_4 a = (pair_near a).cosine

pub sine_within_4 : (a : ℤ)
    → nat_abs ((pair a).sine *ℤ pos (whole radian) -ℤ pos unit *ℤ (series a).sine) ≤ 4 * whole radian
sine_within_4 a = (pair_near a).sine

-- ---- readings

-- of every reading that has an angle
pub reading_across : (h v a : ℤ) → reading h v ≡ Some a
    → nat_abs ((pair a).cosine *ℤ v -ℤ (pair a).sine *ℤ h) ≤ 8 * (nat_abs h + nat_abs v)
reading_across h v a e = (reading_reads h v a e).across

pub reading_along : (h v a : ℤ) → reading h v ≡ Some a → pos 0 <ℤ ((pair a).cosine *ℤ h +ℤ (pair a).sine *ℤ v)
reading_along h v a e = (reading_reads h v a e).along

-- ---- places

-- from 0 to C − 1
abbrev pub OnCircle : ℤ → Type 0
OnCircle a = (pos 0 ≤ℤ a) × (a <ℤ pos circle)

-- right ascension and azimuth, where there is one, are 0 to C − 1, declination and altitude between minus and plus a
-- quarter
pub record PlaceInRange (p : Place) : Type 0 where
  pub ra : (a : ℤ) → p.ra ≡ Some a → OnCircle a
  pub declination : nat_abs p.declination ≤ quarter
  pub azimuth : (a : ℤ) → p.azimuth ≡ Some a → OnCircle a
  pub altitude : nat_abs p.altitude ≤ quarter

on_circle : (a : ℤ) → UpTo a (circle - 1) → OnCircle a
on_circle (pos n) h = (le_z_yes (le→leb 0 n (omega arith)), lt_z_yes (le→leb (suc n) circle (omega (arith, h.high))))
on_circle (negsuc n) h = absurd (omega (arith, h.low))

-- of every place that is answered
pub place_in_range : (m : Moment) (star : Star) (site : Site) (p : Place) → place m star site ≡ Ok p
    → PlaceInRange p
place_in_range m star site p e =
    let g = place_ranges m star site p e in
    record {
      ra = λ a i. on_circle a (g.ra a i);
      declination = g.declination;
      azimuth = λ a i. on_circle a (g.azimuth a i);
      altitude = g.altitude;
    }
