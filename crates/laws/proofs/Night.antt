-- What every night is known by: what is added is small, each pair is accepted, TT is within a century.
use native.Mathlib.Omega.{arith}
use Rattle.rules.specs.declared.Ut.{Ut}
use Rattle.rules.specs.declared.Tt.{Tt}
use Rattle.rules.specs.declared.Pair.{Pair}
use Rattle.rules.specs.declared.Site.{Site}
use Rattle.rules.specs.Circle.{pair}
use Rattle.rules.specs.Precession.{obliquity}
use Rattle.rules.specs.Sun.{sun_longitude, perihelion}
use Rattle.rules.specs.Night.{aberration_y, aberration}
use Rattle.rules.specs.Night.{night}
use Rattle.laws.specs.Angles.{Sized, pair_sized, pair_length}
use Rattle.laws.specs.Directions.{PartsLe}
use Rattle.laws.specs.Instant.{InRange}
use Rattle.laws.specs.Night.{most_aberration, scaled_le, aberration_x_le, aberration_y_le, NightFits}

module _ (s p : Pair) (hs : Sized s) (hp : Sized p) where
  pub aberration_le : (e : Pair) → Sized e → PartsLe most_aberration (aberration s p e)
  unfolding aberration
  aberration_le e he = record {
    x = aberration_x_le s p hs hp;
    y = scaled_le (aberration_y s p) e.cosine most_aberration (aberration_y_le s p hs hp) he.cosine_le;
    z = scaled_le (aberration_y s p) e.sine most_aberration (aberration_y_le s p hs hp) he.sine_le;
  }

pub night_fits : (ut : Ut) (tt : Tt) (site : Site) → InRange tt.0 → NightFits (night ut tt site)
unfolding night
night_fits ut tt site h = record {
  instant = h;
  zeta = pair_length _;
  minus_theta = pair_length _;
  z = pair_length _;
  aberration =
      let a = aberration_le (pair (sun_longitude tt)) (pair (perihelion tt)) (pair_sized _) (pair_sized _)
      (pair (obliquity tt)) (pair_sized _) in
      record { x = omega (arith, a.x); y = omega (arith, a.y); z = omega (arith, a.z) };
  minus_epsilon = pair_length _;
  delta_psi = pair_length _;
  true_epsilon = pair_length _;
  minus_sidereal = pair_length _;
  latitude_less_quarter = pair_length _;
}
