-- What every night is known by: each pair is accepted, what is added is small, TT is within a century.
use Rattle.std.specs.Prelude.{◌≡◌, refl, Bool, true, false, not, ◌&&◌, ℕ, ◌+◌, ◌*◌, ◌≤◌, ◌^◌, T, ℤ, pos, neg_ℤ, nat_abs, ◌+ℤ◌, ◌*ℤ◌}
use Rattle.std.proofs.Common.{subst, mul-le-mul, le_trans, lit<, lit≤}
use native.Mathlib.Omega.{arith}
use Rattle.integers.specs.Size.{abs_add, abs_sub, abs_mul, abs_neg}
use Rattle.rules.specs.declared.Ut.{Ut}
use Rattle.rules.specs.declared.Tt.{Tt}
use Rattle.rules.specs.declared.Pair.{Pair}
use Rattle.rules.specs.declared.Site.{Site}
use Rattle.rules.specs.declared.Night.{Night}
use Rattle.rules.specs.Units.{circle, half, quarter, day, unit, within}
use Rattle.rules.specs.Rounding.{rnd, modulo}
use Rattle.rules.specs.Length.{pair_squares}
use Rattle.rules.specs.Circle.{pair}
use Rattle.rules.specs.Turning.{Accepted}
use Rattle.rules.specs.Precession.{obliquity_row, obliquity}
use Rattle.rules.specs.Nutation.{nutation}
use Rattle.rules.specs.Sidereal.{sidereal, sidereal_polynomial}
use Rattle.rules.specs.Night.{aberration_constant, eccentric_constant, aberration_x, aberration_y}
use Rattle.rules.specs.Night.{local_sidereal, site_refused}
use Rattle.laws.specs.Units.{within_le}
use Rattle.laws.specs.Rounding.{rnd_under}
use Rattle.laws.specs.Modulo.{modulo_lt}
use Rattle.laws.specs.Angles.{Sized, pair_sized}
use Rattle.laws.specs.Directions.{PartsLe}
use Rattle.laws.specs.Aberration.{most_added}
use Rattle.laws.specs.Instant.{InRange}
use Rattle.laws.specs.Polynomials.{polynomial_le}
use Rattle.laws.specs.Nutation.{ten_terms}

-- ---- aberration

-- a constant or a part of at most that, times a part of a pair, by 2^30
pub scaled_le : (k c : ℤ) (m : ℕ) → nat_abs k ≤ m → nat_abs c ≤ unit → nat_abs (rnd (k *ℤ c) unit) ≤ m
scaled_le k c m hk hc = rnd_under (k *ℤ c) unit m (lit< tt) (rw (abs_mul k c) (omega (arith, mul-le-mul hk hc)))

-- 108,475: the most that bx, by and each part of what is added may be
abbrev pub most_aberration : ℕ
most_aberration = aberration_constant + eccentric_constant

-- a part of the circle's, and one of the eccentricity's, each rounded by itself
abbrev pub of_circle : ℤ → ℤ
of_circle part = rnd (pos aberration_constant *ℤ part) unit

abbrev pub of_eccentricity : ℤ → ℤ
of_eccentricity part = rnd (pos eccentric_constant *ℤ part) unit

pub of_circle_le : (part : ℤ) → nat_abs part ≤ unit → nat_abs (of_circle part) ≤ aberration_constant
of_circle_le part h = scaled_le (pos aberration_constant) part aberration_constant (omega arith) h

pub of_eccentricity_le : (part : ℤ) → nat_abs part ≤ unit → nat_abs (of_eccentricity part) ≤ eccentric_constant
of_eccentricity_le part h = scaled_le (pos eccentric_constant) part eccentric_constant (omega arith) h

module _ (s p : Pair) (hs : Sized s) (hp : Sized p) where
  pub aberration_x_le : nat_abs (aberration_x s p) ≤ most_aberration
  unfolding aberration_x
  aberration_x_le = omega (
    arith,
    abs_sub (of_circle s.sine) (of_eccentricity p.sine),
    of_circle_le s.sine hs.sine_le,
    of_eccentricity_le p.sine hp.sine_le,
  )

  pub aberration_y_le : nat_abs (aberration_y s p) ≤ most_aberration
  unfolding aberration_y
  aberration_y_le = omega (
    arith,
    abs_add (neg_ℤ (of_circle s.cosine)) (of_eccentricity p.cosine),
    abs_neg (of_circle s.cosine),
    of_circle_le s.cosine hs.cosine_le,
    of_eccentricity_le p.cosine hp.cosine_le,
  )

-- ---- the local sidereal angle

pub sidereal_le : (t : Ut) → nat_abs (sidereal t) ≤ circle
unfolding sidereal
sidereal_le t = omega (arith, modulo_lt (sidereal_polynomial t +ℤ pos 15000 *ℤ pos (modulo t.0 day)) circle (lit< tt))

pub local_sidereal_le : (ut : Ut) (tt : Tt) (site : Site) → InRange tt.0 → nat_abs site.longitude ≤ half
    → nat_abs (local_sidereal ut tt site) ≤ 2 * circle
unfolding local_sidereal
local_sidereal_le ut tt site h hs =
    let e = rnd ((nutation tt).longitude *ℤ (pair (obliquity tt)).cosine) unit in
    omega (
      arith,
      abs_add (sidereal ut +ℤ e) site.longitude,
      abs_add (sidereal ut) e,
      sidereal_le ut,
      scaled_le (nutation tt).longitude (pair (obliquity tt)).cosine 19325980
          (ten_terms tt h).longitude_le (pair_sized (obliquity tt)).cosine_le,
    )

-- ---- a site that is not refused

pub record SiteRanges (s : Site) : Type 0 where
  pub latitude_le : nat_abs s.latitude ≤ quarter
  pub longitude_le : nat_abs s.longitude ≤ half

pub site_ranges : (s : Site) → site_refused s ≡ false → SiteRanges s
unfolding site_refused
site_ranges s e =
    let k = both (within quarter s.latitude) (within half s.longitude) e in
    record {
      latitude_le = within_le quarter s.latitude k.0;
      longitude_le = within_le half s.longitude k.1;
    }
  where
    both : (a b : Bool) → not (a && b) ≡ false → (a ≡ true) × (b ≡ true)
    both true true e = (refl, refl)
    both true false e = absurd (subst T e tt)
    both false b e = absurd (subst T e tt)

-- ---- the obliquity

pub obliquity_le : (t : Tt) → InRange t.0 → nat_abs (obliquity t) ≤ 2 ^ 40
unfolding obliquity
obliquity_le t h = le_trans (polynomial_le obliquity_row t.0 h) (lit≤ tt)

-- ---- a night

-- what the steps of a place ask of a night
pub record NightFits (n : Night) : Type 0 where
  pub instant : InRange n.tt.0
  pub zeta : Accepted (pair_squares n.zeta)
  pub minus_theta : Accepted (pair_squares n.minus_theta)
  pub z : Accepted (pair_squares n.z)
  pub aberration : PartsLe most_added n.aberration
  pub minus_epsilon : Accepted (pair_squares n.minus_epsilon)
  pub delta_psi : Accepted (pair_squares n.delta_psi)
  pub true_epsilon : Accepted (pair_squares n.true_epsilon)
  pub minus_sidereal : Accepted (pair_squares n.minus_sidereal)
  pub latitude_less_quarter : Accepted (pair_squares n.latitude_less_quarter)
