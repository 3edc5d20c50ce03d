-- Demand 2 of the answers at an instant: whatever is answered but a refusal, each polynomial in it lies within 2 µas of
-- its exact value at that instant. Where an answer is made of several, a record gives them, and how it is made.
use Rattle.std.specs.Prelude.{◌≡◌, refl, Bool, true, false, cond, map, ℕ, ℤ, pos, ◌+ℤ◌, ◌*ℤ◌, Ok, Err}
use Rattle.std.proofs.Common.{sym, ap, subst, arith, lit≤}
use Rattle.rules.specs.declared.Ut.{Ut}
use Rattle.rules.specs.declared.Tt.{Tt}
use Rattle.rules.specs.declared.Refusal.{Refusal}
use Rattle.rules.specs.declared.Term.{Term}
use Rattle.rules.specs.declared.Precession.{Precession}
use Rattle.rules.specs.declared.Arguments.{Arguments}
use Rattle.rules.specs.declared.Nutation.{Nutation}
use Rattle.rules.specs.Units.{circle, day, unit}
use Rattle.rules.specs.Rounding.{rnd, modulo}
use Rattle.rules.specs.Circle.{pair}
use Rattle.rules.specs.Polynomials.{polynomial, instant_refused, angle_at}
use Rattle.rules.specs.Precession.{precession, precession_at, zeta_row, z_row, theta_row}
use Rattle.rules.specs.Precession.{obliquity, obliquity_at, obliquity_row}
use Rattle.rules.specs.Arguments.{arguments, arguments_at, moon_row, sun_row, latitude_row, elongation_row, node_row}
use Rattle.rules.specs.Sun.{mean_longitude, mean_longitude_row, first_row, second_row, third_row, centre_product, centre_sum}
use Rattle.rules.specs.Sun.{centre, sun_longitude, sun_longitude_at, perihelion, perihelion_at, perihelion_row}
use Rattle.rules.specs.Sidereal.{sidereal_polynomial, sidereal, sidereal_at, sidereal_row}
use Rattle.rules.specs.Nutation.{terms, term_angle, longitude_amplitude, obliquity_amplitude, total}
use Rattle.rules.specs.Nutation.{longitude_product, obliquity_product, nutation_by, nutation, nutation_at}
use Rattle.laws.specs.Instant.{InRange, in_range_lem}
use Rattle.promises.specs.Demand2.{Within2, polynomial_within_2}

-- what is answered at an instant is the rule's, and the instant is in range
answered : {A B : Type 0} (given : B → A) (refused : A) (t : ℤ) (b c : B) → (refused ≡ given c → ⊥)
    → (given b ≡ given c → b ≡ c) → cond (instant_refused t) refused (given b) ≡ given c
    → (b ≡ c) × InRange t
answered given refused t b c apart one e = by (instant_refused t) refl e
  where
    by : (r : Bool) → instant_refused t ≡ r → cond r refused (given b) ≡ given c → (b ≡ c) × InRange t
    by true i e = absurd (apart e)
    by false i e = (one e, in_range_lem t i)

answered_angle : (t a b : ℤ) → angle_at t a ≡ Ok b → (a ≡ b) × InRange t
unfolding angle_at
answered_angle t a b e = answered Ok (Err Refusal.Instant) t a b
    (λ e. let z : ◌≡◌ {A = ℕ} 0 1 = cc in omega arith) (λ e. cc) e

-- ---- precession and the mean obliquity

pub record PrecessionWithin2 (t : Tt) (p : Precession) : Type 0 where
  pub zeta : Within2 p.zeta zeta_row t.0
  pub z : Within2 p.z z_row t.0
  pub theta : Within2 p.theta theta_row t.0

-- as three facts, from which the record is made
pub precession_polynomials : (t : Tt) (p : Precession) → precession_at t ≡ Ok p
    → Within2 p.zeta zeta_row t.0 × Within2 p.z z_row t.0 × Within2 p.theta theta_row t.0
unfolding precession_at precession
precession_polynomials t p e =
    let a = answered Ok (Err Refusal.Instant) t.0 (precession t) p
    (λ e. let z : ◌≡◌ {A = ℕ} 0 1 = cc in omega arith) (λ e. cc) e in
    subst (λ p. Within2 p.zeta zeta_row t.0 × Within2 p.z z_row t.0 × Within2 p.theta theta_row t.0) a.0 (
      polynomial_within_2 zeta_row t.0 (lit≤ tt) a.1,
      polynomial_within_2 z_row t.0 (lit≤ tt) a.1,
      polynomial_within_2 theta_row t.0 (lit≤ tt) a.1,
    )

pub precession_within_2 : (t : Tt) (p : Precession) → precession_at t ≡ Ok p → PrecessionWithin2 t p
precession_within_2 t p e =
    let n = precession_polynomials t p e in
    record { zeta = n.0; z = n.1; theta = n.2 }

pub obliquity_within_2 : (t : Tt) (a : ℤ) → obliquity_at t ≡ Ok a → Within2 a obliquity_row t.0
unfolding obliquity_at obliquity
obliquity_within_2 t a e =
    let b = answered_angle t.0 (obliquity t) a e in
    subst (λ a. Within2 a obliquity_row t.0) b.0 (polynomial_within_2 obliquity_row t.0 (lit≤ tt) b.1)

-- ---- the five arguments of nutation

pub record ArgumentsWithin2 (t : Tt) (a : Arguments) : Type 0 where
  pub moon : Within2 a.moon moon_row t.0
  pub sun : Within2 a.sun sun_row t.0
  pub latitude : Within2 a.latitude latitude_row t.0
  pub elongation : Within2 a.elongation elongation_row t.0
  pub node : Within2 a.node node_row t.0

rule_arguments : (t : Tt) → InRange t.0 → ArgumentsWithin2 t (arguments t)
unfolding arguments
rule_arguments t h = record {
  moon = polynomial_within_2 moon_row t.0 (lit≤ tt) h;
  sun = polynomial_within_2 sun_row t.0 (lit≤ tt) h;
  latitude = polynomial_within_2 latitude_row t.0 (lit≤ tt) h;
  elongation = polynomial_within_2 elongation_row t.0 (lit≤ tt) h;
  node = polynomial_within_2 node_row t.0 (lit≤ tt) h;
}

pub arguments_within_2 : (t : Tt) (a : Arguments) → arguments_at t ≡ Ok a → ArgumentsWithin2 t a
unfolding arguments_at
arguments_within_2 t a e =
    let b = answered Ok (Err Refusal.Instant) t.0 (arguments t) a
    (λ e. let z : ◌≡◌ {A = ℕ} 0 1 = cc in omega arith) (λ e. cc) e in
    subst (ArgumentsWithin2 t) b.0 (rule_arguments t b.1)

-- ---- the Sun's longitude

-- a is the mean longitude and the centre, the sum of three amplitudes times the sines of l', 2l', 3l', rounded once
pub record SunWithin2 (t : Tt) (a : ℤ) : Type 0 where
  pub mean_longitude_lem : ℤ
  pub first : ℤ
  pub second : ℤ
  pub third : ℤ
  pub sun : ℤ
  pub mean_longitude_near : Within2 mean_longitude_lem mean_longitude_row t.0
  pub first_near : Within2 first first_row t.0
  pub second_near : Within2 second second_row t.0
  pub third_near : Within2 third third_row t.0
  pub sun_near : Within2 sun sun_row t.0
  pub made : a ≡ mean_longitude_lem +ℤ rnd (first *ℤ (pair (pos 1 *ℤ sun)).sine +ℤ second *ℤ (pair (pos 2 *ℤ sun)).sine
      +ℤ third *ℤ (pair (pos 3 *ℤ sun)).sine) unit

pub sun_within_2 : (t : Tt) (a : ℤ) → sun_longitude_at t ≡ Ok a → SunWithin2 t a
unfolding sun_longitude_at sun_longitude mean_longitude centre centre_sum centre_product
sun_within_2 t a e =
    let b = answered_angle t.0 (sun_longitude t) a e in
    let sun_near = (rule_arguments t b.1).sun in
    record {
      mean_longitude_lem = mean_longitude t;
      first = polynomial first_row t.0;
      second = polynomial second_row t.0;
      third = polynomial third_row t.0;
      sun = (arguments t).sun;
      mean_longitude_near = polynomial_within_2 mean_longitude_row t.0 (lit≤ tt) b.1;
      first_near = polynomial_within_2 first_row t.0 (lit≤ tt) b.1;
      second_near = polynomial_within_2 second_row t.0 (lit≤ tt) b.1;
      third_near = polynomial_within_2 third_row t.0 (lit≤ tt) b.1;
      sun_near = sun_near;
      made = sym b.0;
    }

-- ---- the longitude of perihelion

pub perihelion_within_2 : (t : Tt) (a : ℤ) → perihelion_at t ≡ Ok a → Within2 a perihelion_row t.0
unfolding perihelion_at perihelion
perihelion_within_2 t a e =
    let b = answered_angle t.0 (perihelion t) a e in
    subst (λ a. Within2 a perihelion_row t.0) b.0 (polynomial_within_2 perihelion_row t.0 (lit≤ tt) b.1)

-- ---- the sidereal angle

-- a is a polynomial, and 15,000 for each ms of the day of UT, modulo C
pub record SiderealWithin2 (t : Ut) (a : ℤ) : Type 0 where
  pub alone : ℤ
  pub alone_near : Within2 alone sidereal_row t.0
  pub made : a ≡ pos (modulo (alone +ℤ pos 15000 *ℤ pos (modulo t.0 day)) circle)

pub sidereal_within_2 : (t : Ut) (a : ℤ) → sidereal_at t ≡ Ok a → SiderealWithin2 t a
unfolding sidereal_at sidereal sidereal_polynomial
sidereal_within_2 t a e =
    let b = answered_angle t.0 (sidereal t) a e in
    record { alone = sidereal_polynomial t; alone_near = polynomial_within_2 sidereal_row t.0 (lit≤ tt) b.1; made = sym b.0 }

-- ---- nutation

-- each part of n is the sum over the ten terms, an amplitude times the sine or cosine of the term's angle, rounded once
pub record NutationWithin2 (t : Tt) (n : Nutation) : Type 0 where
  pub arguments : Arguments
  pub longitude : Term → ℤ
  pub obliquity : Term → ℤ
  pub arguments_near : ArgumentsWithin2 t arguments
  pub longitude_near : (m : Term) → Within2 (longitude m) (longitude_amplitude m) t.0
  pub obliquity_near : (m : Term) → Within2 (obliquity m) (obliquity_amplitude m) t.0
  pub longitude_made : n.longitude
      ≡ rnd (total (map (λ m. longitude m *ℤ (pair (term_angle arguments m)).sine) terms)) unit
  pub obliquity_made : n.obliquity
      ≡ rnd (total (map (λ m. obliquity m *ℤ (pair (term_angle arguments m)).cosine) terms)) unit

pub nutation_within_2 : (t : Tt) (n : Nutation) → nutation_at t ≡ Ok n → NutationWithin2 t n
unfolding nutation_at nutation nutation_by longitude_product obliquity_product
nutation_within_2 t n e =
    let a = answered Ok (Err Refusal.Instant) t.0 (nutation t) n
    (λ e. let z : ◌≡◌ {A = ℕ} 0 1 = cc in omega arith) (λ e. cc) e in
    record {
      arguments = arguments t;
      longitude = λ m. polynomial (longitude_amplitude m) t.0;
      obliquity = λ m. polynomial (obliquity_amplitude m) t.0;
      arguments_near = rule_arguments t a.1;
      longitude_near = λ m. polynomial_within_2 (longitude_amplitude m) t.0 (lit≤ tt) a.1;
      obliquity_near = λ m. polynomial_within_2 (obliquity_amplitude m) t.0 (lit≤ tt) a.1;
      longitude_made = ap (λ n. n.longitude) (sym a.0);
      obliquity_made = ap (λ n. n.obliquity) (sym a.0);
    }
