-- Change C-14 in full: step 4 with the eccentricity of the Earth's orbit, how large what it adds may be, and that no
-- direction comes near nought by it. That ϖ lies within 2 µas of its exact value is in `Demand2`.
use Rattle.std.specs.Prelude.{◌≡◌, refl, [], ◌∷◌, ◌*◌, ◌≤◌, ℤ, pos, neg_ℤ, nat_abs, ◌+ℤ◌, ◌-ℤ◌, ◌*ℤ◌, Ok}
use Rattle.integers.specs.Size.{abs_neg}
use Rattle.integers.specs.Ring.{ring, v0, v1, neg, ◌⊕◌, ◌⊖◌}
use Rattle.rules.specs.declared.Ut.{Ut}
use Rattle.rules.specs.declared.Tt.{Tt}
use Rattle.rules.specs.declared.Pair.{Pair}
use Rattle.rules.specs.declared.Direction.{Direction}
use Rattle.rules.specs.declared.Moment.{Moment}
use Rattle.rules.specs.declared.Site.{Site}
use Rattle.rules.specs.declared.Night.{Night}
use Rattle.rules.specs.Units.{unit}
use Rattle.rules.specs.Rounding.{rnd}
use Rattle.rules.specs.Length.{root, squares}
use Rattle.rules.specs.Circle.{pair}
use Rattle.rules.specs.Turning.{Accepted}
use Rattle.rules.specs.Precession.{obliquity}
use Rattle.rules.specs.Sun.{sun_longitude, perihelion}
use Rattle.rules.specs.Night.{aberration_x, aberration_y, aberration, night, night_of}
use Rattle.rules.specs.Place.{aberrated}
use Rattle.laws.specs.Angles.{pair_sized}
use Rattle.laws.specs.Directions.{PartsLe, plus}
use Rattle.laws.specs.Night as law
use Rattle.laws.proofs.Night as law_proved
use Rattle.laws.specs.Aberration.{plus_root_ge}
use Rattle.laws.proofs.Place.{aberrated_accepted}
use Rattle.night_list.specs.Fits.{ready_fits}

-- ---- the step

-- 01's circular orbit: "bx = Rnd(106692 sin S/2^30), by = −Rnd(106692 cos S/2^30)"
abbrev pub circle_x : Pair → ℤ
circle_x s = rnd (pos 106692 *ℤ s.sine) unit

abbrev pub circle_y : Pair → ℤ
circle_y s = neg_ℤ (rnd (pos 106692 *ℤ s.cosine) unit)

-- "bx loses Rnd(1783 sin ϖ/2^30)", "and by gains Rnd(1783 cos ϖ/2^30)"
pub bx_loses : (s p : Pair) → aberration_x s p ≡ circle_x s -ℤ rnd (pos 1783 *ℤ p.sine) unit
unfolding aberration_x
bx_loses s p = refl

pub by_gains : (s p : Pair) → aberration_y s p ≡ circle_y s +ℤ rnd (pos 1783 *ℤ p.cosine) unit
unfolding aberration_y
by_gains s p = refl

-- the night decides it, for all stars: S, ϖ and ε at its TT
pub night_takes_it : (ut : Ut) (tt : Tt) (site : Site)
    → (night ut tt site).aberration ≡ aberration (pair (sun_longitude tt)) (pair (perihelion tt)) (pair (obliquity tt))
unfolding night
night_takes_it ut tt site = refl

-- ---- sizes, of every two angles

pub bx_size : (a b : ℤ) → nat_abs (aberration_x (pair a) (pair b)) ≤ 108475
bx_size a b = law.aberration_x_le (pair a) (pair b) (pair_sized a) (pair_sized b)

pub by_size : (a b : ℤ) → nat_abs (aberration_y (pair a) (pair b)) ≤ 108475
by_size a b = law.aberration_y_le (pair a) (pair b) (pair_sized a) (pair_sized b)

-- and so is each part of what is added
pub added_size : (a b c : ℤ) → PartsLe 108475 (aberration (pair a) (pair b) (pair c))
added_size a b c = law_proved.aberration_le (pair a) (pair b) (pair_sized a) (pair_sized b) (pair c) (pair_sized c)

-- each of bx and by lies at most 1,783 parts in 2^30 of a radian, 0.3425'', from that of the circle
pub bx_from_the_circle : (a b : ℤ) → nat_abs (aberration_x (pair a) (pair b) -ℤ circle_x (pair a)) ≤ 1783
unfolding aberration_x
bx_from_the_circle a b =
    let e = rnd (pos 1783 *ℤ (pair b).sine) unit in
    rw (ring (circle_x (pair a) ∷ e ∷ []) ((v0 ⊖ v1) ⊖ v0) (neg v1) tt, abs_neg e)
    (law.of_eccentricity_le (pair b).sine (pair_sized b).sine_le)

pub by_from_the_circle : (a b : ℤ) → nat_abs (aberration_y (pair a) (pair b) -ℤ circle_y (pair a)) ≤ 1783
unfolding aberration_y
by_from_the_circle a b =
    let e = rnd (pos 1783 *ℤ (pair b).cosine) unit in
    rw (ring (circle_y (pair a) ∷ e ∷ []) ((v0 ⊕ v1) ⊖ v0) v1 tt)
    (law.of_eccentricity_le (pair b).cosine (pair_sized b).cosine_le)

-- ---- no direction comes near nought

-- in every night that is made ready, the length of an accepted direction and what is added is at least 15/16 of 2^30
pub far_from_nought : (m : Moment) (site : Site) (n : Night) (v : Direction) → night_of m site ≡ Ok n
    → Accepted (squares v) → 15 * unit ≤ 16 * root (squares (plus v n.aberration))
far_from_nought m site n v e h = plus_root_ge v n.aberration h (ready_fits m site n e).aberration

-- and brought to length it is accepted again
pub still_accepted : (m : Moment) (site : Site) (n : Night) (v : Direction) → night_of m site ≡ Ok n
    → Accepted (squares v) → Accepted (squares (aberrated n v))
still_accepted m site n v e h = aberrated_accepted n (ready_fits m site n e) v h
