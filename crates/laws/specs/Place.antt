-- The steps of a place: how far the angles reach, and that every direction on the way is accepted, so that no turn is
-- refused and no length is nought.
use Rattle.std.specs.Prelude.{◌≡◌, refl, Bool, true, false, not, cond, ◌&&◌, ℕ, ◌-◌, ◌*◌, ◌≤◌, T, ℤ, pos, negsuc, neg_ℤ, nat_abs, ◌*ℤ◌, Result, Ok, Err, Some}
use Rattle.std.proofs.Common.{subst, mul-le-mul, arith, lit<, lit≤}
use Rattle.integers.specs.Size.{abs_add, abs_mul}
use Rattle.rules.specs.declared.Ut.{Ut}
use Rattle.rules.specs.declared.Tt.{Tt}
use Rattle.rules.specs.declared.Direction.{Direction}
use Rattle.rules.specs.declared.Moment.{Moment}
use Rattle.rules.specs.declared.Site.{Site}
use Rattle.rules.specs.declared.Place.{Place}
use Rattle.rules.specs.declared.Instants.{Instants}
use Rattle.rules.specs.declared.Refusal.{Refusal}
use Rattle.rules.specs.declared.Night.{Night}
use Rattle.rules.specs.declared.Star.{Star}
use Rattle.rules.specs.Units.{circle, quarter, year, unit, between, within}
use Rattle.rules.specs.Rounding.{rnd}
use Rattle.rules.specs.Length.{square, squares}
use Rattle.rules.specs.Turning.{Accepted}
use Rattle.rules.specs.Stars.{most_motion, star_refused}
use Rattle.rules.specs.Place.{moved, apparent}
use Rattle.rules.specs.Place.{overhead, readings}
use Rattle.rules.specs.Place.{place_in, place_at, place}
use Rattle.rules.specs.Dates.{instants}
use Rattle.rules.specs.Night.{site_refused, night}
use Rattle.laws.specs.Units.{between_parts, within_le}
use Rattle.laws.specs.Rounding.{rnd_under}
use Rattle.laws.specs.Instant.{InRange}
use Rattle.laws.specs.UpTo.{UpTo}
use Rattle.laws.specs.NoAngle.{reading_range}
use Rattle.laws.specs.Heights.{height_le}
use Rattle.rules.specs.Dates.{ut_and_tt}

-- ---- a star that is not refused

pub record StarRanges (s : Star) : Type 0 where
  pub ra_le : nat_abs s.ra ≤ circle
  pub declination_le : nat_abs s.declination ≤ quarter
  pub ra_motion_le : nat_abs s.ra_motion ≤ most_motion
  pub declination_motion_le : nat_abs s.declination_motion ≤ most_motion

pub star_ranges : (s : Star) → star_refused s ≡ false → StarRanges s
unfolding star_refused
star_ranges s e =
    let k = and4 (between (pos 0) (pos (circle - 1)) s.ra) (within quarter s.declination)
    (within most_motion s.ra_motion) (within most_motion s.declination_motion) e in
    record {
      ra_le = range_le s.ra k.0;
      declination_le = within_le quarter s.declination k.1;
      ra_motion_le = within_le most_motion s.ra_motion k.2;
      declination_motion_le = within_le most_motion s.declination_motion k.3;
    }
  where
    and4 : (a b c d : Bool) → not (a && b && c && d) ≡ false → (a ≡ true) × (b ≡ true) × (c ≡ true) × (d ≡ true)
    and4 true true true true e = (refl, refl, refl, refl)
    and4 true true true false e = absurd (subst T e tt)
    and4 true true false d e = absurd (subst T e tt)
    and4 true false c d e = absurd (subst T e tt)
    and4 false b c d e = absurd (subst T e tt)

    range_le : (z : ℤ) → between (pos 0) (pos (circle - 1)) z ≡ true → nat_abs z ≤ circle
    range_le (pos n) h = omega (arith, (between_parts (pos 0) (pos (circle - 1)) (pos n) h).1)
    range_le (negsuc n) h = absurd (omega (arith, (between_parts (pos 0) (pos (circle - 1)) (negsuc n) h).0))

-- 1. the motion of a century is at most a hundred times that of a year
pub moved_le : (t : Tt) (angle motion : ℤ) → InRange t.0 → nat_abs angle ≤ circle → nat_abs motion ≤ most_motion
    → nat_abs (moved t angle motion) ≤ 2 * circle
unfolding moved
moved_le t angle motion h ha hm =
    let carried = rnd (motion *ℤ t.0) year in
    omega (
      arith,
      abs_add angle carried,
      rnd_under (motion *ℤ t.0) year (100 * most_motion) (lit< tt)
          (rw (abs_mul motion t.0) (omega (arith, mul-le-mul hm h))),
    )

-- ---- directions

-- the direction that step 2 begins with
abbrev pub ahead : Direction
ahead = record { x = pos unit; y = pos 0; z = pos 0 }

pub ahead_accepted : Accepted (squares ahead)
unfolding squares square
ahead_accepted = record { low = lit≤ tt; high = lit≤ tt }

-- ---- what is answered

-- right ascension and azimuth from 0 to C − 1, declination and altitude within a quarter
pub record PlaceRanges (p : Place) : Type 0 where
  pub ra : (a : ℤ) → p.ra ≡ Some a → UpTo a (circle - 1)
  pub declination : nat_abs p.declination ≤ quarter
  pub azimuth : (a : ℤ) → p.azimuth ≡ Some a → UpTo a (circle - 1)
  pub altitude : nat_abs p.altitude ≤ quarter

pub place_in_ranges : (n : Night) (s : Star) → PlaceRanges (place_in n s)
unfolding place_in readings
place_in_ranges n s =
    let v = apparent n s in
    let w = overhead n v in
    record {
      ra = λ a e. reading_range v.x v.y a e;
      declination = height_le v;
      azimuth = λ a e. reading_range (neg_ℤ w.x) w.y a e;
      altitude = height_le w;
    }

-- every answer is the place in a night of the moment
pub record InNight (m : Moment) (star : Star) (site : Site) (p : Place) : Type 0 where
  pub ut : Ut
  pub tt_at : Tt
  pub at : instants m ≡ Ok (ut_and_tt ut tt_at)
  pub is : place_in (night ut tt_at site) star ≡ p

pub in_night : (m : Moment) (star : Star) (site : Site) (p : Place) → place m star site ≡ Ok p
    → InNight m star site p
unfolding place place_at
in_night m star site p e = by (instants m) refl e
  where
    clash : {A : Type 0} (r : Refusal) → Err r ≡ Ok p → A
    clash r k = let z : ◌≡◌ {A = ℕ} 0 1 = cc in absurd (omega arith)

    go : (u : Ut) (t : Tt) → instants m ≡ Ok (ut_and_tt u t) → (a b : Bool)
        → cond a (Err Refusal.Star)
        (cond b (Err Refusal.Site) (Ok (place_in (night u t site) star))) ≡ Ok p
        → InNight m star site p
    go u t at true b k = clash Refusal.Star k
    go u t at false true k = clash Refusal.Site k
    go u t at false false k = record { ut = u; tt_at = t; at = at; is = cc }

    by : (i : Result Instants Refusal) → instants m ≡ i → place_at i star site ≡ Ok p → InNight m star site p
    by (Err r) at k = clash r k
    by (Ok i) at k = go i.ut i.tt at (star_refused star) (site_refused site) k

-- of every place that is answered
pub place_ranges : (m : Moment) (star : Star) (site : Site) (p : Place) → place m star site ≡ Ok p
    → PlaceRanges p
place_ranges m star site p e =
    let i = in_night m star site p e in
    subst PlaceRanges i.is (place_in_ranges (night i.ut i.tt_at site) star)
