-- Change C-12 in full: where there is no angle, what the place, the night list, C and `places` make of it.
use Rattle.std.specs.Prelude.{◌≡◌, true, false, ◌↔◌, ◌+◌, ℤ, pos, nat_abs, Ok, Option, Some, None}
use Rattle.std.proofs.Common.{sym, ap, subst, ◌∙◌}
use Rattle.rules.specs.declared.Direction.{Direction}
use Rattle.rules.specs.declared.Ut.{Ut}
use Rattle.rules.specs.declared.Tt.{Tt}
use Rattle.rules.specs.declared.Moment.{Moment}
use Rattle.rules.specs.declared.Star.{Star}
use Rattle.rules.specs.declared.Site.{Site}
use Rattle.rules.specs.declared.Place.{Place}
use Rattle.rules.specs.declared.Entry.{Entry}
use Rattle.rules.specs.declared.Night.{Night}
use Rattle.rules.specs.declared.Instants.{Instants}
use Rattle.rules.specs.Units.{quarter}
use Rattle.rules.specs.Length.{root, square, squares}
use Rattle.rules.specs.Turning.{Accepted}
use Rattle.rules.specs.Answers.{read_answer}
use Rattle.rules.specs.Reading.{angle_of, reading}
use Rattle.rules.specs.Dates.{instants}
use Rattle.rules.specs.Night.{night, night_of}
use Rattle.rules.specs.Stars.{star_refused}
use Rattle.rules.specs.Place.{apparent, overhead, place_in, place}
use Rattle.rules.specs.NightList.{entry_of, worked}
use Rattle.laws.specs.Instants.{tt_within}
use Rattle.laws.proofs.Night.{night_fits}
use Rattle.laws.specs.Place.{in_night}
use Rattle.laws.specs.NoAngle as law
use Rattle.laws.specs.PlaceAnswers as answers
use Rattle.laws.specs.Marks.{OnAxis, LacksOne, place_of}
use Rattle.laws.specs.Marks as marks
use Rattle.laws.proofs.Marks as marks_proved
use Rattle.laws.specs.SampleNight.{evening, here}
use Rattle.laws.specs.SampleNoAngle.{pole_star, pole_place, zenith_star, zenith_site, zenith_place, pole_site, pole_and_zenith}
use Rattle.laws.proofs.SampleNoAngle as samples_proved
use Rattle.night_list.specs.Fits.{ready_fits}
use Rattle.rules.specs.Dates.{ut_and_tt}

-- ---- a reading

-- "Reading an angle from (0, 0) shall answer that there is no angle", and from no other two numbers
pub no_angle_exactly : (h v : ℤ) → reading h v ≡ None ↔ (h ≡ pos 0) × (v ≡ pos 0)
no_angle_exactly h v = law.no_angle_iff h v

-- the paper's number and values tell the two kinds apart
pub kinds_apart : (a b : Option ℤ) → read_answer a ≡ read_answer b → a ≡ b
kinds_apart a b e = answers.read_one a b e

-- declination and altitude always have an angle: an accepted direction is not nought, so neither is what a height reads
pub height_has_angle : (v : Direction) → Accepted (squares v)
    → let r = pos (root (square v.x + square v.y)) in reading r v.z ≡ Some (angle_of r v.z)
height_has_angle v h = law.height_has_angle v h

-- ---- a place

-- right ascension and azimuth, by the direction that each is read from, (0, 0, ±z) or another
pub record AxesTold (n : Night) (star : Star) (p : Place) : Type 0 where
  pub ra : p.ra ≡ None ↔ OnAxis (apparent n star)
  pub azimuth : p.azimuth ≡ None ↔ OnAxis (overhead n (apparent n star))

-- and by the height beside it
pub record HeightsTold (p : Place) : Type 0 where
  pub ra : p.ra ≡ None ↔ nat_abs p.declination ≡ quarter
  pub azimuth : p.azimuth ≡ None ↔ nat_abs p.altitude ≡ quarter

-- "the place shall carry that on": of every place that is answered
pub place_axes : (m : Moment) (star : Star) (site : Site) (ut : Ut) (tt : Tt) (p : Place)
    → instants m ≡ Ok (ut_and_tt ut tt) → place m star site ≡ Ok p → AxesTold (night ut tt site) star p
place_axes m star site ut tt p at e =
    let i = in_night m star site p e in
    let same : Ok (ut_and_tt i.ut i.tt_at) ≡ Ok (ut_and_tt ut tt) = sym i.at ∙ at in
    let both : ut_and_tt i.ut i.tt_at ≡ ut_and_tt ut tt = cc in
    let u = ap (λ (x : Instants). x.ut) both in
    let t = ap (λ (x : Instants). x.tt) both in
    let n = night ut tt site in
    let is : place_in n star ≡ p = rw (u, t) at i.is in
    subst (AxesTold n star) is (record { ra = marks.no_ra_iff n star; azimuth = marks.no_azimuth_iff n star })

-- as two facts, from which the record is made
pub two_heights : (m : Moment) (star : Star) (site : Site) (p : Place) → place m star site ≡ Ok p
    → (p.ra ≡ None ↔ nat_abs p.declination ≡ quarter)
    × (p.azimuth ≡ None ↔ nat_abs p.altitude ≡ quarter)
two_heights m star site p e =
    let i = in_night m star site p e in
    let n = night i.ut i.tt_at site in
    let f = night_fits i.ut i.tt_at site (tt_within m i.ut i.tt_at i.at) in
    subst (λ p. (p.ra ≡ None ↔ nat_abs p.declination ≡ quarter)
    × (p.azimuth ≡ None ↔ nat_abs p.altitude ≡ quarter)) i.is
    (marks_proved.no_ra_by_declination n f star, marks_proved.no_azimuth_by_altitude n f star)

pub place_heights : (m : Moment) (star : Star) (site : Site) (p : Place) → place m star site ≡ Ok p
    → HeightsTold p
place_heights m star site p e =
    let h = two_heights m star site p e in
    record { ra = h.0; azimuth = h.1 }

-- three true places: at the pole of date, at the zenith, and both
pub true_places : (place evening pole_star here ≡ Ok pole_place)
    × ((place evening zenith_star zenith_site ≡ Ok zenith_place)
    × (place evening pole_star pole_site ≡ Ok pole_and_zenith))
true_places = (samples_proved.pole_stands, (samples_proved.zenith_stands, samples_proved.pole_and_zenith_stand))

-- ---- the night list

module _ (n : Night) (e : Entry) where
  pub mark_0_exactly : (worked n e).mark ≡ 0 ↔ (star_refused e.star ≡ false) × ¬ (LacksOne (place_in n e.star))
  mark_0_exactly = marks.mark_0_iff n e

  -- "The night list marks it too: mark 1"
  pub mark_1_exactly : (worked n e).mark ≡ 1 ↔ (star_refused e.star ≡ false) × LacksOne (place_in n e.star)
  mark_1_exactly = marks.mark_1_iff n e

  pub mark_5_exactly : (worked n e).mark ≡ 5 ↔ star_refused e.star ≡ true
  mark_5_exactly = marks.mark_5_iff n e

-- "with nought in the angle that has none": in every night that is made ready, an entry that is filled tells its place
-- again, so that no such nought is taken for an angle
pub entry_tells : (m : Moment) (site : Site) (n : Night) (e : Entry) → night_of m site ≡ Ok n
    → star_refused e.star ≡ false → place_of (worked n e).angles ≡ place_in n e.star
unfolding worked entry_of
entry_tells m site n e r h = rw h (marks_proved.place_of_entry n e.star (ready_fits m site n r))
