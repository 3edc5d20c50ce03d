-- Where a place has no right ascension or no azimuth, by the height beside it, and that its entry tells which angle is
-- missing.
use Rattle.std.specs.Prelude.{◌≡◌, ◌↔◌, nat_abs, None}
use Rattle.rules.specs.declared.Direction.{Direction}
use Rattle.rules.specs.declared.Star.{Star}
use Rattle.rules.specs.declared.Night.{Night}
use Rattle.rules.specs.Units.{quarter}
use Rattle.rules.specs.Length.{squares}
use Rattle.rules.specs.Turning.{Accepted}
use Rattle.rules.specs.Place.{apparent, overhead, readings, place_in}
use Rattle.rules.specs.NightList.{angles_of}
use Rattle.laws.specs.Night.{NightFits}
use Rattle.laws.proofs.Place.{apparent_accepted, overhead_accepted}
use Rattle.laws.specs.Poles.{quarter_iff}
use Rattle.laws.specs.Marks.{no_ra_iff, no_azimuth_iff, place_of, read_beside_lem}

-- and by the height beside it: of every other place the declination, or the altitude, is less than a quarter
module _ (n : Night) (h : NightFits n) (s : Star) where
  abbrev v : Direction
  v = apparent n s

  abbrev w : Direction
  w = overhead n v

  v_accepted : Accepted (squares v)
  v_accepted = apparent_accepted n h s

  w_accepted : Accepted (squares w)
  w_accepted = overhead_accepted n h v v_accepted

  pub no_ra_by_declination : (place_in n s).ra ≡ None ↔ nat_abs (place_in n s).declination ≡ quarter
  unfolding place_in readings
  no_ra_by_declination =
      let i = no_ra_iff n s in
      let q = quarter_iff v v_accepted in
      (λ e. q.1 (i.0 e), λ e. i.1 (q.0 e))

  pub no_azimuth_by_altitude : (place_in n s).azimuth ≡ None ↔ nat_abs (place_in n s).altitude ≡ quarter
  unfolding place_in readings
  no_azimuth_by_altitude =
      let i = no_azimuth_iff n s in
      let q = quarter_iff w w_accepted in
      (λ e. q.1 (i.0 e), λ e. i.1 (q.0 e))

pub place_of_entry : (n : Night) (s : Star) → NightFits n → place_of (angles_of (place_in n s)) ≡ place_in n s
unfolding angles_of place_of
place_of_entry n s h =
    let p = place_in n s in
    rw (
      read_beside_lem p.ra p.declination (no_ra_by_declination n h s),
      read_beside_lem p.azimuth p.altitude (no_azimuth_by_altitude n h s),
    )
