-- How long a line of the answer is at most.
use Rattle.std.specs.Prelude.{◌≡◌, Bool, cond, List, ℕ, ◌-◌, ◌≤◌, ℤ, pos, negsuc, nat_abs, Result, Ok, Err, Option, Some, None}
use Rattle.std.proofs.Math.Path.{refl}
use Rattle.std.proofs.Math.Bool.{true, false}
use Rattle.std.proofs.Common.{arith, lit≤, length-append}
use Rattle.std.proofs.Math.ListN.{length}
use Rattle.rules.specs.declared.Star.{Star}
use Rattle.rules.specs.declared.Entry.{Entry}
use Rattle.rules.specs.declared.Night.{Night}
use Rattle.rules.specs.Units.{circle}
use Rattle.rules.specs.Refusals.{number}
use Rattle.rules.specs.Answers.{or_nought}
use Rattle.rules.specs.Reading.{reading}
use Rattle.rules.specs.Stars.{star_refused}
use Rattle.rules.specs.Place.{apparent, overhead, readings, place_in}
use Rattle.rules.specs.ListReading.{noughts, fresh_entry, list_star}
use Rattle.rules.specs.NightList.{angles_of, entry_of, worked}
use Rattle.rules.specs.ListFile.{most_records}
use Rattle.laws.specs.UpTo.{UpTo}
use Rattle.laws.specs.NoAngle.{reading_range}
use Rattle.laws.specs.Heights.{height_le}
use Rattle.laws.specs.Marks.{mark_below_2}
use Rattle.laws.specs.Times.{refused_line_le, number_le}
use Rattle.line_entries.specs.EntryLine.{entry_line}
use Rattle.line_entries.specs.Observed.{observed_column}
use Rattle.line_entries.specs.Lengths.{AnglesLe, entry_le}
use Rattle.line_entries.specs.ObservedAltitude.{observed_of_within, column_le}
use Rattle.line_entries.specs.declared.air.Air.{Air}
use Rattle.line_places.specs.Air.{air_accepted}
use Rattle.line_places.specs.Answers.{line_in, star_line, answer_line}
use Rattle.line_places.specs.Room.{line_length}
use Rattle.line_places.specs.AcceptedAir.{accepted_in_range}
use Rattle.line_places.specs.Entries.{star_index_le}
use Rattle.rules.specs.declared.Refusal.{Refusal}

-- ---- the line of an entry

pub line_le : (people : Bool) (air : Option Air) (index : ℕ) (e : Entry) → air_accepted air ≡ true → index ≤ most_records
    → e.mark ≤ 255 → AnglesLe e.angles
    → length (line_in people air index e) ≤ line_length
unfolding line_in
line_le people None index e a h k l = omega (arith, entry_le people index e h k l)
line_le people (Some air) index e a h k l =
    let p = air.pressure in
    let t = air.temperature in
    let w = observed_of_within p t (accepted_in_range p t a) e l.altitude in
    omega (
      arith,
      length-append (entry_line people index e) (observed_column people p t e),
      entry_le people index e h k l,
      column_le people p t e (omega (arith, w)),
    )

-- ---- of an entry that was worked

up_to_le_lem : (z : ℤ) → UpTo z (circle - 1) → nat_abs z ≤ circle
up_to_le_lem (pos n) h = omega (arith, h.high)
up_to_le_lem (negsuc n) h = absurd (omega (arith, h.low))

pub noughts_le : AnglesLe noughts
noughts_le = record { ra = lit≤ tt; declination = lit≤ tt; azimuth = lit≤ tt; altitude = lit≤ tt }

or_nought_le : (h v : ℤ) → nat_abs (or_nought (reading h v)) ≤ circle
unfolding or_nought
or_nought_le h v = by (reading h v) refl
  where
    by : (r : Option ℤ) → reading h v ≡ r → nat_abs (or_nought r) ≤ circle
    by (Some a) e = up_to_le_lem a (reading_range h v a e)
    by None e = lit≤ tt

place_le : (n : Night) (s : Star) → AnglesLe (angles_of (place_in n s))
unfolding angles_of place_in readings
place_le n s = record {
  ra = or_nought_le _ _;
  declination = height_le (apparent n s);
  azimuth = or_nought_le _ _;
  altitude = height_le (overhead n (apparent n s));
}

module _ (people : Bool) (air : Option Air) (accepted : air_accepted air ≡ true) where
  pub worked_le : (n : Night) (index : ℕ) (e : Entry) → index ≤ most_records
      → length (line_in people air index (worked n e)) ≤ line_length
  unfolding worked entry_of
  worked_le n index e h = go (star_refused e.star)
    where
      go : (b : Bool) → length (line_in people air index (cond b
          (record { star = e.star; mark = 5; angles = noughts })
          (entry_of e.star (place_in n e.star)))) ≤ line_length
      go true = line_le people air index _ accepted h (lit≤ tt) noughts_le
      go false =
          let p = place_in n e.star in
          line_le people air index _ accepted h (omega (arith, mark_below_2 p.ra p.azimuth)) (place_le n e.star)

  pub answer_le : (file : List ℕ) (n : Night) (index : ℕ) → length (answer_line people air file n index) ≤ line_length
  unfolding answer_line star_line
  answer_le file n index = go (list_star file index) refl
    where
      go : (s : Result Star Refusal) → list_star file index ≡ s → length (star_line people air n index s) ≤ line_length
      go (Ok s) e = worked_le n index (fresh_entry s) (star_index_le file index s e)
      go (Err r) e = omega (arith, refused_line_le (number r) (number_le r))
