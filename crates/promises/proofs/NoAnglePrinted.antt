-- Change C-12 in what `places` prints: a dash where a place has no angle, and there alone.
use Rattle.std.specs.Prelude.{◌≡◌, refl, Bool, true, false, cond, List, ◌++◌, ℕ, eqb, ℤ, nat_abs, Ok, Some, None}
use Rattle.rules.specs.declared.Moment.{Moment}
use Rattle.rules.specs.declared.Star.{Star}
use Rattle.rules.specs.declared.Site.{Site}
use Rattle.rules.specs.declared.Place.{Place}
use Rattle.rules.specs.declared.Angles.{Angles}
use Rattle.rules.specs.declared.Entry.{Entry}
use Rattle.rules.specs.declared.Night.{Night}
use Rattle.rules.specs.Units.{quarter}
use Rattle.rules.specs.Night.{night_of}
use Rattle.rules.specs.Stars.{star_refused}
use Rattle.rules.specs.Place.{place_in}
use Rattle.rules.specs.ListReading.{fresh_entry}
use Rattle.rules.specs.NightList.{worked}
use Rattle.rules.specs.Times.{decimal}
use Rattle.laws.specs.Marks.{read_beside, place_of}
use Rattle.sexagesimal.specs.Sexagesimal.{spaced, hours, bearing, elevation}
use Rattle.line_entries.specs.EntryLine.{dash, or_dash, two, equatorial, horizontal, plain_angles, people_angles}
use Rattle.promises.specs.NoAngle.{entry_tells}
use Rattle.promises.specs.NoAnglePrinted.{shown}

shown_beside : (text : ℤ → List ℕ) (height a : ℤ) → or_dash height (text a) ≡ shown text (read_beside height a)
unfolding or_dash read_beside
shown_beside text height a = by (eqb (nat_abs height) quarter)
  where
    by : (b : Bool) → cond b dash (text a) ≡ shown text (cond b None (Some a))
    by true = refl
    by false = refl

plain_of : (a : Angles) (p : Place) → place_of a ≡ p
    → plain_angles a
    ≡ (spaced (shown decimal p.ra) ++ spaced (decimal p.declination))
    ++ (spaced (shown decimal p.azimuth) ++ spaced (decimal p.altitude))
unfolding plain_angles two place_of
plain_of a p e = rw (
  ← e,
  shown_beside decimal a.declination a.ra,
  shown_beside decimal a.altitude a.azimuth,
)

people_of : (a : Angles) (p : Place) → place_of a ≡ p
    → people_angles a
    ≡ (spaced (shown hours p.ra) ++ spaced (elevation p.declination))
    ++ (spaced (shown bearing p.azimuth) ++ spaced (elevation p.altitude))
unfolding people_angles equatorial horizontal place_of
people_of a p e = rw (
  ← e,
  shown_beside hours a.declination a.ra,
  shown_beside bearing a.altitude a.azimuth,
)

-- of a star that is accepted, in every night that is made ready: a dash where the place has no angle, and there alone,
-- in µas and for people
module _ (m : Moment) (site : Site) (n : Night) (s : Star) (ready : night_of m site ≡ Ok n)
    (h : star_refused s ≡ false) where
  abbrev entry : Entry
  entry = worked n (fresh_entry s)

  abbrev p : Place
  p = place_in n s

  pub plain_shows : plain_angles entry.angles
      ≡ (spaced (shown decimal p.ra) ++ spaced (decimal p.declination))
      ++ (spaced (shown decimal p.azimuth) ++ spaced (decimal p.altitude))
  unfolding fresh_entry
  plain_shows = plain_of entry.angles p (entry_tells m site n (fresh_entry s) ready h)

  pub people_shows : people_angles entry.angles
      ≡ (spaced (shown hours p.ra) ++ spaced (elevation p.declination))
      ++ (spaced (shown bearing p.azimuth) ++ spaced (elevation p.altitude))
  unfolding fresh_entry
  people_shows = people_of entry.angles p (entry_tells m site n (fresh_entry s) ready h)
