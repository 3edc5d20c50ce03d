-- Our own program `places`, not document 01: the line of an entry. Definitions only.
use Rattle.std.specs.Prelude.{ℕ, Bool, cond, List, [], ◌∷◌, ◌++◌, eqb, ℤ, pos, nat_abs}
use Rattle.rules.specs.declared.Angles.{Angles}
use Rattle.rules.specs.declared.Entry.{Entry}
use Rattle.rules.specs.Units.{quarter}
use Rattle.rules.specs.Times.{decimal}
use Rattle.sexagesimal.specs.Sexagesimal.{spaced, hours, bearing, elevation}

-- `-`
abbrev pub dash : List ℕ
dash = 45 ∷ []

-- an angle, or a dash where there is none: the height beside it is a quarter there and nowhere else
-- (`laws/Marks.place_of_entry`)
unfoldable pub or_dash : ℤ → List ℕ → List ℕ
or_dash height angle = cond (eqb (nat_abs height) quarter) dash angle

-- an angle and the height beside it, each as it is written
abbrev pub beside : (ℤ → List ℕ) → (ℤ → List ℕ) → ℤ → ℤ → List ℕ
beside written height_written angle height =
    spaced (or_dash height (written angle)) ++ spaced (height_written height)

-- four angles, each as it is written
abbrev pub four_angles : (ℤ → List ℕ) → (ℤ → List ℕ) → (ℤ → List ℕ) → Angles → List ℕ
four_angles ra azimuth height a = beside ra height a.ra a.declination ++ beside azimuth height a.azimuth a.altitude

-- an angle and the height beside it, in µas
unfoldable pub two : ℤ → ℤ → List ℕ
two angle height = spaced (or_dash height (decimal angle)) ++ spaced (decimal height)

-- right ascension and declination for people
unfoldable pub equatorial : ℤ → ℤ → List ℕ
equatorial ra declination = spaced (or_dash declination (hours ra)) ++ spaced (elevation declination)

-- azimuth and altitude for people
unfoldable pub horizontal : ℤ → ℤ → List ℕ
horizontal azimuth altitude = spaced (or_dash altitude (bearing azimuth)) ++ spaced (elevation altitude)

-- four angles in µas
unfoldable pub plain_angles : Angles → List ℕ
plain_angles a = two a.ra a.declination ++ two a.azimuth a.altitude

-- four angles for people
unfoldable pub people_angles : Angles → List ℕ
people_angles a = equatorial a.ra a.declination ++ horizontal a.azimuth a.altitude

-- number, mark and four angles of an entry
unfoldable pub entry_line : Bool → ℕ → Entry → List ℕ
entry_line people index e =
    decimal (pos index) ++ spaced (decimal (pos e.mark))
    ++ cond people (people_angles e.angles) (plain_angles e.angles)
