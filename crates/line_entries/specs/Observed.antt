-- Our own program `places`, with pressure and temperature: the column of the observed altitude. Definitions only.
use Rattle.std.specs.Prelude.{ℕ, Bool, cond, List, ℤ, pos, ◌+ℤ◌}
use Rattle.rules.specs.declared.Entry.{Entry}
use Rattle.rules.specs.Times.{decimal}
use Rattle.rules.specs.NightList.{filled}
use Rattle.rules.specs.Refraction.{lift_at}
use Rattle.sexagesimal.specs.Sexagesimal.{spaced, elevation}

-- by the tenths of pressure and temperature: of an entry with mark 0 or 1 its altitude and
-- the lift, of any other 0
unfoldable pub observed_of : ℤ → ℤ → Entry → ℤ
observed_of p t e = let h = e.angles.altitude in cond (filled e) (h +ℤ lift_at p t h) (pos 0)

-- in µas, or for people as the altitude is
unfoldable pub observed_column : Bool → ℤ → ℤ → Entry → List ℕ
observed_column people p t e = let h = observed_of p t e in spaced (cond people (elevation h) (decimal h))
