-- A star of four numbers. Definitions only.
use Rattle.std.specs.Prelude.{ℤ}
use Rattle.rules.specs.declared.Star.{Star}

abbrev pub star_of : ℤ → ℤ → ℤ → ℤ → Star
star_of ra declination ra_motion declination_motion = record {
  ra = ra;
  declination = declination;
  ra_motion = ra_motion;
  declination_motion = declination_motion;
}
