-- docs/RULES.md, "Turns, readings, place": heights and declinations. Definitions only.
use Rattle.std.specs.Prelude.{◌+◌, cond, ℤ, pos, ◌-ℤ◌}
use Rattle.std.specs.Int.Signed.{lt_z}
use Rattle.rules.specs.Data.{Direction}
use Rattle.rules.specs.Units.{circle, half}
use Rattle.rules.specs.Length.{root, square}
use Rattle.rules.specs.Reading.{angle_of}

-- "given between minus and plus a quarter"
unfoldable pub as_height : ℤ → ℤ
as_height a = cond (lt_z (pos half) a) (a -ℤ pos circle) a

-- "Heights and declinations read (downward root of x²+y², z)"; of an accepted direction these are not both nought, so
-- that there always is an angle
unfoldable pub height : Direction → ℤ
height v = as_height (angle_of (pos (root (square v.x + square v.y))) v.z)
