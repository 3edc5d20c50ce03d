-- docs/RULES.md, "Refusal numbers": the ranges of a star. Definitions only.
use Rattle.std.specs.Prelude.{ℕ, ◌-◌, Bool, not, ◌&&◌, pos}
use Rattle.rules.specs.Data.{Star}
use Rattle.rules.specs.Units.{circle, quarter, between, within}

-- refusal 5: "star: RA not 0 to C−1, declination not within ±324,000,000,000,
-- either motion not within ±100,000,000 µas a year"
abbrev pub most_motion : ℕ
most_motion = 100000000

unfoldable pub star_refused : Star → Bool
star_refused s = not (between (pos 0) (pos (circle - 1)) s.ra && within quarter s.declination
    && within most_motion s.ra_motion && within most_motion s.declination_motion)
