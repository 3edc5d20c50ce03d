-- The pair of the opposite angle, and the sum of step 6.
use Rattle.std.specs.Prelude.{ℤ, neg_ℤ, ◌+ℤ◌, ◌*ℤ◌}
use Rattle.rules.specs.declared.Pair.{Pair}
use Rattle.rules.specs.declared.Ut.{Ut}
use Rattle.rules.specs.Units.{unit}
use Rattle.rules.specs.Rounding.{rnd}
use Rattle.rules.specs.Sidereal.{sidereal}

abbrev pub opposite : Pair → Pair
opposite p = record { cosine = p.cosine; sine = neg_ℤ p.sine }

-- the local sidereal angle of UT, Δψ, the cosine of ε and a longitude
abbrev pub local_angle : Ut → ℤ → ℤ → ℤ → ℤ
local_angle ut nutation cosine longitude = sidereal ut +ℤ rnd (nutation *ℤ cosine) unit +ℤ longitude
