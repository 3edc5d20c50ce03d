-- An instant in range is held by its bits.
use mathlib.Core.Path.{◌≡◌}
use lib.IntN.{ℤ}
use mir.Syntax.{w64}
use mir.Val.{to_z, of_z}
use Rattle.laws.specs.Instant.{InRange}
use Rattle.words.specs.Holds.{arg}

pub instant_held : (t : ℤ) → InRange t → to_z w64 (of_z w64 t) ≡ t
instant_held t h = (arg t h tt).value
