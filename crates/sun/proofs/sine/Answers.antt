-- `sun::sine` meets its contract.
use mathlib.Core.Path.{◌≡◌, ap}
use mir.Syntax.{w64}
use mir.Val.{to_z, of_z}
use mir.Facts.{to_z-of_z}
use Rattle.rules.specs.declared.Pair.{Pair}
use Rattle.laws.specs.Angles.{pair_sized}
use Rattle.words.specs.Holds.{got}
use Rattle.sun.proofs.sine.Goals as goal
use Rattle.sun.proofs.sine.Goals.{Start}

a_held : (c : Start) → to_z w64 (of_z w64 c.args.a) ≡ c.args.a
a_held c = to_z-of_z c.ranges.a

pub returns : goal.returns
returns c =
    (got (ap (λ (p : Pair). p.sine) (simp a_held at c.pair.ensures))
    (pair_sized c.args.a).sine_le tt).value
