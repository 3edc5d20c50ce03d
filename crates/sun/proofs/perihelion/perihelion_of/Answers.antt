-- `sun::perihelion::perihelion_of` meets its contract.
use Rattle.std.proofs.Common.{◌∙◌, rules}
use Rattle.rules.specs.Sun.{perihelion}
use Rattle.polynomials.proofs.Held.{instant_held}
use Rattle.sun.proofs.perihelion.perihelion_of.Goals as goal

pub returns : goal.returns
unfolding perihelion
returns c =
    rw (← c.t.view_is) (search rules ∙ rw (instant_held c.t.inside.at.0 c.t.invariant) at c.quadratic.ensures)
