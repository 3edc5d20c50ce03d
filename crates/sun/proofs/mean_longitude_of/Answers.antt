-- `sun::mean_longitude_of` meets its contract.
use Rattle.std.proofs.Common.{◌∙◌, rules}
use Rattle.rules.specs.Sun.{mean_longitude}
use Rattle.polynomials.proofs.Held.{instant_held}
use Rattle.sun.proofs.mean_longitude_of.Goals as goal

pub returns : goal.returns
unfolding mean_longitude
returns c =
    rw (← c.t.view_is) (search rules ∙ rw (instant_held c.t.inside.at.0 c.t.invariant) at c.quadratic.ensures)
