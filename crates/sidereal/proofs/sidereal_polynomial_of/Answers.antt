-- `sidereal::sidereal_polynomial_of` meets its contract.
use Rattle.std.proofs.Common.{◌∙◌, rules}
use Rattle.rules.specs.Sidereal.{sidereal_polynomial}
use Rattle.polynomials.proofs.Held.{instant_held}
use Rattle.sidereal.proofs.sidereal_polynomial_of.Goals as goal

pub returns : goal.returns
unfolding sidereal_polynomial
returns c =
    rw (← c.t.view_is) (search rules ∙ rw (instant_held c.t.inside.at.0 c.t.invariant) at c.cubic.ensures)
