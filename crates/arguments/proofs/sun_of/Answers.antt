-- `arguments::sun_of` meets its contract.
use Rattle.std.proofs.Common.{◌∙◌, rules}
use Rattle.rules.specs.Arguments.{arguments}
use Rattle.polynomials.proofs.Held.{instant_held}
use Rattle.arguments.proofs.sun_of.Goals as goal

pub returns : goal.returns
unfolding arguments
returns c = rw (← c.t.view_is) (search rules ∙ rw (instant_held c.t.inside.at.0 c.t.invariant) at c.cubic.ensures)
