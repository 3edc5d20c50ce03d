-- `precession::obliquity_of` meets its contract.
use Rattle.std.proofs.Common.{◌∙◌, rules}
use Rattle.rules.specs.Precession.{obliquity}
use Rattle.polynomials.proofs.Held.{instant_held}
use Rattle.precession.proofs.obliquity_of.Goals as goal

pub returns : goal.returns
unfolding obliquity
returns c =
    rw (← c.t.view_is) (search rules ∙ rw (instant_held c.t.inside.at.0 c.t.invariant) at c.cubic.ensures)
