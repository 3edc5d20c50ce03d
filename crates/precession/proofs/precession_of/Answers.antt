-- `precession::precession_of` meets its contract.
use Rattle.std.proofs.Common.{◌∙◌, ap}
use Rattle.rules.specs.declared.Tt.{Tt}
use Rattle.rules.specs.Precession.{precession}
use Rattle.words.specs.Fits.{held64}
use Rattle.polynomials.proofs.Held.{instant_held}
use Rattle.precession.proofs.precession_of.Goals as goal

pub returns : goal.returns
unfolding precession
returns c =
    let ms = instant_held c.t.inside.at.0 c.t.invariant ∙ ap (λ (t : Tt). t.0) c.t.view_is in
    rw (
      held64 c.cubic.result c.cubic.type_inv ∙ rw ms at c.cubic.ensures,
      held64 c.cubic-2.result c.cubic-2.type_inv ∙ rw ms at c.cubic-2.ensures,
      held64 c.cubic-3.result c.cubic-3.type_inv ∙ rw ms at c.cubic-3.ensures,
    )
