-- `arguments::arguments_of` meets its contract.
use Rattle.std.proofs.Common.{◌∙◌, ap}
use Rattle.rules.specs.declared.Tt.{Tt}
use Rattle.rules.specs.Arguments.{arguments}
use Rattle.words.specs.Fits.{held64}
use Rattle.polynomials.proofs.Held.{instant_held}
use Rattle.arguments.proofs.arguments_of.Goals as goal

pub returns : goal.returns
unfolding arguments
returns c =
    let ms = instant_held c.t.inside.at.0 c.t.invariant ∙ ap (λ (t : Tt). t.0) c.t.view_is in
    rw (
      held64 c.cubic.result c.cubic.type_inv ∙ rw ms at c.cubic.ensures,
      held64 c.sun_of.result c.sun_of.type_inv ∙ c.sun_of.ensures,
      held64 c.cubic-2.result c.cubic-2.type_inv ∙ rw ms at c.cubic-2.ensures,
      held64 c.cubic-3.result c.cubic-3.type_inv ∙ rw ms at c.cubic-3.ensures,
      held64 c.cubic-4.result c.cubic-4.type_inv ∙ rw ms at c.cubic-4.ensures,
    )
