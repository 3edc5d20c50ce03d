-- `refraction::observed::lifted` meets its contract: nothing is added but to an altitude that a place gives.
use mathlib.Core.Path.{◌≡◌, ap, ◌∙◌}
use native.Mathlib.Omega.{arith}
use mir.Syntax.{w64}
use mir.Val.{SFits, to_z, of_z}
use mir.Facts.{to_z-of_z}
use Rattle.words.specs.Fits.{fits64, held64}
use Rattle.rules.specs.Refraction.{lift, observed}
use Rattle.laws.specs.Refraction.{observed_or}
use Rattle.refraction.proofs.observed.lifted.Goals as goal
use Rattle.refraction.proofs.observed.lifted.Goals.{After-lift}

lift_is : (c : After-lift)
    → to_z w64 (of_z w64 c.lift.result) ≡ lift c.args.w c.args.h
lift_is c =
    held64 c.lift.result c.lift.type_inv
    ∙ c.lift.ensures
    ∙ ap (lift c.args.w) (to_z-of_z c.ranges.h)

observed_fits : (c : After-lift) → SFits w64 (observed c.args.w c.args.h)
observed_fits c =
    observed_or c.args.w c.args.h (SFits w64) c.requires c.ranges.h
    (λ z k. fits64 z (omega arith))

pub overflow_add-result : goal.overflow_add-result
unfolding observed
overflow_add-result c = rw (to_z-of_z c.ranges.h, lift_is c) (observed_fits c)

pub returns : goal.returns
unfolding observed
returns c = to_z-of_z (overflow_add-result c) ∙ rw (to_z-of_z c.ranges.h, lift_is c)
