-- `steps::aberrated` meets its contract: what is added is small beside an accepted direction.
use mathlib.Core.Path.{ap, ◌∙◌}
use native.Mathlib.Omega.{arith}
use Rattle.rules.specs.Length.{to_length}
use Rattle.rules.specs.Place.{aberrated}
use Rattle.laws.specs.Directions.{accepted_parts}
use Rattle.laws.specs.Aberration.{plus_fits, plus_root_ge}
use Rattle.steps.proofs.aberrated.Goals as goal

pub sum-requires : goal.sum-requires
sum-requires c =
    let v = accepted_parts c.args.v c.requires in
    let a = c.n.invariant.aberration in record { direction_fits = record { x = omega (arith, v.x); y = omega (arith, v.y); z = omega (arith, v.z) }; aberration_fits = record { x = omega (arith, a.x); y = omega (arith, a.y); z = omega (arith, a.z) } }

pub brought-requires : goal.brought-requires
brought-requires c =
    let v = c.args.v in
    let a = c.n.inside.night.aberration in
    let small = c.n.invariant.aberration in
    rw c.sum.ensures (record {
      fits = omega (arith, plus_fits v a c.requires small);
      length_pos = omega (arith, plus_root_ge v a c.requires small);
    })

pub returns : goal.returns
unfolding aberrated
returns c = rw (← c.n.view_is) (c.brought.ensures ∙ ap to_length c.sum.ensures)
