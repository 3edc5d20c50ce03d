-- `refraction::lift` meets its contract: by the tenths of the fields where both have come, else nought.
use Rattle.std.proofs.Common.{◌∙◌, to_z-of_z}
use Rattle.rules.specs.Refraction.{lift}
use Rattle.laws.specs.Weather.{pressure_small, temperature_small}
use Rattle.laws.specs.Refraction.{record_air}
use Rattle.words.specs.Fits.{held64}
use Rattle.refraction.proofs.lift.Goals as goal
use Rattle.refraction.proofs.lift.Goals.{else-w-via-then-w+else-w-2, else-w-via-else-w}

pub tenths-requires : goal.tenths-requires
tenths-requires c = pressure_small c.args.w.pressure c.requires.pressure

pub tenths-requires-then-w-2 : goal.tenths-requires-then-w-2
tenths-requires-then-w-2 c = temperature_small c.args.w.temperature c.requires.temperature

pub lift_at-requires : goal.lift_at-requires
lift_at-requires c =
    let p = c.tenths in
    let t = c.tenths-then-w-2 in
    rw (held64 p.result p.type_inv ∙ p.ensures, held64 t.result t.type_inv ∙ t.ensures) (record_air c.args.w c.requires)

pub returns-then-w-2 : goal.returns-then-w-2
unfolding lift
returns-then-w-2 c =
    let p = c.tenths in
    let t = c.tenths-then-w-2 in
    held64 c.lift_at.result c.lift_at.type_inv
    ∙ rw (to_z-of_z c.ranges.h, held64 p.result p.type_inv ∙ p.ensures, held64 t.result t.type_inv ∙ t.ensures)
    at c.lift_at.ensures
    ∙ rw (c.if-w.true, c.if-w-2.true)

pub returns : goal.returns
unfolding lift
returns c =
    elim c.else-w.branch [
      | else-w-via-then-w+else-w-2 w ↦ rw (w.if-w.true, w.if-w-2.false)
      | else-w-via-else-w w ↦ rw (w.if-w.false)
    ]
