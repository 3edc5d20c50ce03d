-- `night_pairs::aberration` meets its contract.
use mathlib.Core.Path.{◌∙◌}
use native.Mathlib.Omega.{arith}
use Rattle.words.specs.Fits.{held64}
use Rattle.words.specs.Holds.{Holds, bits, arg, got}
use Rattle.rules.specs.Units.{unit}
use Rattle.rules.specs.Night.{aberration_y, aberration}
use Rattle.laws.specs.Night.{most_aberration, aberration_y_le}
use Rattle.night_pairs.proofs.aberration.Goals as goal
use Rattle.night_pairs.proofs.aberration.Goals.{After-aberration_y-by, Start}

module _ (c : Start) where
  cosine_holds : Holds (bits c.args.e.cosine) c.args.e.cosine unit
  cosine_holds = arg c.args.e.cosine c.requires.obliquity_sized.cosine_le tt

  sine_holds : Holds (bits c.args.e.sine) c.args.e.sine unit
  sine_holds = arg c.args.e.sine c.requires.obliquity_sized.sine_le tt

by_holds : (c : After-aberration_y-by)
    → Holds (bits c.aberration_y-by.result) (aberration_y c.args.s c.args.p) most_aberration
by_holds c =
    let start = c.before in
    got c.aberration_y-by.ensures
    (aberration_y_le start.args.s start.args.p start.requires.sun_sized start.requires.perihelion_sized) tt

pub returns : goal.returns
unfolding aberration
returns c =
    let start = c.before.before.before.before.before.before in
    let y = by_holds c.before.before.before.before.before in
    let first = c.before.before.before.before in
    let second = c.before.before in
    rw (
      held64 first.aberration_x.result first.aberration_x.type_inv ∙ first.aberration_x.ensures,
      held64 second.scaled.result second.scaled.type_inv
          ∙ rw (y.value, (cosine_holds start).value) at second.scaled.ensures,
      held64 c.scaled-2.result c.scaled-2.type_inv
          ∙ rw (y.value, (sine_holds start).value) at c.scaled-2.ensures,
    )

pub scaled-requires : goal.scaled-requires
scaled-requires c =
    let start = c.before.before.before.before in
    let y = by_holds c.before.before.before in
    rw (y.value, (cosine_holds start).value)
    (record { number_le = omega (arith, y.size); part_le = start.requires.obliquity_sized.cosine_le })

pub scaled-requires-2 : goal.scaled-requires-2
scaled-requires-2 c =
    let start = c.before.before.before.before.before.before in
    let y = by_holds c.before.before.before.before.before in
    rw (y.value, (sine_holds start).value)
    (record { number_le = omega (arith, y.size); part_le = start.requires.obliquity_sized.sine_le })
