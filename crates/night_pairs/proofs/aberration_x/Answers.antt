-- `night_pairs::aberration_x` meets its contract.
use Rattle.words.specs.Holds.{Holds, bits, arg, got, sub, sub_ok}
use Rattle.rules.specs.Units.{unit}
use Rattle.rules.specs.Night.{aberration_constant, eccentric_constant, aberration_x}
use Rattle.laws.specs.Night.{of_circle, of_eccentricity, of_circle_le, of_eccentricity_le}
use Rattle.night_pairs.proofs.aberration_x.Goals as goal
use Rattle.night_pairs.proofs.aberration_x.Goals.{After-scaled-2}
use Rattle.night_pairs.proofs.aberration_x.Lts as lts
use Rattle.night_pairs.proofs.aberration_x.Reads as reads
use Rattle.night_pairs.proofs.aberration_x.Tie as tie

module _ (c : lts.Start tie.the-claims reads.Pre reads.Post tie.handed_clauses) where
  sun_holds : Holds (bits c.args.s.sine) c.args.s.sine unit
  sun_holds = arg c.args.s.sine c.requires.sun_sized.sine_le tt

  perihelion_holds : Holds (bits c.args.p.sine) c.args.p.sine unit
  perihelion_holds = arg c.args.p.sine c.requires.perihelion_sized.sine_le tt

circle_holds : (c : lts.After-scaled tie.the-claims reads.Pre reads.Post tie.handed_clauses)
    → Holds (bits c.scaled.result) (of_circle c.args.s.sine) aberration_constant
circle_holds c =
    let start = c.before.before in
    got (rw (sun_holds start).value at c.scaled.ensures)
    (of_circle_le start.args.s.sine start.requires.sun_sized.sine_le) tt

eccentricity_holds : (c : After-scaled-2)
    → Holds (bits c.scaled-2.result) (of_eccentricity c.args.p.sine)
    eccentric_constant
eccentricity_holds c =
    let start = c.before.before.before.before in
    got (rw (perihelion_holds start).value at c.scaled-2.ensures)
    (of_eccentricity_le start.args.p.sine start.requires.perihelion_sized.sine_le) tt

pub returns : goal.returns
unfolding aberration_x
returns c = (sub (circle_holds c.before.before) (eccentricity_holds c) tt).value

pub overflow_sub-result : goal.overflow_sub-result
overflow_sub-result c = sub_ok (circle_holds c.before.before) (eccentricity_holds c) tt
