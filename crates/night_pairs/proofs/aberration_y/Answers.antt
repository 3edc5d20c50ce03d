-- `night_pairs::aberration_y` meets its contract.
use Rattle.words.specs.Holds.{Holds, bits, arg, got, add, add_ok, negate, negate_ok}
use Rattle.rules.specs.Units.{unit}
use Rattle.rules.specs.Night.{aberration_constant, eccentric_constant, aberration_y}
use Rattle.laws.specs.Night.{of_circle, of_eccentricity, of_circle_le, of_eccentricity_le}
use Rattle.night_pairs.proofs.aberration_y.Goals as goal
use Rattle.night_pairs.proofs.aberration_y.Goals.{After-scaled, After-scaled-2}
use Rattle.night_pairs.proofs.aberration_y.Lts as lts
use Rattle.night_pairs.proofs.aberration_y.Reads as reads
use Rattle.night_pairs.proofs.aberration_y.Tie as tie

module _ (c : lts.Start tie.the-claims reads.Pre reads.Post tie.handed_clauses) where
  sun_holds : Holds (bits c.args.s.cosine) c.args.s.cosine unit
  sun_holds = arg c.args.s.cosine c.requires.sun_sized.cosine_le tt

  perihelion_holds : Holds (bits c.args.p.cosine) c.args.p.cosine unit
  perihelion_holds = arg c.args.p.cosine c.requires.perihelion_sized.cosine_le tt

circle_holds : (c : After-scaled)
    → Holds (bits c.scaled.result) (of_circle c.args.s.cosine) aberration_constant
circle_holds c =
    let start = c.before.before in
    got (rw (sun_holds start).value at c.scaled.ensures)
    (of_circle_le start.args.s.cosine start.requires.sun_sized.cosine_le) tt

eccentricity_holds : (c : After-scaled-2)
    → Holds (bits c.scaled-2.result) (of_eccentricity c.args.p.cosine)
    eccentric_constant
eccentricity_holds c =
    let start = c.before.before.before.before in
    got (rw (perihelion_holds start).value at c.scaled-2.ensures)
    (of_eccentricity_le start.args.p.cosine start.requires.perihelion_sized.cosine_le) tt

pub returns : goal.returns
unfolding aberration_y
returns c = (add (negate (circle_holds c.before.before) tt) (eccentricity_holds c) tt).value

pub overflow_sub-result : goal.overflow_sub-result
overflow_sub-result c = negate_ok (circle_holds c) tt

pub overflow_add-result : goal.overflow_add-result
overflow_add-result c = add_ok (negate (circle_holds c.before.before) tt) (eccentricity_holds c) tt
