-- `tests_functions::aberration::given_at` meets its contract.
use mathlib.Core.Path.{◌≡◌, ◌∙◌}
use borrow.Author.Rules.{rules}
use mir.Syntax.{w64}
use mir.Val.{to_z, of_z}
use Rattle.rules.specs.Circle.{pair}
use Rattle.rules.specs.Precession.{obliquity}
use Rattle.rules.specs.Sun.{sun_longitude, perihelion}
use Rattle.rules.specs.Refusals.{given}
use Rattle.laws.specs.Angles.{pair_sized}
use Rattle.words.specs.Fits.{held64}
use Rattle.tests_functions.specs.Aberration.{aberration_given, tests_aberration}
use Rattle.tests_functions.proofs.aberration.given_at.Goals as goal
use Rattle.tests_functions.proofs.aberration.given_at.Goals.{After-pair-mean, After-pair-perihelion, After-pair-sun}

sun_is : (c : After-pair-sun) → c.pair-sun.result ≡ pair (sun_longitude c.args.t)
sun_is c =
    let sun = c.sun_longitude_of in
    rw (held64 sun.result sun.type_inv ∙ sun.ensures) at c.pair-sun.ensures

perihelion_is : (c : After-pair-perihelion)
    → c.pair-perihelion.result ≡ pair (perihelion c.args.t)
perihelion_is c =
    let angle = c.perihelion_of in
    rw (held64 angle.result angle.type_inv ∙ angle.ensures) at c.pair-perihelion.ensures

mean_is : (c : After-pair-mean)
    → c.pair-mean.result ≡ pair (obliquity c.args.t)
mean_is c =
    let epsilon = c.obliquity_of in
    rw (held64 epsilon.result epsilon.type_inv ∙ epsilon.ensures) at c.pair-mean.ensures

pub aberration-added-requires : goal.aberration-added-requires
aberration-added-requires c = simp (sun_is, perihelion_is, mean_is) (record { sun_sized = pair_sized _; perihelion_sized = pair_sized _; obliquity_sized = pair_sized _ })

pub aberration_x-requires : goal.aberration_x-requires
aberration_x-requires c = simp (sun_is, perihelion_is) (record { sun_sized = pair_sized _; perihelion_sized = pair_sized _ })

pub aberration_y-requires : goal.aberration_y-requires
aberration_y-requires c = simp (sun_is, perihelion_is) (record { sun_sized = pair_sized _; perihelion_sized = pair_sized _ })

pub returns : goal.returns
unfolding tests_aberration aberration_given given
returns c =
    let bx = c.aberration_x in
    let by = c.aberration_y in
    let added = c.aberration-added in
    let x_held : to_z w64 (of_z w64 added.result.x) ≡ added.result.x = search rules in
    let y_held : to_z w64 (of_z w64 added.result.y) ≡ added.result.y = search rules in
    let z_held : to_z w64 (of_z w64 added.result.z) ≡ added.result.z = search rules in
    rw (held64 bx.result bx.type_inv, held64 by.result by.type_inv, x_held, y_held, z_held)
    (simp (bx.ensures, by.ensures, added.ensures, sun_is, perihelion_is, mean_is))
