-- No second answer fits: the functions of crate `tests_functions`. Written by tools/only_one.py.
use seplogic.Ra.Ura.{Ura}
use base.Logic.{SProp}
use prog.Memory.{Memory}
use prog.Routine.{Routine}
use types.Logic.{Logic}
use contract.Monad.{Fun}
use Rattle.promises.specs.OfContracts.{OneAnswer, OneAnswerAndContent, one, one_each}
use Rattle.tests_functions.specs.contracts.aberration.tests_aberration as tests_aberration
use Rattle.tests_functions.specs.contracts.angle_sets.tests_precession as tests_precession
use Rattle.tests_functions.specs.contracts.angle_sets.tests_arguments as tests_arguments
use Rattle.tests_functions.specs.contracts.angle_sets.tests_nutation as tests_nutation
use Rattle.tests_functions.specs.contracts.angles.tests_obliquity as tests_obliquity
use Rattle.tests_functions.specs.contracts.angles.tests_sun as tests_sun
use Rattle.tests_functions.specs.contracts.angles.tests_perihelion as tests_perihelion
use Rattle.tests_functions.specs.contracts.angles.tests_sidereal as tests_sidereal
use Rattle.tests_functions.specs.contracts.angles.tests_mean_longitude as tests_mean_longitude
use Rattle.tests_functions.specs.contracts.angles.tests_sidereal_polynomial as tests_sidereal_polynomial
use Rattle.tests_functions.specs.contracts.days.tests_day_of as tests_day_of
use Rattle.tests_functions.specs.contracts.days.tests_date_of as tests_date_of
use Rattle.tests_functions.specs.contracts.lines.tests_times_line as tests_times_line
use Rattle.tests_functions.specs.contracts.moments.tests_instants as tests_instants
use Rattle.tests_functions.specs.contracts.numbers.tests_rnd_quotient as tests_rnd_quotient
use Rattle.tests_functions.specs.contracts.numbers.tests_whole_root as tests_whole_root
use Rattle.tests_functions.specs.contracts.numbers.tests_on_circle as tests_on_circle
use Rattle.tests_functions.specs.contracts.numbers.tests_rnd_product_quotient as tests_rnd_product_quotient
use Rattle.tests_functions.specs.contracts.pairs.tests_pair as tests_pair
use Rattle.tests_functions.specs.contracts.angle_sets.TestsPrecessedFromResultPrecessionRefusal.from as tests_precessed_from
use Rattle.tests_functions.specs.contracts.angle_sets.TestsFiveArgumentsFromResultArgumentsRefusal.from as tests_five_arguments_from
use Rattle.tests_functions.specs.contracts.angle_sets.TestsNutatedFromResultNutationRefusal.from as tests_nutated_from
use Rattle.tests_functions.specs.contracts.angles.TestsAngleFromResultI64Refusal.from as tests_angle_from
use Rattle.tests_functions.specs.contracts.days.TestsDayFromResultI64Refusal.from as tests_day_from
use Rattle.tests_functions.specs.contracts.days.TestsDateFromResultDateRefusal.from as tests_date_from
use Rattle.tests_functions.specs.contracts.moments.TestsInstantsFromResultInstantsRefusal.from as tests_instants_from
use Rattle.tests_functions.specs.contracts.numbers.TriedFromOptionI64.from as tried_from

module _ {M : Type 1} {𝓤 : Ura M} (𝓛 : Logic 𝓤) (mem : Memory → SProp 𝓤) (run : Routine → Fun 𝓤) where
  pub tests_aberration_one : OneAnswer 𝓤 tests_aberration.ended (tests_aberration.clauses 𝓛 mem run)
  tests_aberration_one κs passed g r s x y = one 𝓤 r s _

  pub tests_precession_one : OneAnswer 𝓤 tests_precession.ended (tests_precession.clauses 𝓛 mem run)
  tests_precession_one κs passed g r s x y = one 𝓤 r s _

  pub tests_arguments_one : OneAnswer 𝓤 tests_arguments.ended (tests_arguments.clauses 𝓛 mem run)
  tests_arguments_one κs passed g r s x y = one 𝓤 r s _

  pub tests_nutation_one : OneAnswer 𝓤 tests_nutation.ended (tests_nutation.clauses 𝓛 mem run)
  tests_nutation_one κs passed g r s x y = one 𝓤 r s _

  pub tests_obliquity_one : OneAnswer 𝓤 tests_obliquity.ended (tests_obliquity.clauses 𝓛 mem run)
  tests_obliquity_one κs passed g r s x y = one 𝓤 r s _

  pub tests_sun_one : OneAnswer 𝓤 tests_sun.ended (tests_sun.clauses 𝓛 mem run)
  tests_sun_one κs passed g r s x y = one 𝓤 r s _

  pub tests_perihelion_one : OneAnswer 𝓤 tests_perihelion.ended (tests_perihelion.clauses 𝓛 mem run)
  tests_perihelion_one κs passed g r s x y = one 𝓤 r s _

  pub tests_sidereal_one : OneAnswer 𝓤 tests_sidereal.ended (tests_sidereal.clauses 𝓛 mem run)
  tests_sidereal_one κs passed g r s x y = one 𝓤 r s _

  pub tests_mean_longitude_one : OneAnswer 𝓤 tests_mean_longitude.ended (tests_mean_longitude.clauses 𝓛 mem run)
  tests_mean_longitude_one κs passed g r s x y = one 𝓤 r s _

  pub tests_sidereal_polynomial_one : OneAnswer 𝓤 tests_sidereal_polynomial.ended
      (tests_sidereal_polynomial.clauses 𝓛 mem run)
  tests_sidereal_polynomial_one κs passed g r s x y = one 𝓤 r s _

  pub tests_day_of_one : OneAnswer 𝓤 tests_day_of.ended (tests_day_of.clauses 𝓛 mem run)
  tests_day_of_one κs passed g r s x y = one 𝓤 r s _

  pub tests_date_of_one : OneAnswer 𝓤 tests_date_of.ended (tests_date_of.clauses 𝓛 mem run)
  tests_date_of_one κs passed g r s x y = one 𝓤 r s _

  pub tests_times_line_one : OneAnswerAndContent 𝓤 tests_times_line.ended (tests_times_line.clauses 𝓛 mem run)
      (λ κs x. x.1.0.now)
  tests_times_line_one κs passed g r s x y = one_each 𝓤 r s _ _ _ _

  pub tests_instants_one : OneAnswer 𝓤 tests_instants.ended (tests_instants.clauses 𝓛 mem run)
  tests_instants_one κs passed g r s x y = one 𝓤 r s _

  pub tests_rnd_quotient_one : OneAnswer 𝓤 tests_rnd_quotient.ended (tests_rnd_quotient.clauses 𝓛 mem run)
  tests_rnd_quotient_one κs passed g r s x y = one 𝓤 r s _

  pub tests_whole_root_one : OneAnswer 𝓤 tests_whole_root.ended (tests_whole_root.clauses 𝓛 mem run)
  tests_whole_root_one κs passed g r s x y = one 𝓤 r s _

  pub tests_on_circle_one : OneAnswer 𝓤 tests_on_circle.ended (tests_on_circle.clauses 𝓛 mem run)
  tests_on_circle_one κs passed g r s x y = one 𝓤 r s _

  pub tests_rnd_product_quotient_one : OneAnswer 𝓤 tests_rnd_product_quotient.ended
      (tests_rnd_product_quotient.clauses 𝓛 mem run)
  tests_rnd_product_quotient_one κs passed g r s x y = one 𝓤 r s _

  pub tests_pair_one : OneAnswer 𝓤 tests_pair.ended (tests_pair.clauses 𝓛 mem run)
  tests_pair_one κs passed g r s x y = one 𝓤 r s _

  pub tests_precessed_from_one : OneAnswer 𝓤 tests_precessed_from.ended (tests_precessed_from.clauses 𝓛 mem run)
  tests_precessed_from_one κs passed g r s x y = one 𝓤 r s _

  pub tests_five_arguments_from_one : OneAnswer 𝓤 tests_five_arguments_from.ended
      (tests_five_arguments_from.clauses 𝓛 mem run)
  tests_five_arguments_from_one κs passed g r s x y = one 𝓤 r s _

  pub tests_nutated_from_one : OneAnswer 𝓤 tests_nutated_from.ended (tests_nutated_from.clauses 𝓛 mem run)
  tests_nutated_from_one κs passed g r s x y = one 𝓤 r s _

  pub tests_angle_from_one : OneAnswer 𝓤 tests_angle_from.ended (tests_angle_from.clauses 𝓛 mem run)
  tests_angle_from_one κs passed g r s x y = one 𝓤 r s _

  pub tests_day_from_one : OneAnswer 𝓤 tests_day_from.ended (tests_day_from.clauses 𝓛 mem run)
  tests_day_from_one κs passed g r s x y = one 𝓤 r s _

  pub tests_date_from_one : OneAnswer 𝓤 tests_date_from.ended (tests_date_from.clauses 𝓛 mem run)
  tests_date_from_one κs passed g r s x y = one 𝓤 r s _

  pub tests_instants_from_one : OneAnswer 𝓤 tests_instants_from.ended (tests_instants_from.clauses 𝓛 mem run)
  tests_instants_from_one κs passed g r s x y = one 𝓤 r s _

  pub tried_from_one : OneAnswer 𝓤 tried_from.ended (tried_from.clauses 𝓛 mem run)
  tried_from_one κs passed g r s x y = one 𝓤 r s _
