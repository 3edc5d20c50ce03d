-- Demand 1: what is exported for the tests alone relies on its caller no more than an entry point does, and neither do
-- the two functions that print a line of `times`.
use Rattle.std.specs.Prelude.{refl}
use seplogic.Ra.Ura.{Ura}
use base.Logic.{SProp}
use prog.Memory.{Memory}
use prog.Routine.{Routine}
use types.Logic.{Logic}
use contract.Monad.{Fun}
use Rattle.promises.specs.OfContracts.{AsksNothing}
use Rattle.tests_functions.specs.contracts.numbers.tests_rnd_quotient as tests_rnd_quotient
use Rattle.tests_functions.specs.contracts.numbers.tests_rnd_product_quotient as tests_rnd_product_quotient
use Rattle.tests_functions.specs.contracts.numbers.tests_whole_root as tests_whole_root
use Rattle.tests_functions.specs.contracts.numbers.tests_on_circle as tests_on_circle
use Rattle.tests_functions.specs.contracts.pairs.tests_pair as tests_pair_lem
use Rattle.tests_functions.specs.contracts.days.tests_day_of as tests_day_of
use Rattle.tests_functions.specs.contracts.days.tests_date_of as tests_date_of
use Rattle.tests_functions.specs.contracts.moments.tests_instants as tests_instants_lem
use Rattle.tests_functions.specs.contracts.lines.tests_times_line as tests_times_line
use Rattle.line_times.specs.contracts.print_line as print_line
use Rattle.tests_functions.specs.contracts.angle_sets.tests_precession as tests_precession
use Rattle.tests_functions.specs.contracts.angle_sets.tests_arguments as tests_arguments
use Rattle.tests_functions.specs.contracts.angle_sets.tests_nutation as tests_nutation
use Rattle.tests_functions.specs.contracts.angles.tests_obliquity as tests_obliquity
use Rattle.tests_functions.specs.contracts.angles.tests_sun as tests_sun
use Rattle.tests_functions.specs.contracts.angles.tests_perihelion as tests_perihelion
use Rattle.tests_functions.specs.contracts.angles.tests_sidereal as tests_sidereal
use Rattle.tests_functions.specs.contracts.angles.tests_mean_longitude as tests_mean_longitude
use Rattle.tests_functions.specs.contracts.angles.tests_sidereal_polynomial as tests_sidereal_polynomial
use Rattle.tests_functions.specs.contracts.aberration.tests_aberration as tests_aberration_lem
use Rattle.tests_lists.specs.contracts.tests_list_read as tests_list_read
use Rattle.tests_lists.specs.contracts.tests_list_write as tests_list_write
use Rattle.tests_lists.specs.contracts.tests_night_list as tests_night_list

module _ {M : Type 1} {𝓤 : Ura M} (𝓛 : Logic 𝓤) (mem : Memory → SProp 𝓤) (run : Routine → Fun 𝓤) where
  -- ---- numbers and pairs

  pub tests_rnd_quotient_asks_nothing : AsksNothing 𝓤 tests_rnd_quotient.ended
      (tests_rnd_quotient.clauses 𝓛 mem run)
  tests_rnd_quotient_asks_nothing κs passed g = refl

  pub tests_rnd_product_quotient_asks_nothing : AsksNothing 𝓤 tests_rnd_product_quotient.ended
      (tests_rnd_product_quotient.clauses 𝓛 mem run)
  tests_rnd_product_quotient_asks_nothing κs passed g = refl

  pub tests_whole_root_asks_nothing : AsksNothing 𝓤 tests_whole_root.ended (tests_whole_root.clauses 𝓛 mem run)
  tests_whole_root_asks_nothing κs passed g = refl

  pub tests_on_circle_asks_nothing : AsksNothing 𝓤 tests_on_circle.ended (tests_on_circle.clauses 𝓛 mem run)
  tests_on_circle_asks_nothing κs passed g = refl

  pub tests_pair_asks_nothing : AsksNothing 𝓤 tests_pair_lem.ended (tests_pair_lem.clauses 𝓛 mem run)
  tests_pair_asks_nothing κs passed g = refl

  -- ---- dates, instants and lines

  pub tests_day_of_asks_nothing : AsksNothing 𝓤 tests_day_of.ended (tests_day_of.clauses 𝓛 mem run)
  tests_day_of_asks_nothing κs passed g = refl

  pub tests_date_of_asks_nothing : AsksNothing 𝓤 tests_date_of.ended (tests_date_of.clauses 𝓛 mem run)
  tests_date_of_asks_nothing κs passed g = refl

  pub tests_instants_asks_nothing : AsksNothing 𝓤 tests_instants_lem.ended (tests_instants_lem.clauses 𝓛 mem run)
  tests_instants_asks_nothing κs passed g = refl

  pub tests_times_line_asks_nothing : AsksNothing 𝓤 tests_times_line.ended (tests_times_line.clauses 𝓛 mem run)
  tests_times_line_asks_nothing κs passed g = refl

  pub print_line_asks_nothing : AsksNothing 𝓤 print_line.ended (print_line.clauses 𝓛 mem run)
  print_line_asks_nothing κs passed g = refl

  -- ---- what an instant decides

  pub tests_precession_asks_nothing : AsksNothing 𝓤 tests_precession.ended (tests_precession.clauses 𝓛 mem run)
  tests_precession_asks_nothing κs passed g = refl

  pub tests_arguments_asks_nothing : AsksNothing 𝓤 tests_arguments.ended (tests_arguments.clauses 𝓛 mem run)
  tests_arguments_asks_nothing κs passed g = refl

  pub tests_nutation_asks_nothing : AsksNothing 𝓤 tests_nutation.ended (tests_nutation.clauses 𝓛 mem run)
  tests_nutation_asks_nothing κs passed g = refl

  pub tests_obliquity_asks_nothing : AsksNothing 𝓤 tests_obliquity.ended (tests_obliquity.clauses 𝓛 mem run)
  tests_obliquity_asks_nothing κs passed g = refl

  pub tests_sun_asks_nothing : AsksNothing 𝓤 tests_sun.ended (tests_sun.clauses 𝓛 mem run)
  tests_sun_asks_nothing κs passed g = refl

  pub tests_perihelion_asks_nothing : AsksNothing 𝓤 tests_perihelion.ended (tests_perihelion.clauses 𝓛 mem run)
  tests_perihelion_asks_nothing κs passed g = refl

  pub tests_sidereal_asks_nothing : AsksNothing 𝓤 tests_sidereal.ended (tests_sidereal.clauses 𝓛 mem run)
  tests_sidereal_asks_nothing κs passed g = refl

  pub tests_mean_longitude_asks_nothing : AsksNothing 𝓤 tests_mean_longitude.ended
      (tests_mean_longitude.clauses 𝓛 mem run)
  tests_mean_longitude_asks_nothing κs passed g = refl

  pub tests_sidereal_polynomial_asks_nothing : AsksNothing 𝓤 tests_sidereal_polynomial.ended
      (tests_sidereal_polynomial.clauses 𝓛 mem run)
  tests_sidereal_polynomial_asks_nothing κs passed g = refl

  pub tests_aberration_asks_nothing : AsksNothing 𝓤 tests_aberration_lem.ended (tests_aberration_lem.clauses 𝓛 mem run)
  tests_aberration_asks_nothing κs passed g = refl

  -- ---- lists

  pub tests_list_read_asks_nothing : AsksNothing 𝓤 tests_list_read.ended (tests_list_read.clauses 𝓛 mem run)
  tests_list_read_asks_nothing κs passed g = refl

  pub tests_list_write_asks_nothing : AsksNothing 𝓤 tests_list_write.ended (tests_list_write.clauses 𝓛 mem run)
  tests_list_write_asks_nothing κs passed g = refl

  pub tests_night_list_asks_nothing : AsksNothing 𝓤 tests_night_list.ended (tests_night_list.clauses 𝓛 mem run)
  tests_night_list_asks_nothing κs passed g = refl
