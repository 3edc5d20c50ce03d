-- No second answer fits: the functions of crate `answers`. Written by tools/only_one.py.
use seplogic.Ra.Ura.{Ura}
use base.Logic.{SProp}
use prog.Memory.{Memory}
use prog.Routine.{Routine}
use types.Logic.{Logic}
use contract.Monad.{Fun}
use Rattle.promises.specs.OfContracts.{OneAnswer, one}
use Rattle.answers.specs.contracts.numbered as numbered
use Rattle.answers.specs.contracts.given.moment_of as moment_of
use Rattle.answers.specs.contracts.given.weather_of as weather_of
use Rattle.answers.specs.contracts.observed.beside_out as beside_out
use Rattle.answers.specs.contracts.clocks.TurbelicusClockedFromResultUtcRefusal.from as turbelicus_clocked_from
use Rattle.answers.specs.contracts.lists.TurbelicusCountedFromResultUsizeRefusal.from as turbelicus_counted_from
use Rattle.answers.specs.contracts.lists.TurbelicusStarredFromResultStarRefusal.from as turbelicus_starred_from
use Rattle.answers.specs.contracts.lists.TurbelicusWrittenFromResultUsizeRefusal.from as turbelicus_written_from
use Rattle.answers.specs.contracts.observed.TurbelicusAltitudeFromResultI64Refusal.from as turbelicus_altitude_from
use Rattle.answers.specs.contracts.places.TurbelicusPlacedFromResultPlaceRefusal.from as turbelicus_placed_from
use Rattle.answers.specs.contracts.probe.TurbelicusWeatheredFromResultWeatherWeather.from as turbelicus_weathered_from
use Rattle.answers.specs.contracts.turns.TurbelicusTurnedFromResultDirectionRefusal.from as turbelicus_turned_from
use Rattle.answers.specs.contracts.turns.TurbelicusReadFromOptionI64.from as turbelicus_read_from

module _ {M : Type 1} {𝓤 : Ura M} (𝓛 : Logic 𝓤) (mem : Memory → SProp 𝓤) (run : Routine → Fun 𝓤) where
  pub numbered_one : (T : _) (T1 : _) → OneAnswer 𝓤 (numbered.ended T T1) (numbered.clauses T T1 𝓛 mem run)
  numbered_one T T1 κs passed g r s x y = one 𝓤 r s _

  pub moment_of_one : OneAnswer 𝓤 moment_of.ended (moment_of.clauses 𝓛 mem run)
  moment_of_one κs passed g r s x y = one 𝓤 r s _

  pub weather_of_one : OneAnswer 𝓤 weather_of.ended (weather_of.clauses 𝓛 mem run)
  weather_of_one κs passed g r s x y = one 𝓤 r s _

  pub beside_out_one : OneAnswer 𝓤 beside_out.ended (beside_out.clauses 𝓛 mem run)
  beside_out_one κs passed g r s x y = one 𝓤 r s _

  pub turbelicus_clocked_from_one : OneAnswer 𝓤 turbelicus_clocked_from.ended
      (turbelicus_clocked_from.clauses 𝓛 mem run)
  turbelicus_clocked_from_one κs passed g r s x y = one 𝓤 r s _

  pub turbelicus_counted_from_one : OneAnswer 𝓤 turbelicus_counted_from.ended
      (turbelicus_counted_from.clauses 𝓛 mem run)
  turbelicus_counted_from_one κs passed g r s x y = one 𝓤 r s _

  pub turbelicus_starred_from_one : OneAnswer 𝓤 turbelicus_starred_from.ended
      (turbelicus_starred_from.clauses 𝓛 mem run)
  turbelicus_starred_from_one κs passed g r s x y = one 𝓤 r s _

  pub turbelicus_written_from_one : OneAnswer 𝓤 turbelicus_written_from.ended
      (turbelicus_written_from.clauses 𝓛 mem run)
  turbelicus_written_from_one κs passed g r s x y = one 𝓤 r s _

  pub turbelicus_altitude_from_one : OneAnswer 𝓤 turbelicus_altitude_from.ended
      (turbelicus_altitude_from.clauses 𝓛 mem run)
  turbelicus_altitude_from_one κs passed g r s x y = one 𝓤 r s _

  pub turbelicus_placed_from_one : OneAnswer 𝓤 turbelicus_placed_from.ended (turbelicus_placed_from.clauses 𝓛 mem run)
  turbelicus_placed_from_one κs passed g r s x y = one 𝓤 r s _

  pub turbelicus_weathered_from_one : OneAnswer 𝓤 turbelicus_weathered_from.ended
      (turbelicus_weathered_from.clauses 𝓛 mem run)
  turbelicus_weathered_from_one κs passed g r s x y = one 𝓤 r s _

  pub turbelicus_turned_from_one : OneAnswer 𝓤 turbelicus_turned_from.ended (turbelicus_turned_from.clauses 𝓛 mem run)
  turbelicus_turned_from_one κs passed g r s x y = one 𝓤 r s _

  pub turbelicus_read_from_one : OneAnswer 𝓤 turbelicus_read_from.ended (turbelicus_read_from.clauses 𝓛 mem run)
  turbelicus_read_from_one κs passed g r s x y = one 𝓤 r s _
