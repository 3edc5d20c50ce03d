-- Demand 1: no entry point relies on its caller. Whatever is passed, the contract of each requires nothing; its own
-- crate proves that its code meets that contract.
use Rattle.std.specs.Prelude.{refl}
use seplogic.Ra.Ura.{Ura}
use base.Logic.{SProp}
use prog.Memory.{Memory}
use prog.Routine.{Routine}
use types.Logic.{Logic}
use contract.Monad.{Fun}
use Rattle.promises.specs.OfContracts.{AsksNothing}
use Rattle.module.specs.contracts.clocks.turbelicus_utc as turbelicus_utc
use Rattle.module.specs.contracts.places.turbelicus_place as turbelicus_place
use Rattle.module.specs.contracts.turns.turbelicus_turn as turbelicus_turn
use Rattle.module.specs.contracts.turns.turbelicus_reading as turbelicus_reading
use Rattle.module.specs.contracts.probe.turbelicus_weather as turbelicus_weather
use Rattle.module.specs.contracts.probe.turbelicus_observed_altitude as turbelicus_observed_altitude
use Rattle.module.specs.contracts.observed.turbelicus_observed_place as turbelicus_observed_place
use Rattle.module.specs.contracts.lists.turbelicus_list_count as turbelicus_list_count
use Rattle.module.specs.contracts.lists.turbelicus_list_star as turbelicus_list_star
use Rattle.module.specs.contracts.lists.turbelicus_list_write as turbelicus_list_write
use Rattle.calendar.specs.contracts.day_of as day_of_lem
use Rattle.calendar.specs.contracts.date_of as date_of_lem
use Rattle.instants.specs.contracts.instants as instants
use Rattle.utc.specs.contracts.utc_of_tt as utc_of_tt_lem
use Rattle.precession.specs.contracts.precession as precession
use Rattle.precession.specs.contracts.obliquity as obliquity
use Rattle.arguments.specs.contracts.arguments as arguments
use Rattle.nutation.specs.contracts.nutation as nutation
use Rattle.sun.specs.contracts.sun_longitude as sun_longitude_lem
use Rattle.sun.specs.contracts.perihelion.perihelion as perihelion
use Rattle.sidereal.specs.contracts.sidereal as sidereal
use Rattle.circle.specs.contracts.pair as pair
use Rattle.reading.specs.contracts.reading as reading
use Rattle.turning.specs.contracts.turn as turn
use Rattle.place.specs.contracts.place as place
use Rattle.night.specs.contracts.night_of as night_of_lem
use Rattle.weather.specs.contracts.kept.take_from as take_from
use Rattle.refraction.specs.contracts.observed.observed_altitude as observed_altitude_lem
use Rattle.list_file.specs.contracts.list_count as list_count
use Rattle.list_file.specs.contracts.list_star as list_star_lem
use Rattle.list_from_numbers.specs.contracts.list_write as list_write
use Rattle.entries_read.specs.contracts.read_list as read_list
use Rattle.entries_write.specs.contracts.write_list as write_list
use Rattle.night_list.specs.contracts.night_list as night_list_lem

module _ {M : Type 1} {𝓤 : Ura M} (𝓛 : Logic 𝓤) (mem : Memory → SProp 𝓤) (run : Routine → Fun 𝓤) where
  -- ---- the module, for C

  pub turbelicus_utc_asks_nothing : AsksNothing 𝓤 turbelicus_utc.ended (turbelicus_utc.clauses 𝓛 mem run)
  turbelicus_utc_asks_nothing κs passed g = refl

  pub turbelicus_place_asks_nothing : AsksNothing 𝓤 turbelicus_place.ended (turbelicus_place.clauses 𝓛 mem run)
  turbelicus_place_asks_nothing κs passed g = refl

  pub turbelicus_turn_asks_nothing : AsksNothing 𝓤 turbelicus_turn.ended (turbelicus_turn.clauses 𝓛 mem run)
  turbelicus_turn_asks_nothing κs passed g = refl

  pub turbelicus_reading_asks_nothing : AsksNothing 𝓤 turbelicus_reading.ended
      (turbelicus_reading.clauses 𝓛 mem run)
  turbelicus_reading_asks_nothing κs passed g = refl

  pub turbelicus_weather_asks_nothing : AsksNothing 𝓤 turbelicus_weather.ended
      (turbelicus_weather.clauses 𝓛 mem run)
  turbelicus_weather_asks_nothing κs passed g = refl

  pub turbelicus_observed_altitude_asks_nothing : AsksNothing 𝓤 turbelicus_observed_altitude.ended
      (turbelicus_observed_altitude.clauses 𝓛 mem run)
  turbelicus_observed_altitude_asks_nothing κs passed g = refl

  pub turbelicus_observed_place_asks_nothing : AsksNothing 𝓤 turbelicus_observed_place.ended
      (turbelicus_observed_place.clauses 𝓛 mem run)
  turbelicus_observed_place_asks_nothing κs passed g = refl

  pub turbelicus_list_count_asks_nothing : AsksNothing 𝓤 turbelicus_list_count.ended
      (turbelicus_list_count.clauses 𝓛 mem run)
  turbelicus_list_count_asks_nothing κs passed g = refl

  pub turbelicus_list_star_asks_nothing : AsksNothing 𝓤 turbelicus_list_star.ended
      (turbelicus_list_star.clauses 𝓛 mem run)
  turbelicus_list_star_asks_nothing κs passed g = refl

  pub turbelicus_list_write_asks_nothing : AsksNothing 𝓤 turbelicus_list_write.ended
      (turbelicus_list_write.clauses 𝓛 mem run)
  turbelicus_list_write_asks_nothing κs passed g = refl

  -- ---- dates and instants

  pub day_of_asks_nothing : AsksNothing 𝓤 day_of_lem.ended (day_of_lem.clauses 𝓛 mem run)
  day_of_asks_nothing κs passed g = refl

  pub date_of_asks_nothing : AsksNothing 𝓤 date_of_lem.ended (date_of_lem.clauses 𝓛 mem run)
  date_of_asks_nothing κs passed g = refl

  pub instants_asks_nothing : AsksNothing 𝓤 instants.ended (instants.clauses 𝓛 mem run)
  instants_asks_nothing κs passed g = refl

  pub utc_of_tt_asks_nothing : AsksNothing 𝓤 utc_of_tt_lem.ended (utc_of_tt_lem.clauses 𝓛 mem run)
  utc_of_tt_asks_nothing κs passed g = refl

  -- ---- angles at an instant

  pub precession_asks_nothing : AsksNothing 𝓤 precession.ended (precession.clauses 𝓛 mem run)
  precession_asks_nothing κs passed g = refl

  pub obliquity_asks_nothing : AsksNothing 𝓤 obliquity.ended (obliquity.clauses 𝓛 mem run)
  obliquity_asks_nothing κs passed g = refl

  pub arguments_asks_nothing : AsksNothing 𝓤 arguments.ended (arguments.clauses 𝓛 mem run)
  arguments_asks_nothing κs passed g = refl

  pub nutation_asks_nothing : AsksNothing 𝓤 nutation.ended (nutation.clauses 𝓛 mem run)
  nutation_asks_nothing κs passed g = refl

  pub sun_longitude_asks_nothing : AsksNothing 𝓤 sun_longitude_lem.ended (sun_longitude_lem.clauses 𝓛 mem run)
  sun_longitude_asks_nothing κs passed g = refl

  pub perihelion_asks_nothing : AsksNothing 𝓤 perihelion.ended (perihelion.clauses 𝓛 mem run)
  perihelion_asks_nothing κs passed g = refl

  pub sidereal_asks_nothing : AsksNothing 𝓤 sidereal.ended (sidereal.clauses 𝓛 mem run)
  sidereal_asks_nothing κs passed g = refl

  -- ---- the circle, turns and places

  pub pair_asks_nothing : AsksNothing 𝓤 pair.ended (pair.clauses 𝓛 mem run)
  pair_asks_nothing κs passed g = refl

  pub reading_asks_nothing : AsksNothing 𝓤 reading.ended (reading.clauses 𝓛 mem run)
  reading_asks_nothing κs passed g = refl

  pub turn_asks_nothing : AsksNothing 𝓤 turn.ended (turn.clauses 𝓛 mem run)
  turn_asks_nothing κs passed g = refl

  pub place_asks_nothing : AsksNothing 𝓤 place.ended (place.clauses 𝓛 mem run)
  place_asks_nothing κs passed g = refl

  pub night_of_asks_nothing : AsksNothing 𝓤 night_of_lem.ended (night_of_lem.clauses 𝓛 mem run)
  night_of_asks_nothing κs passed g = refl

  -- ---- the weather

  pub take_from_asks_nothing : AsksNothing 𝓤 take_from.ended (take_from.clauses 𝓛 mem run)
  take_from_asks_nothing κs passed g = refl

  pub observed_altitude_asks_nothing : AsksNothing 𝓤 observed_altitude_lem.ended (observed_altitude_lem.clauses 𝓛 mem run)
  observed_altitude_asks_nothing κs passed g = refl

  -- ---- lists

  pub list_count_asks_nothing : AsksNothing 𝓤 list_count.ended (list_count.clauses 𝓛 mem run)
  list_count_asks_nothing κs passed g = refl

  pub list_star_asks_nothing : AsksNothing 𝓤 list_star_lem.ended (list_star_lem.clauses 𝓛 mem run)
  list_star_asks_nothing κs passed g = refl

  pub list_write_asks_nothing : AsksNothing 𝓤 list_write.ended (list_write.clauses 𝓛 mem run)
  list_write_asks_nothing κs passed g = refl

  pub read_list_asks_nothing : AsksNothing 𝓤 read_list.ended (read_list.clauses 𝓛 mem run)
  read_list_asks_nothing κs passed g = refl

  pub write_list_asks_nothing : AsksNothing 𝓤 write_list.ended (write_list.clauses 𝓛 mem run)
  write_list_asks_nothing κs passed g = refl

  pub night_list_asks_nothing : AsksNothing 𝓤 night_list_lem.ended (night_list_lem.clauses 𝓛 mem run)
  night_list_asks_nothing κs passed g = refl
