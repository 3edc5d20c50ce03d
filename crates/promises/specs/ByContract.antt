-- Every answer in full, of the functions themselves: whatever is passed to an entry point of the library, its contract
-- tells that the answer is the rule's of what is passed, and so is all that is left in lent memory. What more is
-- promised of a function follows from this.
use Rattle.std.specs.Prelude.{◌≡◌}
use seplogic.Ra.Ura.{Ura}
use base.Logic.{SProp, id⊢}
use prog.Memory.{Memory}
use prog.Routine.{Routine}
use types.Logic.{Logic}
use contract.Monad.{Fun}
use denote.Triple.Clauses.{Clauses}
use Rattle.rules.specs.Calendar.{day_of, date_of}
use Rattle.rules.specs.Dates as dates
use Rattle.rules.specs.Utc.{utc_of_tt}
use Rattle.rules.specs.Precession.{precession_at, obliquity_at}
use Rattle.rules.specs.Arguments.{arguments_at}
use Rattle.rules.specs.Nutation.{nutation_at}
use Rattle.rules.specs.Sun.{sun_longitude_at, perihelion_at}
use Rattle.rules.specs.Sidereal.{sidereal_at}
use Rattle.rules.specs.Circle as circle
use Rattle.rules.specs.Reading as readings
use Rattle.rules.specs.Turning.{turned}
use Rattle.rules.specs.Night.{night_of}
use Rattle.rules.specs.Place as places
use Rattle.rules.specs.Weather.{taken_from}
use Rattle.rules.specs.Refraction.{observed_altitude}
use Rattle.rules.specs.ListReading.{list_count, list_star, list_read, entries_after_read}
use Rattle.rules.specs.ListWriting.{list_written, room_after_write, numbers_written, room_after_numbers}
use Rattle.rules.specs.NightList.{night_list, entries_after_night}
use Rattle.promises.specs.OfContracts.{Tells}
use Rattle.calendar.specs.contracts.day_of as day_of_lem
use Rattle.calendar.specs.contracts.date_of as date_of_lem
use Rattle.instants.specs.contracts.instants as instants
use Rattle.utc.specs.contracts.utc_of_tt as utc_of_tt_lem
use Rattle.precession.specs.contracts.precession as precession
use Rattle.precession.specs.contracts.obliquity as obliquity
use Rattle.arguments.specs.contracts.arguments as arguments
use Rattle.nutation.specs.contracts.nutation as nutation
use Rattle.sun.specs.contracts.sun_longitude as sun_longitude_lem
use Rattle.sun.specs.contracts.perihelion.perihelion as perihelion
use Rattle.sidereal.specs.contracts.sidereal as sidereal
use Rattle.circle.specs.contracts.pair as pair
use Rattle.reading.specs.contracts.reading as reading
use Rattle.turning.specs.contracts.turn as turn
use Rattle.place.specs.contracts.place as place
use Rattle.night.specs.contracts.night_of as night_of_lem
use Rattle.weather.specs.contracts.kept.take_from as take_from
use Rattle.refraction.specs.contracts.observed.observed_altitude as observed_altitude_lem
use Rattle.list_file.specs.contracts.list_count as list_count
use Rattle.list_file.specs.contracts.list_star as list_star_lem
use Rattle.entries_read.specs.contracts.read_list as read_list
use Rattle.entries_write.specs.contracts.write_list as write_list
use Rattle.list_from_numbers.specs.contracts.list_write as list_write
use Rattle.night_list.specs.contracts.night_list as night_list_lem

module _ {M : Type 1} {𝓤 : Ura M} (𝓛 : Logic 𝓤) (mem : Memory → SProp 𝓤) (run : Routine → Fun 𝓤) where
  -- ---- dates and instants

  pub day_of_answers : Tells 𝓤 day_of_lem.ended (day_of_lem.clauses 𝓛 mem run)
      (λ κs passed a x. a ≡ day_of passed.0)
  day_of_answers κs passed g a x = id⊢ 𝓤 _

  pub date_of_answers : Tells 𝓤 date_of_lem.ended (date_of_lem.clauses 𝓛 mem run)
      (λ κs passed a x. a ≡ date_of passed.0)
  date_of_answers κs passed g a x = id⊢ 𝓤 _

  pub instants_answers : Tells 𝓤 instants.ended (instants.clauses 𝓛 mem run)
      (λ κs passed a x. a ≡ dates.instants passed.0)
  instants_answers κs passed g a x = id⊢ 𝓤 _

  pub utc_of_tt_answers : Tells 𝓤 utc_of_tt_lem.ended (utc_of_tt_lem.clauses 𝓛 mem run)
      (λ κs passed a x. a ≡ utc_of_tt passed.0)
  utc_of_tt_answers κs passed g a x = id⊢ 𝓤 _

  -- ---- angles at an instant

  pub precession_answers : Tells 𝓤 precession.ended (precession.clauses 𝓛 mem run)
      (λ κs passed a x. a ≡ precession_at passed.0)
  precession_answers κs passed g a x = id⊢ 𝓤 _

  pub obliquity_answers : Tells 𝓤 obliquity.ended (obliquity.clauses 𝓛 mem run)
      (λ κs passed a x. a ≡ obliquity_at passed.0)
  obliquity_answers κs passed g a x = id⊢ 𝓤 _

  pub arguments_answers : Tells 𝓤 arguments.ended (arguments.clauses 𝓛 mem run)
      (λ κs passed a x. a ≡ arguments_at passed.0)
  arguments_answers κs passed g a x = id⊢ 𝓤 _

  pub nutation_answers : Tells 𝓤 nutation.ended (nutation.clauses 𝓛 mem run)
      (λ κs passed a x. a ≡ nutation_at passed.0)
  nutation_answers κs passed g a x = id⊢ 𝓤 _

  pub sun_longitude_answers : Tells 𝓤 sun_longitude_lem.ended (sun_longitude_lem.clauses 𝓛 mem run)
      (λ κs passed a x. a ≡ sun_longitude_at passed.0)
  sun_longitude_answers κs passed g a x = id⊢ 𝓤 _

  pub perihelion_answers : Tells 𝓤 perihelion.ended (perihelion.clauses 𝓛 mem run)
      (λ κs passed a x. a ≡ perihelion_at passed.0)
  perihelion_answers κs passed g a x = id⊢ 𝓤 _

  pub sidereal_answers : Tells 𝓤 sidereal.ended (sidereal.clauses 𝓛 mem run)
      (λ κs passed a x. a ≡ sidereal_at passed.0)
  sidereal_answers κs passed g a x = id⊢ 𝓤 _

  -- ---- the circle

  pub pair_answers : Tells 𝓤 pair.ended (pair.clauses 𝓛 mem run)
      (λ κs passed a x. a ≡ circle.pair passed.0)
  pair_answers κs passed g a x = id⊢ 𝓤 _

  -- h, v
  pub reading_answers : Tells 𝓤 reading.ended (reading.clauses 𝓛 mem run)
      (λ κs passed a x. a ≡ readings.reading passed.0 passed.1.0)
  reading_answers κs passed g a x = id⊢ 𝓤 _

  -- ---- turns and places

  -- of which demand 3 speaks
  abbrev pub turn_contract : Clauses 𝓤 turn.ended
  turn_contract = turn.clauses 𝓛 mem run

  -- the direction, axis, angle
  pub turn_answers : Tells 𝓤 turn.ended turn_contract
      (λ κs passed a x. a ≡ turned passed.1.0 passed.1.1.0 passed.0)
  turn_answers κs passed g a x = id⊢ 𝓤 _

  -- moment, star, site
  pub place_answers : Tells 𝓤 place.ended (place.clauses 𝓛 mem run)
      (λ κs passed a x. a ≡ places.place passed.0 passed.1.0 passed.1.1.0)
  place_answers κs passed g a x = id⊢ 𝓤 _

  pub night_of_answers : Tells 𝓤 night_of_lem.ended (night_of_lem.clauses 𝓛 mem run)
      (λ κs passed a x. a ≡ night_of passed.0 passed.1.0)
  night_of_answers κs passed g a x = id⊢ 𝓤 _

  -- ---- the weather

  -- record, reading
  pub take_from_answers : Tells 𝓤 take_from.ended (take_from.clauses 𝓛 mem run)
      (λ κs passed a x. a ≡ taken_from passed.0 passed.1.0)
  take_from_answers κs passed g a x = id⊢ 𝓤 _

  -- altitude, record
  pub observed_altitude_answers : Tells 𝓤 observed_altitude_lem.ended (observed_altitude_lem.clauses 𝓛 mem run)
      (λ κs passed a x. a ≡ observed_altitude passed.1.0 passed.0)
  observed_altitude_answers κs passed g a x = id⊢ 𝓤 _

  -- ---- the list file

  pub list_count_answers : Tells 𝓤 list_count.ended (list_count.clauses 𝓛 mem run)
      (λ κs passed a x. a ≡ list_count passed.0.now)
  list_count_answers κs passed g a x = id⊢ 𝓤 _

  -- file, index
  pub list_star_answers : Tells 𝓤 list_star_lem.ended (list_star_lem.clauses 𝓛 mem run)
      (λ κs passed a x. a ≡ list_star passed.0.now passed.1.0)
  list_star_answers κs passed g a x = id⊢ 𝓤 _

  -- numbers, room
  pub list_write_answers : Tells 𝓤 list_write.ended (list_write.clauses 𝓛 mem run)
      (λ κs passed a x. (a ≡ numbers_written passed.0.now passed.1.0.now)
      × (x.1.0.now ≡ room_after_numbers passed.0.now passed.1.0.now))
  list_write_answers κs passed g a x = id⊢ 𝓤 _

  -- ---- entries

  -- file, entries
  pub read_list_answers : Tells 𝓤 read_list.ended (read_list.clauses 𝓛 mem run)
      (λ κs passed a x. (a ≡ list_read passed.0.now passed.1.0.now)
      × (x.1.0.now ≡ entries_after_read passed.0.now passed.1.0.now))
  read_list_answers κs passed g a x = id⊢ 𝓤 _

  -- entries, room
  pub write_list_answers : Tells 𝓤 write_list.ended (write_list.clauses 𝓛 mem run)
      (λ κs passed a x. (a ≡ list_written passed.0.now passed.1.0.now)
      × (x.1.0.now ≡ room_after_write passed.0.now passed.1.0.now))
  write_list_answers κs passed g a x = id⊢ 𝓤 _

  -- moment, site, entries
  pub night_list_answers : Tells 𝓤 night_list_lem.ended (night_list_lem.clauses 𝓛 mem run)
      (λ κs passed a x. (a ≡ night_list passed.0 passed.1.0 passed.1.1.0.now)
      × (x.1.1.0.now ≡ entries_after_night passed.0 passed.1.0 passed.1.1.0.now))
  night_list_answers κs passed g a x = id⊢ 𝓤 _
