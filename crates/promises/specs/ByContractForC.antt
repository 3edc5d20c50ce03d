-- Every answer that C gets, of the functions themselves: whatever is passed, the contract of each tells that its struct
-- has the number and the values of the rule's answer, and that lent memory holds what the rule leaves there.
use Rattle.std.specs.Prelude.{◌≡◌}
use seplogic.Ra.Ura.{Ura}
use base.Logic.{SProp, id⊢}
use prog.Memory.{Memory}
use prog.Routine.{Routine}
use types.Logic.{Logic}
use contract.Monad.{Fun}
use denote.Triple.Clauses.{Clauses}
use Rattle.rules.specs.Answers.{placed_answer, angle_answer, observed_answer, turned_answer, listed_answer, listed_star_answer}
use Rattle.rules.specs.Answers.{clocked_answer, read_answer}
use Rattle.rules.specs.Utc.{utc_of_tt}
use Rattle.rules.specs.Turning.{turned}
use Rattle.rules.specs.Reading.{reading}
use Rattle.rules.specs.Place.{place}
use Rattle.rules.specs.Refraction.{observed_altitude, observed_place}
use Rattle.rules.specs.ListReading.{list_count, list_star}
use Rattle.rules.specs.ListWriting.{numbers_written, room_after_numbers}
use Rattle.stars.specs.Numbers.{star_of}
use Rattle.answers.specs.Given.{tt_of, moment_of, site_of, direction_of, weather_of, taken_by_kind}
use Rattle.answers.specs.Answers.{clocked_out, weathered_out, altitude_out, observed_out}
use Rattle.answers.specs.Answers.{placed_out, turned_out, read_out, counted_out, starred_out, written_out}
use Rattle.promises.specs.OfContracts.{Tells}
use Rattle.module.specs.contracts.clocks.turbelicus_utc as turbelicus_utc
use Rattle.module.specs.contracts.places.turbelicus_place as turbelicus_place
use Rattle.module.specs.contracts.turns.turbelicus_turn as turbelicus_turn
use Rattle.module.specs.contracts.turns.turbelicus_reading as turbelicus_reading
use Rattle.module.specs.contracts.probe.turbelicus_weather as turbelicus_weather
use Rattle.module.specs.contracts.probe.turbelicus_observed_altitude as turbelicus_observed_altitude
use Rattle.module.specs.contracts.observed.turbelicus_observed_place as turbelicus_observed_place
use Rattle.module.specs.contracts.lists.turbelicus_list_count as turbelicus_list_count
use Rattle.module.specs.contracts.lists.turbelicus_list_star as turbelicus_list_star
use Rattle.module.specs.contracts.lists.turbelicus_list_write as turbelicus_list_write

module _ {M : Type 1} {𝓤 : Ura M} (𝓛 : Logic 𝓤) (mem : Memory → SProp 𝓤) (run : Routine → Fun 𝓤) where
  -- TT
  pub turbelicus_utc_answers : Tells 𝓤 turbelicus_utc.ended (turbelicus_utc.clauses 𝓛 mem run)
      (λ κs passed a x. a ≡ clocked_out (clocked_answer (utc_of_tt (tt_of passed.0))))
  turbelicus_utc_answers κs passed g a x = id⊢ 𝓤 _

  -- year, month, day; hour, minute, second, ms, UT1−UTC; latitude, longitude; the star's four numbers
  pub turbelicus_place_answers : Tells 𝓤 turbelicus_place.ended (turbelicus_place.clauses 𝓛 mem run)
      (λ κs date a x.
      let time = date.1.1.1 in
      let site = time.1.1.1.1.1 in
      let star = site.1.1 in
      a ≡ placed_out (placed_answer (place
      (moment_of date.0 date.1.0 date.1.1.0
      time.0 time.1.0 time.1.1.0 time.1.1.1.0 time.1.1.1.1.0)
      (star_of star.0 star.1.0 star.1.1.0 star.1.1.1.0)
      (site_of site.0 site.1.0))))
  turbelicus_place_answers κs passed g a x = id⊢ 𝓤 _

  -- of which demand 3 speaks
  abbrev pub turbelicus_turn_contract : Clauses 𝓤 turbelicus_turn.ended
  turbelicus_turn_contract = turbelicus_turn.clauses 𝓛 mem run

  -- x, y, z, axis, angle
  pub turbelicus_turn_answers : Tells 𝓤 turbelicus_turn.ended turbelicus_turn_contract
      (λ κs passed a x. a ≡ turned_out (turned_answer (turned passed.1.1.1.0 passed.1.1.1.1.0
      (direction_of passed.0 passed.1.0 passed.1.1.0))))
  turbelicus_turn_answers κs passed g a x = id⊢ 𝓤 _

  -- h, v
  pub turbelicus_reading_answers : Tells 𝓤 turbelicus_reading.ended (turbelicus_reading.clauses 𝓛 mem run)
      (λ κs passed a x. a ≡ read_out (read_answer (reading passed.0 passed.1.0)))
  turbelicus_reading_answers κs passed g a x = id⊢ 𝓤 _

  -- the record's four numbers; kind, reading
  pub turbelicus_weather_answers : Tells 𝓤 turbelicus_weather.ended (turbelicus_weather.clauses 𝓛 mem run)
      (λ κs kept a x.
      let reading = kept.1.1.1.1 in
      a ≡ weathered_out (taken_by_kind (weather_of kept.0 kept.1.0 kept.1.1.0 kept.1.1.1.0)
      reading.0 reading.1.0))
  turbelicus_weather_answers κs passed g a x = id⊢ 𝓤 _

  -- altitude; the record's four numbers
  pub turbelicus_observed_altitude_answers : Tells 𝓤 turbelicus_observed_altitude.ended
      (turbelicus_observed_altitude.clauses 𝓛 mem run)
      (λ κs passed a x.
      let kept = passed.1 in
      a ≡ altitude_out (angle_answer (observed_altitude
      (weather_of kept.0 kept.1.0 kept.1.1.0 kept.1.1.1.0) passed.0)))
  turbelicus_observed_altitude_answers κs passed g a x = id⊢ 𝓤 _

  -- as `turbelicus_place`; the record's four numbers
  pub turbelicus_observed_place_answers : Tells 𝓤 turbelicus_observed_place.ended
      (turbelicus_observed_place.clauses 𝓛 mem run)
      (λ κs date a x.
      let time = date.1.1.1 in
      let site = time.1.1.1.1.1 in
      let star = site.1.1 in
      let kept = star.1.1.1.1 in
      a ≡ observed_out (observed_answer (observed_place
      (moment_of date.0 date.1.0 date.1.1.0
      time.0 time.1.0 time.1.1.0 time.1.1.1.0 time.1.1.1.1.0)
      (star_of star.0 star.1.0 star.1.1.0 star.1.1.1.0)
      (site_of site.0 site.1.0)
      (weather_of kept.0 kept.1.0 kept.1.1.0 kept.1.1.1.0))))
  turbelicus_observed_place_answers κs passed g a x = id⊢ 𝓤 _

  pub turbelicus_list_count_answers : Tells 𝓤 turbelicus_list_count.ended
      (turbelicus_list_count.clauses 𝓛 mem run)
      (λ κs passed a x. a ≡ counted_out (listed_answer (list_count passed.0.now)))
  turbelicus_list_count_answers κs passed g a x = id⊢ 𝓤 _

  -- file, index
  pub turbelicus_list_star_answers : Tells 𝓤 turbelicus_list_star.ended (turbelicus_list_star.clauses 𝓛 mem run)
      (λ κs passed a x. a ≡ starred_out (listed_star_answer (list_star passed.0.now passed.1.0)))
  turbelicus_list_star_answers κs passed g a x = id⊢ 𝓤 _

  -- numbers, room
  pub turbelicus_list_write_answers : Tells 𝓤 turbelicus_list_write.ended
      (turbelicus_list_write.clauses 𝓛 mem run)
      (λ κs passed a x. (a ≡ written_out (listed_answer (numbers_written passed.0.now passed.1.0.now)))
      × (x.1.0.now ≡ room_after_numbers passed.0.now passed.1.0.now))
  turbelicus_list_write_answers κs passed g a x = id⊢ 𝓤 _
