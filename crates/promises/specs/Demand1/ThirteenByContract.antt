-- Refusal 13 of the functions themselves: by the contract of each entry point of the library, whatever is passed, its
-- answer is not refusal 13. `ThirteenForC` says so of what C calls.
use Rattle.std.proofs.Math.Path.{refl}
use seplogic.Ra.Ura.{Ura}
use base.Logic.{SProp}
use prog.Memory.{Memory}
use prog.Routine.{Routine}
use types.Logic.{Logic}
use contract.Monad.{Fun}
use Rattle.rules.specs.declared.Instants.{Instants}
use Rattle.rules.specs.Refusals.{number}
use Rattle.promises.specs.OfContracts.{Tells, so_told}
use Rattle.promises.specs.Demand1.Checks as checks
use Rattle.promises.specs.Demand1.Thirteen.{Never13, never_13}
use Rattle.promises.specs.Demand1.Functions as told
use Rattle.calendar.specs.contracts.day_of as day_of_lem
use Rattle.calendar.specs.contracts.date_of as date_of_lem
use Rattle.instants.specs.contracts.instants as instants
use Rattle.precession.specs.contracts.precession as precession
use Rattle.precession.specs.contracts.obliquity as obliquity
use Rattle.arguments.specs.contracts.arguments as arguments
use Rattle.nutation.specs.contracts.nutation as nutation
use Rattle.sun.specs.contracts.sun_longitude as sun_longitude_lem
use Rattle.sun.specs.contracts.perihelion.perihelion as perihelion
use Rattle.sidereal.specs.contracts.sidereal as sidereal
use Rattle.turning.specs.contracts.turn as turn
use Rattle.night.specs.contracts.night_of as night_of_lem
use Rattle.refraction.specs.contracts.observed.observed_altitude as observed_altitude_lem
use Rattle.list_file.specs.contracts.list_count as list_count
use Rattle.list_file.specs.contracts.list_star as list_star_lem
use Rattle.entries_read.specs.contracts.read_list as read_list
use Rattle.entries_write.specs.contracts.write_list as write_list
use Rattle.list_from_numbers.specs.contracts.list_write as list_write
use Rattle.std.specs.Prelude.{Err}

module _ {M : Type 1} {𝓤 : Ura M} (𝓛 : Logic 𝓤) (mem : Memory → SProp 𝓤) (run : Routine → Fun 𝓤) where
  -- ---- dates and instants

  pub day_of_not_13 : Tells 𝓤 day_of_lem.ended (day_of_lem.clauses 𝓛 mem run)
      (λ κs passed a x. Never13 a Err)
  unfolding number
  day_of_not_13 κs passed g a x = so_told 𝓤 (told.day_of_tells 𝓛 mem run κs passed g a x)
      (never_13 a Err (checks.day_checks passed.0) refl)

  pub date_of_not_13 : Tells 𝓤 date_of_lem.ended (date_of_lem.clauses 𝓛 mem run)
      (λ κs passed a x. Never13 a Err)
  unfolding number
  date_of_not_13 κs passed g a x = so_told 𝓤 (told.date_of_tells 𝓛 mem run κs passed g a x)
      (never_13 a Err (checks.number_checks passed.0) refl)

  pub instants_not_13 : Tells 𝓤 instants.ended (instants.clauses 𝓛 mem run)
      (λ κs passed a x. Never13 a Err)
  unfolding number
  instants_not_13 κs passed g a x = so_told 𝓤 (told.instants_tells 𝓛 mem run κs passed g a x)
      (never_13 a Err (checks.date_checks passed.0) refl)

  -- ---- angles at an instant

  pub precession_not_13 : Tells 𝓤 precession.ended (precession.clauses 𝓛 mem run)
      (λ κs passed a x. Never13 a Err)
  unfolding number
  precession_not_13 κs passed g a x = so_told 𝓤 (told.precession_tells 𝓛 mem run κs passed g a x)
      (never_13 a Err (checks.instant_checks passed.0.0) refl)

  pub obliquity_not_13 : Tells 𝓤 obliquity.ended (obliquity.clauses 𝓛 mem run)
      (λ κs passed a x. Never13 a Err)
  unfolding number
  obliquity_not_13 κs passed g a x = so_told 𝓤 (told.obliquity_tells 𝓛 mem run κs passed g a x)
      (never_13 a Err (checks.instant_checks passed.0.0) refl)

  pub arguments_not_13 : Tells 𝓤 arguments.ended (arguments.clauses 𝓛 mem run)
      (λ κs passed a x. Never13 a Err)
  unfolding number
  arguments_not_13 κs passed g a x = so_told 𝓤 (told.arguments_tells 𝓛 mem run κs passed g a x)
      (never_13 a Err (checks.instant_checks passed.0.0) refl)

  pub nutation_not_13 : Tells 𝓤 nutation.ended (nutation.clauses 𝓛 mem run)
      (λ κs passed a x. Never13 a Err)
  unfolding number
  nutation_not_13 κs passed g a x = so_told 𝓤 (told.nutation_tells 𝓛 mem run κs passed g a x)
      (never_13 a Err (checks.instant_checks passed.0.0) refl)

  pub sun_longitude_not_13 : Tells 𝓤 sun_longitude_lem.ended (sun_longitude_lem.clauses 𝓛 mem run)
      (λ κs passed a x. Never13 a Err)
  unfolding number
  sun_longitude_not_13 κs passed g a x = so_told 𝓤 (told.sun_longitude_tells 𝓛 mem run κs passed g a x)
      (never_13 a Err (checks.instant_checks passed.0.0) refl)

  pub perihelion_not_13 : Tells 𝓤 perihelion.ended (perihelion.clauses 𝓛 mem run)
      (λ κs passed a x. Never13 a Err)
  unfolding number
  perihelion_not_13 κs passed g a x = so_told 𝓤 (told.perihelion_tells 𝓛 mem run κs passed g a x)
      (never_13 a Err (checks.instant_checks passed.0.0) refl)

  pub sidereal_not_13 : Tells 𝓤 sidereal.ended (sidereal.clauses 𝓛 mem run)
      (λ κs passed a x. Never13 a Err)
  unfolding number
  sidereal_not_13 κs passed g a x = so_told 𝓤 (told.sidereal_tells 𝓛 mem run κs passed g a x)
      (never_13 a Err (checks.instant_checks passed.0.0) refl)

  -- ---- turns and places

  pub turn_not_13 : Tells 𝓤 turn.ended (turn.clauses 𝓛 mem run)
      (λ κs passed a x. Never13 a Err)
  unfolding number
  turn_not_13 κs passed g a x = so_told 𝓤 (told.turn_tells 𝓛 mem run κs passed g a x)
      (never_13 a Err
      (checks.turn_checks passed.1.0 passed.1.1.0 passed.0) refl)

  pub night_of_not_13 : Tells 𝓤 night_of_lem.ended (night_of_lem.clauses 𝓛 mem run)
      (λ κs passed a x. Never13 a Err)
  unfolding number
  night_of_not_13 κs passed g a x = so_told 𝓤 (told.night_of_tells 𝓛 mem run κs passed g a x)
      (never_13 a Err (checks.night_checks passed.0 passed.1.0) refl)

  -- ---- the weather; `weather::kept::take_from` has 14 alone

  pub observed_altitude_not_13 : Tells 𝓤 observed_altitude_lem.ended (observed_altitude_lem.clauses 𝓛 mem run)
      (λ κs passed a x. Never13 a Err)
  unfolding number
  observed_altitude_not_13 κs passed g a x = so_told 𝓤 (told.observed_altitude_tells 𝓛 mem run κs passed g a x)
      (never_13 a Err (checks.record_checks passed.1.0) refl)

  -- ---- lists

  pub list_count_not_13 : Tells 𝓤 list_count.ended (list_count.clauses 𝓛 mem run)
      (λ κs passed a x. Never13 a Err)
  unfolding number
  list_count_not_13 κs passed g a x = so_told 𝓤 (told.list_count_tells 𝓛 mem run κs passed g a x)
      (never_13 a Err (checks.file_checks passed.0.now) refl)

  pub list_star_not_13 : Tells 𝓤 list_star_lem.ended (list_star_lem.clauses 𝓛 mem run)
      (λ κs passed a x. Never13 a Err)
  unfolding number
  list_star_not_13 κs passed g a x = so_told 𝓤 (told.list_star_tells 𝓛 mem run κs passed g a x)
      (never_13 a Err (checks.star_checks passed.0.now passed.1.0) refl)

  pub read_list_not_13 : Tells 𝓤 read_list.ended (read_list.clauses 𝓛 mem run)
      (λ κs passed a x. Never13 a Err)
  unfolding number
  read_list_not_13 κs passed g a x = so_told 𝓤 (told.read_list_tells 𝓛 mem run κs passed g a x)
      (λ h. never_13 a Err
      (checks.read_checks passed.0.now passed.1.0.now) refl h.0)

  pub write_list_not_13 : Tells 𝓤 write_list.ended (write_list.clauses 𝓛 mem run)
      (λ κs passed a x. Never13 a Err)
  unfolding number
  write_list_not_13 κs passed g a x = so_told 𝓤 (told.write_list_tells 𝓛 mem run κs passed g a x)
      (λ h. never_13 a Err
      (checks.write_checks passed.0.now passed.1.0.now) refl h.0)

  pub list_write_not_13 : Tells 𝓤 list_write.ended (list_write.clauses 𝓛 mem run)
      (λ κs passed a x. Never13 a Err)
  unfolding number
  list_write_not_13 κs passed g a x = so_told 𝓤 (told.list_write_tells 𝓛 mem run κs passed g a x)
      (λ h. never_13 a Err
      (checks.row_checks passed.0.now passed.1.0.now) refl h.0)
