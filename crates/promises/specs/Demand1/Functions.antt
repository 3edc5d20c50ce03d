-- Demand 1 of the functions themselves: what the contract of each entry point of the library tells of whatever is
-- passed.
-- It answers a refusal exactly when that is the first of its checks that is given, and then lent memory is as it was.
use Rattle.std.specs.Prelude.{◌≡◌, ◌↔◌, Err}
use Rattle.std.proofs.Common.{sym, ◌∙◌}
use seplogic.Ra.Ura.{Ura}
use base.Logic.{SProp, id⊢}
use prog.Memory.{Memory}
use prog.Routine.{Routine}
use types.Logic.{Logic}
use contract.Monad.{Fun}
use Rattle.rules.specs.declared.Instants.{Instants}
use Rattle.rules.specs.declared.Weather.{Weather}
use Rattle.rules.specs.declared.Refusal.{Refusal}
use Rattle.laws.specs.Checks.{FirstGiven}
use Rattle.promises.specs.OfContracts.{Tells, so_told}
use Rattle.promises.specs.Demand1.Checks as checks
use Rattle.promises.specs.Demand1.InOrder.{Refuses, Keeps, first_kept}
use Rattle.promises.specs.Demand1.Dates as dates
use Rattle.promises.specs.Demand1.Instants as instant
use Rattle.promises.specs.Demand1.Turns as turns
use Rattle.promises.specs.Demand1.Places as places
use Rattle.promises.specs.Demand1.Weather as weather
use Rattle.promises.specs.Demand1.Lists as lists
use Rattle.promises.specs.Demand1.Writing as writing
use Rattle.calendar.specs.contracts.day_of as day_of_lem
use Rattle.calendar.specs.contracts.date_of as date_of_lem
use Rattle.instants.specs.contracts.instants as instants
use Rattle.precession.specs.contracts.precession as precession
use Rattle.precession.specs.contracts.obliquity as obliquity
use Rattle.arguments.specs.contracts.arguments as arguments
use Rattle.nutation.specs.contracts.nutation as nutation
use Rattle.sun.specs.contracts.sun_longitude as sun_longitude_lem
use Rattle.sun.specs.contracts.perihelion.perihelion as perihelion
use Rattle.sidereal.specs.contracts.sidereal as sidereal
use Rattle.turning.specs.contracts.turn as turn
use Rattle.night.specs.contracts.night_of as night_of_lem
use Rattle.weather.specs.contracts.kept.take_from as take_from
use Rattle.refraction.specs.contracts.observed.observed_altitude as observed_altitude_lem
use Rattle.list_file.specs.contracts.list_count as list_count
use Rattle.list_file.specs.contracts.list_star as list_star_lem
use Rattle.entries_read.specs.contracts.read_list as read_list
use Rattle.entries_write.specs.contracts.write_list as write_list
use Rattle.list_from_numbers.specs.contracts.list_write as list_write

module _ {M : Type 1} {𝓤 : Ura M} (𝓛 : Logic 𝓤) (mem : Memory → SProp 𝓤) (run : Routine → Fun 𝓤) where
  -- ---- dates and instants

  pub day_of_tells : Tells 𝓤 day_of_lem.ended (day_of_lem.clauses 𝓛 mem run)
      (λ κs passed a x. Refuses a Err (checks.day_checks passed.0))
  day_of_tells κs passed g a x = so_told 𝓤 (id⊢ 𝓤 _)
      (λ e r. rw e (dates.day_refused_lem passed.0 r))

  pub date_of_tells : Tells 𝓤 date_of_lem.ended (date_of_lem.clauses 𝓛 mem run)
      (λ κs passed a x. Refuses a Err (checks.number_checks passed.0))
  date_of_tells κs passed g a x = so_told 𝓤 (id⊢ 𝓤 _)
      (λ e r. rw e (dates.date_refused passed.0 r))

  pub instants_tells : Tells 𝓤 instants.ended (instants.clauses 𝓛 mem run)
      (λ κs passed a x. Refuses a Err (checks.date_checks passed.0))
  instants_tells κs passed g a x = so_told 𝓤 (id⊢ 𝓤 _)
      (λ e r. rw e (dates.instants_refused passed.0 r))

  -- ---- angles at an instant

  pub precession_tells : Tells 𝓤 precession.ended (precession.clauses 𝓛 mem run)
      (λ κs passed a x. Refuses a Err (checks.instant_checks passed.0.0))
  precession_tells κs passed g a x = so_told 𝓤 (id⊢ 𝓤 _)
      (λ e r. rw e (instant.precession_refused passed.0 r))

  pub obliquity_tells : Tells 𝓤 obliquity.ended (obliquity.clauses 𝓛 mem run)
      (λ κs passed a x. Refuses a Err (checks.instant_checks passed.0.0))
  obliquity_tells κs passed g a x = so_told 𝓤 (id⊢ 𝓤 _)
      (λ e r. rw e (instant.obliquity_refused passed.0 r))

  pub arguments_tells : Tells 𝓤 arguments.ended (arguments.clauses 𝓛 mem run)
      (λ κs passed a x. Refuses a Err (checks.instant_checks passed.0.0))
  arguments_tells κs passed g a x = so_told 𝓤 (id⊢ 𝓤 _)
      (λ e r. rw e (instant.arguments_refused passed.0 r))

  pub nutation_tells : Tells 𝓤 nutation.ended (nutation.clauses 𝓛 mem run)
      (λ κs passed a x. Refuses a Err (checks.instant_checks passed.0.0))
  nutation_tells κs passed g a x = so_told 𝓤 (id⊢ 𝓤 _)
      (λ e r. rw e (instant.nutation_refused passed.0 r))

  pub sun_longitude_tells : Tells 𝓤 sun_longitude_lem.ended (sun_longitude_lem.clauses 𝓛 mem run)
      (λ κs passed a x. Refuses a Err (checks.instant_checks passed.0.0))
  sun_longitude_tells κs passed g a x = so_told 𝓤 (id⊢ 𝓤 _)
      (λ e r. rw e (instant.sun_refused passed.0 r))

  pub perihelion_tells : Tells 𝓤 perihelion.ended (perihelion.clauses 𝓛 mem run)
      (λ κs passed a x. Refuses a Err (checks.instant_checks passed.0.0))
  perihelion_tells κs passed g a x = so_told 𝓤 (id⊢ 𝓤 _)
      (λ e r. rw e (instant.perihelion_refused passed.0 r))

  pub sidereal_tells : Tells 𝓤 sidereal.ended (sidereal.clauses 𝓛 mem run)
      (λ κs passed a x. Refuses a Err (checks.instant_checks passed.0.0))
  sidereal_tells κs passed g a x = so_told 𝓤 (id⊢ 𝓤 _)
      (λ e r. rw e (instant.sidereal_refused passed.0 r))

  -- ---- turns and places

  pub turn_tells : Tells 𝓤 turn.ended (turn.clauses 𝓛 mem run)
      (λ κs passed a x. Refuses a Err (checks.turn_checks passed.1.0 passed.1.1.0 passed.0))
  turn_tells κs passed g a x = so_told 𝓤 (id⊢ 𝓤 _)
      (λ e r. rw e (turns.turn_refused_lem passed.1.0 passed.1.1.0 passed.0 r))

  pub night_of_tells : Tells 𝓤 night_of_lem.ended (night_of_lem.clauses 𝓛 mem run)
      (λ κs passed a x. Refuses a Err (checks.night_checks passed.0 passed.1.0))
  night_of_tells κs passed g a x = so_told 𝓤 (id⊢ 𝓤 _)
      (λ e r. rw e (places.night_refused passed.0 passed.1.0 r))

  -- ---- the weather

  -- 14 exactly when, and the record as it was
  pub take_from_tells : Tells 𝓤 take_from.ended (take_from.clauses 𝓛 mem run)
      (λ κs passed a x.
      ((a ≡ Err passed.0)
      ↔ FirstGiven (checks.reading_checks passed.0 passed.1.0) Refusal.Reading)
      × ((v : Weather) → a ≡ Err v → v ≡ passed.0))
  take_from_tells κs passed g a x = so_told 𝓤 (id⊢ 𝓤 _) (λ e. (
    rw e (weather.weather_refused_lem passed.0 passed.1.0),
    λ v f. weather.weather_stays passed.0 v passed.1.0 (sym e ∙ f),
  ))

  pub observed_altitude_tells : Tells 𝓤 observed_altitude_lem.ended (observed_altitude_lem.clauses 𝓛 mem run)
      (λ κs passed a x. Refuses a Err (checks.record_checks passed.1.0))
  observed_altitude_tells κs passed g a x =
      so_told 𝓤 (id⊢ 𝓤 _)
      (λ e r. rw e (weather.altitude_refused_lem passed.1.0 passed.0 r))

  -- ---- lists

  pub list_count_tells : Tells 𝓤 list_count.ended (list_count.clauses 𝓛 mem run)
      (λ κs passed a x. Refuses a Err (checks.file_checks passed.0.now))
  list_count_tells κs passed g a x = so_told 𝓤 (id⊢ 𝓤 _)
      (λ e r. rw e (lists.count_refused_lem passed.0.now r))

  pub list_star_tells : Tells 𝓤 list_star_lem.ended (list_star_lem.clauses 𝓛 mem run)
      (λ κs passed a x. Refuses a Err (checks.star_checks passed.0.now passed.1.0))
  list_star_tells κs passed g a x = so_told 𝓤 (id⊢ 𝓤 _)
      (λ e r. rw e (lists.star_refused_lem passed.0.now passed.1.0 r))

  pub read_list_tells : Tells 𝓤 read_list.ended (read_list.clauses 𝓛 mem run)
      (λ κs passed a x. Refuses a Err (checks.read_checks passed.0.now passed.1.0.now)
      × Keeps passed.1.0.now x.1.0.now (checks.read_checks passed.0.now passed.1.0.now))
  read_list_tells κs passed g a x = so_told 𝓤 (id⊢ 𝓤 _) (λ e. (
    λ r. rw e.0 (lists.read_refused passed.0.now passed.1.0.now r),
    λ r f. e.1 ∙ lists.read_kept passed.0.now passed.1.0.now r f,
  ))

  pub write_list_tells : Tells 𝓤 write_list.ended (write_list.clauses 𝓛 mem run)
      (λ κs passed a x. Refuses a Err (checks.write_checks passed.0.now passed.1.0.now)
      × Keeps passed.1.0.now x.1.0.now (checks.write_checks passed.0.now passed.1.0.now))
  write_list_tells κs passed g a x = so_told 𝓤 (id⊢ 𝓤 _) (λ e. (
    λ r. rw e.0 (writing.write_refused_lem passed.0.now passed.1.0.now r),
    λ r f. e.1 ∙ writing.write_kept passed.0.now passed.1.0.now r f,
  ))

  pub list_write_tells : Tells 𝓤 list_write.ended (list_write.clauses 𝓛 mem run)
      (λ κs passed a x. Refuses a Err (checks.row_checks passed.0.now passed.1.0.now)
      × Keeps passed.1.0.now x.1.0.now (checks.row_checks passed.0.now passed.1.0.now))
  list_write_tells κs passed g a x = so_told 𝓤 (id⊢ 𝓤 _) (λ e. (
    λ r. rw e.0 (writing.row_refused_lem passed.0.now passed.1.0.now r),
    λ r f. e.1 ∙ writing.row_content passed.0.now passed.1.0.now
        ∙ first_kept (checks.row_checks passed.0.now passed.1.0.now) passed.1.0.now _ r f,
  ))
