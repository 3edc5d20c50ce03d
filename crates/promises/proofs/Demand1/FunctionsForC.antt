-- Demand 1 of what C calls, of the functions themselves: what the contract of each tells of whatever is passed. Its
-- struct is a refusal's number and noughts exactly when that refusal is the first of the checks that is given, and then
-- lent memory is as it was. `turbelicus_reading` refuses nothing.
use seplogic.Ra.Ura.{Ura}
use base.Logic.{SProp, id⊢}
use prog.Memory.{Memory}
use prog.Routine.{Routine}
use types.Logic.{Logic}
use contract.Monad.{Fun}
use Rattle.stars.specs.Numbers.{star_of}
use Rattle.answers.specs.Given.{moment_of, site_of, weather_of}
use Rattle.promises.specs.OfContracts.{Tells, so_told}
use Rattle.promises.specs.Demand1.Checks.{observed_checks}
use Rattle.promises.specs.Demand1.Checks.{place_checks, file_checks}
use Rattle.promises.specs.Demand1.InOrder.{Refuses}
use Rattle.promises.specs.Demand1.Boundary as boundary
use Rattle.promises.proofs.Demand1.Boundary as boundary_proved
use Rattle.promises.specs.Demand1.WeatherBoundary as of_weather
use Rattle.promises.proofs.Demand1.WeatherBoundary as of_weather_proved
use Rattle.module.specs.contracts.places.turbelicus_place as turbelicus_place
use Rattle.module.specs.contracts.observed.turbelicus_observed_place as turbelicus_observed_place
use Rattle.module.specs.contracts.lists.turbelicus_list_count as turbelicus_list_count

module _ {M : Type 1} {𝓤 : Ura M} (𝓛 : Logic 𝓤) (mem : Memory → SProp 𝓤) (run : Routine → Fun 𝓤) where
  -- year, month, day; hour, minute, second, ms, UT1−UTC; latitude, longitude; the star's four numbers
  pub turbelicus_place_tells : Tells 𝓤 turbelicus_place.ended (turbelicus_place.clauses 𝓛 mem run)
      (λ κs date a x.
      let time = date.1.1.1 in
      let site = time.1.1.1.1.1 in
      let star = site.1.1 in
      Refuses a boundary.place_refused (place_checks
      (moment_of date.0 date.1.0 date.1.1.0
      time.0 time.1.0 time.1.1.0 time.1.1.1.0 time.1.1.1.1.0)
      (star_of star.0 star.1.0 star.1.1.0 star.1.1.1.0)
      (site_of site.0 site.1.0)))
  turbelicus_place_tells κs passed g a x =
      so_told 𝓤 (id⊢ 𝓤 _)
      (λ e r. rw e (boundary_proved.turbelicus_place_refused _ _ _ r))

  -- as `turbelicus_place`; the record's four numbers
  pub turbelicus_observed_place_tells : Tells 𝓤 turbelicus_observed_place.ended
      (turbelicus_observed_place.clauses 𝓛 mem run)
      (λ κs date a x.
      let time = date.1.1.1 in
      let site = time.1.1.1.1.1 in
      let star = site.1.1 in
      let kept = star.1.1.1.1 in
      Refuses a of_weather.observed_refused (observed_checks
      (moment_of date.0 date.1.0 date.1.1.0
      time.0 time.1.0 time.1.1.0 time.1.1.1.0 time.1.1.1.1.0)
      (star_of star.0 star.1.0 star.1.1.0 star.1.1.1.0)
      (site_of site.0 site.1.0)
      (weather_of kept.0 kept.1.0 kept.1.1.0 kept.1.1.1.0)))
  turbelicus_observed_place_tells κs passed g a x =
      so_told 𝓤 (id⊢ 𝓤 _)
      (λ e r. rw e (of_weather_proved.turbelicus_observed_place_refused _ _ _ _ r))

  pub turbelicus_list_count_tells : Tells 𝓤 turbelicus_list_count.ended
      (turbelicus_list_count.clauses 𝓛 mem run)
      (λ κs passed a x. Refuses a boundary.count_refused (file_checks passed.0.now))
  turbelicus_list_count_tells κs passed g a x =
      so_told 𝓤 (id⊢ 𝓤 _)
      (λ e r. rw e (boundary_proved.turbelicus_list_count_refused passed.0.now r))
