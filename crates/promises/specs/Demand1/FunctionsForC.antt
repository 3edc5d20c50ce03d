-- Demand 1 of what C calls, of the functions themselves: what the contract of each tells of whatever is passed. Its
-- struct is a refusal's number and noughts exactly when that refusal is the first of the checks that is given, and then
-- lent memory is as it was. `turbelicus_reading` refuses nothing.
use Rattle.std.specs.Prelude.{◌≡◌, ◌↔◌}
use Rattle.std.proofs.Common.{◌∙◌}
use seplogic.Ra.Ura.{Ura}
use base.Logic.{SProp, id⊢}
use prog.Memory.{Memory}
use prog.Routine.{Routine}
use types.Logic.{Logic}
use contract.Monad.{Fun}
use Rattle.rules.specs.declared.Refusal.{Refusal}
use Rattle.laws.specs.Checks.{FirstGiven}
use Rattle.answers.specs.Given.{direction_of, weather_of}
use Rattle.promises.specs.OfContracts.{Tells, so_told}
use Rattle.promises.specs.Demand1.Checks.{record_checks, kind_checks}
use Rattle.promises.specs.Demand1.Checks.{turn_checks, star_checks, row_checks}
use Rattle.promises.specs.Demand1.InOrder.{Refuses, Keeps, first_kept}
use Rattle.promises.specs.Demand1.Boundary as boundary
use Rattle.promises.specs.Demand1.WeatherBoundary as of_weather
use Rattle.promises.specs.Demand1.Writing.{row_content}
use Rattle.module.specs.contracts.turns.turbelicus_turn as turbelicus_turn
use Rattle.module.specs.contracts.probe.turbelicus_weather as turbelicus_weather
use Rattle.module.specs.contracts.probe.turbelicus_observed_altitude as turbelicus_observed_altitude
use Rattle.module.specs.contracts.lists.turbelicus_list_star as turbelicus_list_star
use Rattle.module.specs.contracts.lists.turbelicus_list_write as turbelicus_list_write

module _ {M : Type 1} {𝓤 : Ura M} (𝓛 : Logic 𝓤) (mem : Memory → SProp 𝓤) (run : Routine → Fun 𝓤) where
  -- x, y, z, axis, angle
  pub turbelicus_turn_tells : Tells 𝓤 turbelicus_turn.ended (turbelicus_turn.clauses 𝓛 mem run)
      (λ κs passed a x. Refuses a boundary.turn_refused (turn_checks passed.1.1.1.0 passed.1.1.1.1.0
      (direction_of passed.0 passed.1.0 passed.1.1.0)))
  turbelicus_turn_tells κs passed g a x =
      so_told 𝓤 (id⊢ 𝓤 _)
      (λ e r. rw e (boundary.turbelicus_turn_refused _ _ _ r))

  -- the record's four numbers; kind, reading: 14 and the record as it was exactly when
  pub turbelicus_weather_tells : Tells 𝓤 turbelicus_weather.ended (turbelicus_weather.clauses 𝓛 mem run)
      (λ κs kept a x.
      let reading = kept.1.1.1.1 in
      let w = weather_of kept.0 kept.1.0 kept.1.1.0 kept.1.1.1.0 in
      (a ≡ of_weather.weather_refused w) ↔ FirstGiven (kind_checks w reading.0 reading.1.0) Refusal.Reading)
  turbelicus_weather_tells κs passed g a x =
      so_told 𝓤 (id⊢ 𝓤 _)
      (λ e. rw e (of_weather.turbelicus_weather_refused _ _ _))

  -- altitude; the record's four numbers
  pub turbelicus_observed_altitude_tells : Tells 𝓤 turbelicus_observed_altitude.ended
      (turbelicus_observed_altitude.clauses 𝓛 mem run)
      (λ κs passed a x.
      let kept = passed.1 in
      Refuses a of_weather.altitude_refused
      (record_checks (weather_of kept.0 kept.1.0 kept.1.1.0 kept.1.1.1.0)))
  turbelicus_observed_altitude_tells κs passed g a x =
      so_told 𝓤 (id⊢ 𝓤 _)
      (λ e r. rw e (of_weather.turbelicus_observed_altitude_refused _ _ r))

  pub turbelicus_list_star_tells : Tells 𝓤 turbelicus_list_star.ended (turbelicus_list_star.clauses 𝓛 mem run)
      (λ κs passed a x. Refuses a boundary.star_refused (star_checks passed.0.now passed.1.0))
  turbelicus_list_star_tells κs passed g a x =
      so_told 𝓤 (id⊢ 𝓤 _)
      (λ e r. rw e (boundary.turbelicus_list_star_refused passed.0.now passed.1.0 r))

  pub turbelicus_list_write_tells : Tells 𝓤 turbelicus_list_write.ended
      (turbelicus_list_write.clauses 𝓛 mem run)
      (λ κs passed a x. Refuses a boundary.write_refused (row_checks passed.0.now passed.1.0.now)
      × Keeps passed.1.0.now x.1.0.now (row_checks passed.0.now passed.1.0.now))
  turbelicus_list_write_tells κs passed g a x =
      so_told 𝓤 (id⊢ 𝓤 _) (λ e. (
        λ r. rw e.0 (boundary.turbelicus_list_write_refused passed.0.now passed.1.0.now r),
        λ r f. e.1 ∙ row_content passed.0.now passed.1.0.now
            ∙ first_kept (row_checks passed.0.now passed.1.0.now) passed.1.0.now _ r f,
      ))
