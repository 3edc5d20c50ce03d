-- No second answer fits: the functions of crate `module`. Written by tools/only_one.py.
use seplogic.Ra.Ura.{Ura}
use base.Logic.{SProp}
use prog.Memory.{Memory}
use prog.Routine.{Routine}
use types.Logic.{Logic}
use contract.Monad.{Fun}
use Rattle.promises.specs.OfContracts.{OneAnswer, OneAnswerAndContent, one, one_both}
use Rattle.module.specs.contracts.clocks.turbelicus_utc as turbelicus_utc
use Rattle.module.specs.contracts.lists.turbelicus_list_count as turbelicus_list_count
use Rattle.module.specs.contracts.lists.turbelicus_list_star as turbelicus_list_star
use Rattle.module.specs.contracts.lists.turbelicus_list_write as turbelicus_list_write
use Rattle.module.specs.contracts.observed.turbelicus_observed_place as turbelicus_observed_place
use Rattle.module.specs.contracts.places.turbelicus_place as turbelicus_place
use Rattle.module.specs.contracts.probe.turbelicus_weather as turbelicus_weather
use Rattle.module.specs.contracts.probe.turbelicus_observed_altitude as turbelicus_observed_altitude
use Rattle.module.specs.contracts.turns.turbelicus_turn as turbelicus_turn
use Rattle.module.specs.contracts.turns.turbelicus_reading as turbelicus_reading

module _ {M : Type 1} {𝓤 : Ura M} (𝓛 : Logic 𝓤) (mem : Memory → SProp 𝓤) (run : Routine → Fun 𝓤) where
  pub turbelicus_utc_one : OneAnswer 𝓤 turbelicus_utc.ended (turbelicus_utc.clauses 𝓛 mem run)
  turbelicus_utc_one κs passed g r s x y = one 𝓤 r s _

  pub turbelicus_list_count_one : OneAnswer 𝓤 turbelicus_list_count.ended (turbelicus_list_count.clauses 𝓛 mem run)
  turbelicus_list_count_one κs passed g r s x y = one 𝓤 r s _

  pub turbelicus_list_star_one : OneAnswer 𝓤 turbelicus_list_star.ended (turbelicus_list_star.clauses 𝓛 mem run)
  turbelicus_list_star_one κs passed g r s x y = one 𝓤 r s _

  pub turbelicus_list_write_one : OneAnswerAndContent 𝓤 turbelicus_list_write.ended
      (turbelicus_list_write.clauses 𝓛 mem run)
      (λ κs x. x.1.0.now)
  turbelicus_list_write_one κs passed g r s x y = one_both 𝓤 r s _ _ _ _

  pub turbelicus_observed_place_one : OneAnswer 𝓤 turbelicus_observed_place.ended
      (turbelicus_observed_place.clauses 𝓛 mem run)
  turbelicus_observed_place_one κs passed g r s x y = one 𝓤 r s _

  pub turbelicus_place_one : OneAnswer 𝓤 turbelicus_place.ended (turbelicus_place.clauses 𝓛 mem run)
  turbelicus_place_one κs passed g r s x y = one 𝓤 r s _

  pub turbelicus_weather_one : OneAnswer 𝓤 turbelicus_weather.ended (turbelicus_weather.clauses 𝓛 mem run)
  turbelicus_weather_one κs passed g r s x y = one 𝓤 r s _

  pub turbelicus_observed_altitude_one : OneAnswer 𝓤 turbelicus_observed_altitude.ended
      (turbelicus_observed_altitude.clauses 𝓛 mem run)
  turbelicus_observed_altitude_one κs passed g r s x y = one 𝓤 r s _

  pub turbelicus_turn_one : OneAnswer 𝓤 turbelicus_turn.ended (turbelicus_turn.clauses 𝓛 mem run)
  turbelicus_turn_one κs passed g r s x y = one 𝓤 r s _

  pub turbelicus_reading_one : OneAnswer 𝓤 turbelicus_reading.ended (turbelicus_reading.clauses 𝓛 mem run)
  turbelicus_reading_one κs passed g r s x y = one 𝓤 r s _
