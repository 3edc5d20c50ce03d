-- Refusal 13 of what C calls: by the contract of each function, whatever is passed, the number that C gets is not 13.
-- `turbelicus_reading` refuses nothing and has no such number.
use Rattle.std.specs.Prelude.{◌≡◌, pos, Result, Ok, Err}
use Rattle.std.proofs.Math.Path.{refl}
use Rattle.std.proofs.Common.{sym, ap, ◌∙◌, arith}
use seplogic.Ra.Ura.{Ura}
use base.Logic.{SProp}
use prog.Memory.{Memory}
use prog.Routine.{Routine}
use types.Logic.{Logic}
use contract.Monad.{Fun, fact_mono}
use Rattle.std.proofs.Math.IntN.{nat_abs}
use Rattle.rules.specs.Refusals.{number}
use Rattle.rules.specs.Answers.{weathered_number}
use Rattle.answers.specs.Answers.{record_out, weathered_out, altitude_out}
use Rattle.answers.specs.Answers.{turned_out, counted_out, starred_out, written_out}
use Rattle.promises.specs.OfContracts.{Tells}
use Rattle.promises.specs.Demand1.Turns.{turn_answer}
use Rattle.promises.specs.Demand1.Weather.{altitude_answer}
use Rattle.promises.specs.Demand1.Lists.{count_answer, star_answer}
use Rattle.promises.specs.Demand1.Writing.{row_answer}
use Rattle.promises.specs.Demand1.Thirteen.{number_not_13}
use Rattle.module.specs.contracts.turns.turbelicus_turn as turbelicus_turn
use Rattle.module.specs.contracts.probe.turbelicus_weather as turbelicus_weather
use Rattle.module.specs.contracts.probe.turbelicus_observed_altitude as turbelicus_observed_altitude
use Rattle.module.specs.contracts.lists.turbelicus_list_count as turbelicus_list_count
use Rattle.module.specs.contracts.lists.turbelicus_list_star as turbelicus_list_star
use Rattle.module.specs.contracts.lists.turbelicus_list_write as turbelicus_list_write
use Rattle.rules.specs.declared.Weather.{Weather}

-- a weather record has 0 or 14
weathered_not_13 : (a : Result Weather Weather) → weathered_number a ≡ 13 → ⊥
unfolding weathered_number number
weathered_not_13 (Ok w) e = omega arith
weathered_not_13 (Err w) e = omega arith

module _ {M : Type 1} {𝓤 : Ura M} (𝓛 : Logic 𝓤) (mem : Memory → SProp 𝓤) (run : Routine → Fun 𝓤) where
  pub turbelicus_turn_not_13 : Tells 𝓤 turbelicus_turn.ended (turbelicus_turn.clauses 𝓛 mem run)
      (λ κs passed a x. a.refused ≡ pos 13 → ⊥)
  unfolding number turned_out
  turbelicus_turn_not_13 κs passed g a x = fact_mono 𝓤 _ _ (λ e h.
      number_not_13 _ _ 3 _ (turn_answer _ _ _) refl (ap nat_abs (sym (ap (λ s. s.refused) e) ∙ h)))

  pub turbelicus_weather_not_13 : Tells 𝓤 turbelicus_weather.ended (turbelicus_weather.clauses 𝓛 mem run)
      (λ κs passed a x. a.refused ≡ pos 13 → ⊥)
  unfolding weathered_out record_out
  turbelicus_weather_not_13 κs passed g a x = fact_mono 𝓤 _ _ (λ e h.
      weathered_not_13 _ (ap nat_abs (sym (ap (λ s. s.refused) e) ∙ h)))

  pub turbelicus_observed_altitude_not_13 : Tells 𝓤 turbelicus_observed_altitude.ended
      (turbelicus_observed_altitude.clauses 𝓛 mem run) (λ κs passed a x. a.refused ≡ pos 13 → ⊥)
  unfolding number altitude_out
  turbelicus_observed_altitude_not_13 κs passed g a x = fact_mono 𝓤 _ _ (λ e h.
      number_not_13 _ _ 1 _ (altitude_answer _ _) refl (ap nat_abs (sym (ap (λ s. s.refused) e) ∙ h)))

  pub turbelicus_list_count_not_13 : Tells 𝓤 turbelicus_list_count.ended
      (turbelicus_list_count.clauses 𝓛 mem run) (λ κs passed a x. a.refused ≡ pos 13 → ⊥)
  unfolding number counted_out
  turbelicus_list_count_not_13 κs passed g a x = fact_mono 𝓤 _ _ (λ e h.
      number_not_13 _ _ 1 _ (count_answer _) refl (ap nat_abs (sym (ap (λ s. s.refused) e) ∙ h)))

  pub turbelicus_list_star_not_13 : Tells 𝓤 turbelicus_list_star.ended (turbelicus_list_star.clauses 𝓛 mem run)
      (λ κs passed a x. a.refused ≡ pos 13 → ⊥)
  unfolding number starred_out
  turbelicus_list_star_not_13 κs passed g a x = fact_mono 𝓤 _ _ (λ e h.
      number_not_13 _ _ 4 _ (star_answer _ _) refl (ap nat_abs (sym (ap (λ s. s.refused) e) ∙ h)))

  pub turbelicus_list_write_not_13 : Tells 𝓤 turbelicus_list_write.ended
      (turbelicus_list_write.clauses 𝓛 mem run) (λ κs passed a x. a.refused ≡ pos 13 → ⊥)
  unfolding number written_out
  turbelicus_list_write_not_13 κs passed g a x = fact_mono 𝓤 _ _ (λ e h.
      number_not_13 _ _ 1 _ (row_answer _ _) refl (ap nat_abs (sym (ap (λ s. s.refused) e.0) ∙ h)))
