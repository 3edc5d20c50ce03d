-- Refusal 13 of what C calls: by the contract of each function, whatever is passed, the number that C gets is not 13.
-- `turbelicus_reading` refuses nothing and has no such number.
use Rattle.std.specs.Prelude.{◌≡◌, pos}
use Rattle.std.proofs.Math.Path.{refl}
use Rattle.std.proofs.Common.{sym, ap, ◌∙◌}
use seplogic.Ra.Ura.{Ura}
use base.Logic.{SProp}
use prog.Memory.{Memory}
use prog.Routine.{Routine}
use types.Logic.{Logic}
use contract.Monad.{Fun, fact_mono}
use Rattle.std.proofs.Math.IntN.{nat_abs}
use Rattle.rules.specs.Refusals.{number}
use Rattle.answers.specs.Answers.{observed_out}
use Rattle.answers.specs.Answers.{placed_out}
use Rattle.promises.specs.OfContracts.{Tells}
use Rattle.promises.proofs.Demand1.Places.{place_answer}
use Rattle.promises.proofs.Demand1.Weather.{observed_place_answer}
use Rattle.promises.specs.Demand1.Thirteen.{number_not_13}
use Rattle.module.specs.contracts.places.turbelicus_place as turbelicus_place
use Rattle.module.specs.contracts.observed.turbelicus_observed_place as turbelicus_observed_place

module _ {M : Type 1} {𝓤 : Ura M} (𝓛 : Logic 𝓤) (mem : Memory → SProp 𝓤) (run : Routine → Fun 𝓤) where
  pub turbelicus_place_not_13 : Tells 𝓤 turbelicus_place.ended (turbelicus_place.clauses 𝓛 mem run)
      (λ κs passed a x. a.refused ≡ pos 13 → ⊥)
  unfolding number placed_out
  turbelicus_place_not_13 κs passed g a x = fact_mono 𝓤 _ _ (λ e h.
      number_not_13 _ _ 6 _ (place_answer _ _ _) refl (ap nat_abs (sym (ap (λ s. s.refused) e) ∙ h)))

  pub turbelicus_observed_place_not_13 : Tells 𝓤 turbelicus_observed_place.ended
      (turbelicus_observed_place.clauses 𝓛 mem run) (λ κs passed a x. a.refused ≡ pos 13 → ⊥)
  unfolding number observed_out
  turbelicus_observed_place_not_13 κs passed g a x = fact_mono 𝓤 _ _ (λ e h.
      number_not_13 _ _ 7 _ (observed_place_answer _ _ _ _) refl (ap nat_abs (sym (ap (λ s. s.refused) e) ∙ h)))
