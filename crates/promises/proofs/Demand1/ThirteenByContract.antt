-- Refusal 13 of the functions themselves: by the contract of each entry point of the library, whatever is passed, its
-- answer is not refusal 13. `ThirteenForC` says so of what C calls.
use Rattle.std.proofs.Math.Path.{refl}
use seplogic.Ra.Ura.{Ura}
use base.Logic.{SProp}
use prog.Memory.{Memory}
use prog.Routine.{Routine}
use types.Logic.{Logic}
use contract.Monad.{Fun}
use Rattle.rules.specs.Refusals.{number}
use Rattle.promises.specs.OfContracts.{Tells, so_told}
use Rattle.promises.specs.Demand1.Checks as checks
use Rattle.promises.specs.Demand1.Thirteen.{Never13, never_13}
use Rattle.promises.proofs.Demand1.Functions as told
use Rattle.place.specs.contracts.place as place
use Rattle.night_list.specs.contracts.night_list as night_list_lem
use Rattle.std.specs.Prelude.{Err}

module _ {M : Type 1} {𝓤 : Ura M} (𝓛 : Logic 𝓤) (mem : Memory → SProp 𝓤) (run : Routine → Fun 𝓤) where
  pub place_not_13 : Tells 𝓤 place.ended (place.clauses 𝓛 mem run)
      (λ κs passed a x. Never13 a Err)
  unfolding number
  place_not_13 κs passed g a x = so_told 𝓤 (told.place_tells 𝓛 mem run κs passed g a x)
      (never_13 a Err
      (checks.place_checks passed.0 passed.1.0 passed.1.1.0) refl)

  pub night_list_not_13 : Tells 𝓤 night_list_lem.ended (night_list_lem.clauses 𝓛 mem run)
      (λ κs passed a x. Never13 a Err)
  unfolding number
  night_list_not_13 κs passed g a x = so_told 𝓤 (told.night_list_tells 𝓛 mem run κs passed g a x)
      (λ h. never_13 a Err
      (checks.night_list_checks passed.0 passed.1.0 passed.1.1.0.now) refl h.0)
