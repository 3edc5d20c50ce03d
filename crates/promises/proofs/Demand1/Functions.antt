-- Demand 1 of the functions themselves: what the contract of each entry point of the library tells of whatever is
-- passed.
-- It answers a refusal exactly when that is the first of its checks that is given, and then lent memory is as it was.
use Rattle.std.proofs.Common.{◌∙◌}
use seplogic.Ra.Ura.{Ura}
use base.Logic.{SProp, id⊢}
use prog.Memory.{Memory}
use prog.Routine.{Routine}
use types.Logic.{Logic}
use contract.Monad.{Fun}
use Rattle.promises.specs.OfContracts.{Tells, so_told}
use Rattle.promises.specs.Demand1.Checks as checks
use Rattle.promises.specs.Demand1.InOrder.{Refuses, Keeps}
use Rattle.promises.proofs.Demand1.Places as places
use Rattle.promises.proofs.Demand1.NightList as night_lists
use Rattle.place.specs.contracts.place as place
use Rattle.night_list.specs.contracts.night_list as night_list_lem
use Rattle.std.specs.Prelude.{Err}

module _ {M : Type 1} {𝓤 : Ura M} (𝓛 : Logic 𝓤) (mem : Memory → SProp 𝓤) (run : Routine → Fun 𝓤) where
  pub place_tells : Tells 𝓤 place.ended (place.clauses 𝓛 mem run)
      (λ κs passed a x. Refuses a Err (checks.place_checks passed.0 passed.1.0 passed.1.1.0))
  place_tells κs passed g a x = so_told 𝓤 (id⊢ 𝓤 _)
      (λ e r. rw e (places.place_refused_lem passed.0 passed.1.0 passed.1.1.0 r))

  pub night_list_tells : Tells 𝓤 night_list_lem.ended (night_list_lem.clauses 𝓛 mem run)
      (λ κs passed a x.
      Refuses a Err (checks.night_list_checks passed.0 passed.1.0 passed.1.1.0.now)
      × Keeps passed.1.1.0.now x.1.1.0.now
      (checks.night_list_checks passed.0 passed.1.0 passed.1.1.0.now))
  night_list_tells κs passed g a x = so_told 𝓤 (id⊢ 𝓤 _) (λ e. (
    λ r. rw e.0 (night_lists.night_list_refused passed.0 passed.1.0 passed.1.1.0.now r),
    λ r f. e.1 ∙ night_lists.night_list_kept passed.0 passed.1.0 passed.1.1.0.now r f,
  ))
