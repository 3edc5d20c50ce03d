-- No second answer fits: the functions of crate `night_list_checks`. Written by tools/only_one.py.
use seplogic.Ra.Ura.{Ura}
use base.Logic.{SProp}
use prog.Memory.{Memory}
use prog.Routine.{Routine}
use types.Logic.{Logic}
use contract.Monad.{Fun}
use Rattle.promises.specs.OfContracts.{OneAnswer, one}
use Rattle.night_list_checks.specs.contracts.night_for as night_for
use Rattle.night_list_checks.specs.contracts.worked as worked
use Rattle.night_list_checks.specs.contracts.filled as filled

module _ {M : Type 1} {𝓤 : Ura M} (𝓛 : Logic 𝓤) (mem : Memory → SProp 𝓤) (run : Routine → Fun 𝓤) where
  pub night_for_one : OneAnswer 𝓤 night_for.ended (night_for.clauses 𝓛 mem run)
  night_for_one κs passed g r s x y = one 𝓤 r s _

  pub worked_one : OneAnswer 𝓤 worked.ended (worked.clauses 𝓛 mem run)
  worked_one κs passed g r s x y = one 𝓤 r s _

  pub filled_one : OneAnswer 𝓤 filled.ended (filled.clauses 𝓛 mem run)
  filled_one κs passed g r s x y = one 𝓤 r s _
