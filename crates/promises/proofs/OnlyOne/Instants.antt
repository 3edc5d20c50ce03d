-- No second answer fits: the functions of crate `instants`. Written by tools/only_one.py.
use seplogic.Ra.Ura.{Ura}
use base.Logic.{SProp}
use prog.Memory.{Memory}
use prog.Routine.{Routine}
use types.Logic.{Logic}
use contract.Monad.{Fun}
use Rattle.promises.specs.OfContracts.{OneAnswer, one}
use Rattle.instants.specs.contracts.instants as instants

module _ {M : Type 1} {𝓤 : Ura M} (𝓛 : Logic 𝓤) (mem : Memory → SProp 𝓤) (run : Routine → Fun 𝓤) where
  pub instants_one : OneAnswer 𝓤 instants.ended (instants.clauses 𝓛 mem run)
  instants_one κs passed g r s x y = one 𝓤 r s _
