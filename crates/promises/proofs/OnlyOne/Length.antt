-- No second answer fits: the functions of crate `length`. Written by tools/only_one.py.
use seplogic.Ra.Ura.{Ura}
use base.Logic.{SProp}
use prog.Memory.{Memory}
use prog.Routine.{Routine}
use types.Logic.{Logic}
use contract.Monad.{Fun}
use Rattle.promises.specs.OfContracts.{OneAnswer, one}
use Rattle.length.specs.contracts.part_to as part_to
use Rattle.length.specs.contracts.accepted as accepted
use Rattle.length.specs.contracts.brought as brought

module _ {M : Type 1} {𝓤 : Ura M} (𝓛 : Logic 𝓤) (mem : Memory → SProp 𝓤) (run : Routine → Fun 𝓤) where
  pub part_to_one : OneAnswer 𝓤 part_to.ended (part_to.clauses 𝓛 mem run)
  part_to_one κs passed g r s x y = one 𝓤 r s _

  pub accepted_one : OneAnswer 𝓤 accepted.ended (accepted.clauses 𝓛 mem run)
  accepted_one κs passed g r s x y = one 𝓤 r s _

  pub brought_one : OneAnswer 𝓤 brought.ended (brought.clauses 𝓛 mem run)
  brought_one κs passed g r s x y = one 𝓤 r s _
