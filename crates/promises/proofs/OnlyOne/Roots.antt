-- No second answer fits: the functions of crate `roots`. Written by tools/only_one.py.
use seplogic.Ra.Ura.{Ura}
use base.Logic.{SProp}
use prog.Memory.{Memory}
use prog.Routine.{Routine}
use types.Logic.{Logic}
use contract.Monad.{Fun}
use Rattle.promises.specs.OfContracts.{OneAnswer, one}
use Rattle.roots.specs.contracts.whole_root as whole_root
use Rattle.roots.specs.contracts.length_root as length_root
use Rattle.roots.specs.contracts.near_root as near_root

module _ {M : Type 1} {𝓤 : Ura M} (𝓛 : Logic 𝓤) (mem : Memory → SProp 𝓤) (run : Routine → Fun 𝓤) where
  pub whole_root_one : OneAnswer 𝓤 whole_root.ended (whole_root.clauses 𝓛 mem run)
  whole_root_one κs passed g r s x y = one 𝓤 r s _

  pub length_root_one : OneAnswer 𝓤 length_root.ended (length_root.clauses 𝓛 mem run)
  length_root_one κs passed g r s x y = one 𝓤 r s _

  pub near_root_one : OneAnswer 𝓤 near_root.ended (near_root.clauses 𝓛 mem run)
  near_root_one κs passed g r s x y = one 𝓤 r s _
