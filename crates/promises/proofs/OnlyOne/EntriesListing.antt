-- No second answer fits: the functions of crate `entries_listing`. Written by tools/only_one.py.
use seplogic.Ra.Ura.{Ura}
use base.Logic.{SProp}
use prog.Memory.{Memory}
use prog.Routine.{Routine}
use types.Logic.{Logic}
use contract.Monad.{Fun}
use Rattle.promises.specs.OfContracts.{OneAnswer, one}
use Rattle.entries_listing.specs.contracts.read as read
use Rattle.entries_listing.specs.contracts.work as work

module _ {M : Type 1} {𝓤 : Ura M} (𝓛 : Logic 𝓤) (mem : Memory → SProp 𝓤) (run : Routine → Fun 𝓤) where
  pub read_one : OneAnswer 𝓤 read.ended (read.clauses 𝓛 mem run)
  read_one κs passed g r s x y = one 𝓤 r s _

  pub work_one : OneAnswer 𝓤 work.ended (work.clauses 𝓛 mem run)
  work_one κs passed g r s x y = one 𝓤 r s _
