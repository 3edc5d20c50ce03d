-- No second answer fits: the functions of crate `entries_read_checks`. Written by tools/only_one.py.
use seplogic.Ra.Ura.{Ura}
use base.Logic.{SProp}
use prog.Memory.{Memory}
use prog.Routine.{Routine}
use types.Logic.{Logic}
use contract.Monad.{Fun}
use Rattle.promises.specs.OfContracts.{OneAnswer, one}
use Rattle.entries_read_checks.specs.contracts.read_into as read_into
use Rattle.entries_read_checks.specs.contracts.entry_in as entry_in

module _ {M : Type 1} {𝓤 : Ura M} (𝓛 : Logic 𝓤) (mem : Memory → SProp 𝓤) (run : Routine → Fun 𝓤) where
  pub read_into_one : OneAnswer 𝓤 read_into.ended (read_into.clauses 𝓛 mem run)
  read_into_one κs passed g r s x y = one 𝓤 r s _

  pub entry_in_one : OneAnswer 𝓤 entry_in.ended (entry_in.clauses 𝓛 mem run)
  entry_in_one κs passed g r s x y = one 𝓤 r s _
