-- No second answer fits: the functions of crate `entries_write_checks`. Written by tools/only_one.py.
use seplogic.Ra.Ura.{Ura}
use base.Logic.{SProp}
use prog.Memory.{Memory}
use prog.Routine.{Routine}
use types.Logic.{Logic}
use contract.Monad.{Fun}
use Rattle.promises.specs.OfContracts.{OneAnswer, one}
use Rattle.entries_write_checks.specs.contracts.length_within as length_within

module _ {M : Type 1} {𝓤 : Ura M} (𝓛 : Logic 𝓤) (mem : Memory → SProp 𝓤) (run : Routine → Fun 𝓤) where
  pub length_within_one : OneAnswer 𝓤 length_within.ended (length_within.clauses 𝓛 mem run)
  length_within_one κs passed g r s x y = one 𝓤 r s _
