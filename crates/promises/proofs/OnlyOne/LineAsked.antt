-- No second answer fits: the functions of crate `line_asked`. Written by tools/only_one.py.
use seplogic.Ra.Ura.{Ura}
use base.Logic.{SProp}
use prog.Memory.{Memory}
use prog.Routine.{Routine}
use types.Logic.{Logic}
use contract.Monad.{Fun}
use Rattle.promises.specs.OfContracts.{OneAnswer, one}
use Rattle.line_asked.specs.contracts.length_before as length_before
use Rattle.line_asked.specs.contracts.asked_of as asked_of

module _ {M : Type 1} {𝓤 : Ura M} (𝓛 : Logic 𝓤) (mem : Memory → SProp 𝓤) (run : Routine → Fun 𝓤) where
  pub length_before_one : OneAnswer 𝓤 length_before.ended (length_before.clauses 𝓛 mem run)
  length_before_one κs passed g r s x y = one 𝓤 r s _

  pub asked_of_one : OneAnswer 𝓤 asked_of.ended (asked_of.clauses 𝓛 mem run)
  asked_of_one κs passed g r s x y = one 𝓤 r s _
