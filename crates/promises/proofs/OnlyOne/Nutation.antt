-- No second answer fits: the functions of crate `nutation`. Written by tools/only_one.py.
use seplogic.Ra.Ura.{Ura}
use base.Logic.{SProp}
use prog.Memory.{Memory}
use prog.Routine.{Routine}
use types.Logic.{Logic}
use contract.Monad.{Fun}
use Rattle.promises.specs.OfContracts.{OneAnswer, one}
use Rattle.nutation.specs.contracts.nutation_of as nutation_of
use Rattle.nutation.specs.contracts.nutation as nutation

module _ {M : Type 1} {𝓤 : Ura M} (𝓛 : Logic 𝓤) (mem : Memory → SProp 𝓤) (run : Routine → Fun 𝓤) where
  pub nutation_of_one : OneAnswer 𝓤 nutation_of.ended (nutation_of.clauses 𝓛 mem run)
  nutation_of_one κs passed g r s x y = one 𝓤 r s _

  pub nutation_one : OneAnswer 𝓤 nutation.ended (nutation.clauses 𝓛 mem run)
  nutation_one κs passed g r s x y = one 𝓤 r s _
