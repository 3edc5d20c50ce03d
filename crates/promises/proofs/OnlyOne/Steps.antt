-- No second answer fits: the functions of crate `steps`. Written by tools/only_one.py.
use seplogic.Ra.Ura.{Ura}
use base.Logic.{SProp}
use prog.Memory.{Memory}
use prog.Routine.{Routine}
use types.Logic.{Logic}
use contract.Monad.{Fun}
use Rattle.promises.specs.OfContracts.{OneAnswer, one, one_of_two}
use Rattle.steps.specs.contracts.apparent as apparent
use Rattle.steps.specs.contracts.overhead as overhead
use Rattle.steps.specs.contracts.readings as readings

module _ {M : Type 1} {𝓤 : Ura M} (𝓛 : Logic 𝓤) (mem : Memory → SProp 𝓤) (run : Routine → Fun 𝓤) where
  pub apparent_one : OneAnswer 𝓤 apparent.ended (apparent.clauses 𝓛 mem run)
  apparent_one κs passed g r s x y = one_of_two 𝓤 r s _

  pub overhead_one : OneAnswer 𝓤 overhead.ended (overhead.clauses 𝓛 mem run)
  overhead_one κs passed g r s x y = one_of_two 𝓤 r s _

  pub readings_one : OneAnswer 𝓤 readings.ended (readings.clauses 𝓛 mem run)
  readings_one κs passed g r s x y = one 𝓤 r s _
