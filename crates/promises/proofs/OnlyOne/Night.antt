-- No second answer fits: the functions of crate `night`. Written by tools/only_one.py.
use seplogic.Ra.Ura.{Ura}
use base.Logic.{SProp}
use prog.Memory.{Memory}
use prog.Routine.{Routine}
use types.Logic.{Logic}
use contract.Monad.{Fun}
use Rattle.promises.specs.OfContracts.{OneAnswer, one}
use Rattle.night.specs.contracts.night_of as night_of
use Rattle.night.specs.contracts.night_at as night_at

module _ {M : Type 1} {𝓤 : Ura M} (𝓛 : Logic 𝓤) (mem : Memory → SProp 𝓤) (run : Routine → Fun 𝓤) where
  pub night_of_one : OneAnswer 𝓤 night_of.ended (night_of.clauses 𝓛 mem run)
  night_of_one κs passed g r s x y = one 𝓤 r s _

  pub night_at_one : OneAnswer 𝓤 night_at.ended (night_at.clauses 𝓛 mem run)
  night_at_one κs passed g r s x y = one 𝓤 r s _
