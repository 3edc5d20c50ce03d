-- No second answer fits: the functions of crate `weather`. Written by tools/only_one.py.
use seplogic.Ra.Ura.{Ura}
use base.Logic.{SProp}
use prog.Memory.{Memory}
use prog.Routine.{Routine}
use types.Logic.{Logic}
use contract.Monad.{Fun}
use Rattle.promises.specs.OfContracts.{OneAnswer, one}
use Rattle.weather.specs.contracts.tenths as tenths
use Rattle.weather.specs.contracts.kept.recorded as recorded
use Rattle.weather.specs.contracts.kept.take_from as take_from

module _ {M : Type 1} {𝓤 : Ura M} (𝓛 : Logic 𝓤) (mem : Memory → SProp 𝓤) (run : Routine → Fun 𝓤) where
  pub tenths_one : OneAnswer 𝓤 tenths.ended (tenths.clauses 𝓛 mem run)
  tenths_one κs passed g r s x y = one 𝓤 r s _

  pub recorded_one : OneAnswer 𝓤 recorded.ended (recorded.clauses 𝓛 mem run)
  recorded_one κs passed g r s x y = one 𝓤 r s _

  pub take_from_one : OneAnswer 𝓤 take_from.ended (take_from.clauses 𝓛 mem run)
  take_from_one κs passed g r s x y = one 𝓤 r s _
