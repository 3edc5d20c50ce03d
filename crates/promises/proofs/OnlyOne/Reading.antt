-- No second answer fits: the functions of crate `reading`. Written by tools/only_one.py.
use seplogic.Ra.Ura.{Ura}
use base.Logic.{SProp}
use prog.Memory.{Memory}
use prog.Routine.{Routine}
use types.Logic.{Logic}
use contract.Monad.{Fun}
use Rattle.promises.specs.OfContracts.{OneAnswer, one}
use Rattle.reading.specs.contracts.reading as reading
use Rattle.reading.specs.contracts.height as height

module _ {M : Type 1} {𝓤 : Ura M} (𝓛 : Logic 𝓤) (mem : Memory → SProp 𝓤) (run : Routine → Fun 𝓤) where
  pub reading_one : OneAnswer 𝓤 reading.ended (reading.clauses 𝓛 mem run)
  reading_one κs passed g r s x y = one 𝓤 r s _

  pub height_one : OneAnswer 𝓤 height.ended (height.clauses 𝓛 mem run)
  height_one κs passed g r s x y = one 𝓤 r s _
