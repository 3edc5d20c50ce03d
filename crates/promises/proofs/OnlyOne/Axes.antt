-- No second answer fits: the functions of crate `axes`. Written by tools/only_one.py.
use seplogic.Ra.Ura.{Ura}
use base.Logic.{SProp}
use prog.Memory.{Memory}
use prog.Routine.{Routine}
use types.Logic.{Logic}
use contract.Monad.{Fun}
use Rattle.promises.specs.OfContracts.{OneAnswer, one}
use Rattle.axes.specs.contracts.turn_about as turn_about

module _ {M : Type 1} {𝓤 : Ura M} (𝓛 : Logic 𝓤) (mem : Memory → SProp 𝓤) (run : Routine → Fun 𝓤) where
  pub turn_about_one : OneAnswer 𝓤 turn_about.ended (turn_about.clauses 𝓛 mem run)
  turn_about_one κs passed g r s x y = one 𝓤 r s _
