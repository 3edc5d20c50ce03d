-- No second answer fits: the functions of crate `turning`. Written by tools/only_one.py.
use seplogic.Ra.Ura.{Ura}
use base.Logic.{SProp}
use prog.Memory.{Memory}
use prog.Routine.{Routine}
use types.Logic.{Logic}
use contract.Monad.{Fun}
use Rattle.promises.specs.OfContracts.{OneAnswer, one}
use Rattle.turning.specs.contracts.turn_by as turn_by
use Rattle.turning.specs.contracts.turn as turn

module _ {M : Type 1} {𝓤 : Ura M} (𝓛 : Logic 𝓤) (mem : Memory → SProp 𝓤) (run : Routine → Fun 𝓤) where
  pub turn_by_one : OneAnswer 𝓤 turn_by.ended (turn_by.clauses 𝓛 mem run)
  turn_by_one κs passed g r s x y = one 𝓤 r s _

  pub turn_one : OneAnswer 𝓤 turn.ended (turn.clauses 𝓛 mem run)
  turn_one κs passed g r s x y = one 𝓤 r s _
