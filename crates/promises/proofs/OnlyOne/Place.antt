-- No second answer fits: the functions of crate `place`. Written by tools/only_one.py.
use seplogic.Ra.Ura.{Ura}
use base.Logic.{SProp}
use prog.Memory.{Memory}
use prog.Routine.{Routine}
use types.Logic.{Logic}
use contract.Monad.{Fun}
use Rattle.promises.specs.OfContracts.{OneAnswer, one}
use Rattle.place.specs.contracts.place as place
use Rattle.place.specs.contracts.place_in as place_in

module _ {M : Type 1} {𝓤 : Ura M} (𝓛 : Logic 𝓤) (mem : Memory → SProp 𝓤) (run : Routine → Fun 𝓤) where
  pub place_one : OneAnswer 𝓤 place.ended (place.clauses 𝓛 mem run)
  place_one κs passed g r s x y = one 𝓤 r s _

  pub place_in_one : OneAnswer 𝓤 place_in.ended (place_in.clauses 𝓛 mem run)
  place_in_one κs passed g r s x y = one 𝓤 r s _
