-- No second answer fits: the functions of crate `refraction`. Written by tools/only_one.py.
use seplogic.Ra.Ura.{Ura}
use base.Logic.{SProp}
use prog.Memory.{Memory}
use prog.Routine.{Routine}
use types.Logic.{Logic}
use contract.Monad.{Fun}
use Rattle.promises.specs.OfContracts.{OneAnswer, one}
use Rattle.refraction.specs.contracts.lift_at as lift_at
use Rattle.refraction.specs.contracts.observed.observed_altitude as observed_altitude

module _ {M : Type 1} {𝓤 : Ura M} (𝓛 : Logic 𝓤) (mem : Memory → SProp 𝓤) (run : Routine → Fun 𝓤) where
  pub lift_at_one : OneAnswer 𝓤 lift_at.ended (lift_at.clauses 𝓛 mem run)
  lift_at_one κs passed g r s x y = one 𝓤 r s _

  pub observed_altitude_one : OneAnswer 𝓤 observed_altitude.ended (observed_altitude.clauses 𝓛 mem run)
  observed_altitude_one κs passed g r s x y = one 𝓤 r s _
