-- No second answer fits: the functions of crate `utc`. Written by tools/only_one.py.
use seplogic.Ra.Ura.{Ura}
use base.Logic.{SProp}
use prog.Memory.{Memory}
use prog.Routine.{Routine}
use types.Logic.{Logic}
use contract.Monad.{Fun}
use Rattle.promises.specs.OfContracts.{OneAnswer, one}
use Rattle.utc.specs.contracts.utc_of_tt as utc_of_tt

module _ {M : Type 1} {𝓤 : Ura M} (𝓛 : Logic 𝓤) (mem : Memory → SProp 𝓤) (run : Routine → Fun 𝓤) where
  pub utc_of_tt_one : OneAnswer 𝓤 utc_of_tt.ended (utc_of_tt.clauses 𝓛 mem run)
  utc_of_tt_one κs passed g r s x y = one 𝓤 r s _
