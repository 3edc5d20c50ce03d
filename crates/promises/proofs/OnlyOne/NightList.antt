-- No second answer fits: the functions of crate `night_list`. Written by tools/only_one.py.
use seplogic.Ra.Ura.{Ura}
use base.Logic.{SProp}
use prog.Memory.{Memory}
use prog.Routine.{Routine}
use types.Logic.{Logic}
use contract.Monad.{Fun}
use Rattle.promises.specs.OfContracts.{OneAnswerAndContent, one_both}
use Rattle.night_list.specs.contracts.night_list as night_list

module _ {M : Type 1} {𝓤 : Ura M} (𝓛 : Logic 𝓤) (mem : Memory → SProp 𝓤) (run : Routine → Fun 𝓤) where
  pub night_list_one : OneAnswerAndContent 𝓤 night_list.ended (night_list.clauses 𝓛 mem run)
      (λ κs x. x.1.1.0.now)
  night_list_one κs passed g r s x y = one_both 𝓤 r s _ _ _ _
