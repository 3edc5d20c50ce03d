-- No second answer fits: the functions of crate `entries_read`. Written by tools/only_one.py.
use seplogic.Ra.Ura.{Ura}
use base.Logic.{SProp}
use prog.Memory.{Memory}
use prog.Routine.{Routine}
use types.Logic.{Logic}
use contract.Monad.{Fun}
use Rattle.promises.specs.OfContracts.{OneAnswerAndContent, one_both}
use Rattle.entries_read.specs.contracts.read_list as read_list

module _ {M : Type 1} {𝓤 : Ura M} (𝓛 : Logic 𝓤) (mem : Memory → SProp 𝓤) (run : Routine → Fun 𝓤) where
  pub read_list_one : OneAnswerAndContent 𝓤 read_list.ended (read_list.clauses 𝓛 mem run)
      (λ κs x. x.1.0.now)
  read_list_one κs passed g r s x y = one_both 𝓤 r s _ _ _ _
