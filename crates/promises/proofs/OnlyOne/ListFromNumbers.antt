-- No second answer fits: the functions of crate `list_from_numbers`. Written by tools/only_one.py.
use seplogic.Ra.Ura.{Ura}
use base.Logic.{SProp}
use prog.Memory.{Memory}
use prog.Routine.{Routine}
use types.Logic.{Logic}
use contract.Monad.{Fun}
use Rattle.promises.specs.OfContracts.{OneAnswerAndContent, one_both}
use Rattle.list_from_numbers.specs.contracts.list_write as list_write

module _ {M : Type 1} {𝓤 : Ura M} (𝓛 : Logic 𝓤) (mem : Memory → SProp 𝓤) (run : Routine → Fun 𝓤) where
  pub list_write_one : OneAnswerAndContent 𝓤 list_write.ended (list_write.clauses 𝓛 mem run)
      (λ κs x. x.1.0.now)
  list_write_one κs passed g r s x y = one_both 𝓤 r s _ _ _ _
