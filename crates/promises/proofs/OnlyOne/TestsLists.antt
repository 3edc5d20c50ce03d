-- No second answer fits: the functions of crate `tests_lists`. Written by tools/only_one.py.
use seplogic.Ra.Ura.{Ura}
use base.Logic.{SProp}
use prog.Memory.{Memory}
use prog.Routine.{Routine}
use types.Logic.{Logic}
use contract.Monad.{Fun}
use Rattle.promises.specs.OfContracts.{OneAnswerAndContent, one_both}
use Rattle.tests_lists.specs.contracts.tests_list_read as tests_list_read
use Rattle.tests_lists.specs.contracts.tests_list_write as tests_list_write
use Rattle.tests_lists.specs.contracts.tests_night_list as tests_night_list

module _ {M : Type 1} {𝓤 : Ura M} (𝓛 : Logic 𝓤) (mem : Memory → SProp 𝓤) (run : Routine → Fun 𝓤) where
  pub tests_list_read_one : OneAnswerAndContent 𝓤 tests_list_read.ended (tests_list_read.clauses 𝓛 mem run)
      (λ κs x. x.1.0.now)
  tests_list_read_one κs passed g r s x y = one_both 𝓤 r s _ _ _ _

  pub tests_list_write_one : OneAnswerAndContent 𝓤 tests_list_write.ended (tests_list_write.clauses 𝓛 mem run)
      (λ κs x. x.1.0.now)
  tests_list_write_one κs passed g r s x y = one_both 𝓤 r s _ _ _ _

  pub tests_night_list_one : OneAnswerAndContent 𝓤 tests_night_list.ended (tests_night_list.clauses 𝓛 mem run)
      (λ κs x. x.1.1.1.1.1.1.1.1.1.1.0.now)
  tests_night_list_one κs passed g r s x y = one_both 𝓤 r s _ _ _ _
