-- No second answer fits: the functions of crate `line_dates`. Written by tools/only_one.py.
use seplogic.Ra.Ura.{Ura}
use base.Logic.{SProp}
use prog.Memory.{Memory}
use prog.Routine.{Routine}
use types.Logic.{Logic}
use contract.Monad.{Fun}
use Rattle.promises.specs.OfContracts.{OneAnswer, OneAnswerAndContent, one_text, one_each}
use Rattle.line_dates.specs.contracts.date_line as date_line
use Rattle.line_dates.specs.contracts.print_date as print_date

module _ {M : Type 1} {𝓤 : Ura M} (𝓛 : Logic 𝓤) (mem : Memory → SProp 𝓤) (run : Routine → Fun 𝓤) where
  pub date_line_one : OneAnswer 𝓤 date_line.ended (date_line.clauses 𝓛 mem run)
  date_line_one κs passed g r s x y = one_text 𝓤 r s _

  pub print_date_one : OneAnswerAndContent 𝓤 print_date.ended (print_date.clauses 𝓛 mem run)
      (λ κs x. x.1.0.now)
  print_date_one κs passed g r s x y = one_each 𝓤 r s _ _ _ _
