-- No second answer fits: the functions of crate `line_times`. Written by tools/only_one.py.
use seplogic.Ra.Ura.{Ura}
use base.Logic.{SProp}
use prog.Memory.{Memory}
use prog.Routine.{Routine}
use types.Logic.{Logic}
use contract.Monad.{Fun}
use Rattle.promises.specs.OfContracts.{OneAnswer, OneAnswerAndContent, one_text, one_each}
use Rattle.line_times.specs.contracts.printed_for as printed_for
use Rattle.line_times.specs.contracts.print_line as print_line

module _ {M : Type 1} {𝓤 : Ura M} (𝓛 : Logic 𝓤) (mem : Memory → SProp 𝓤) (run : Routine → Fun 𝓤) where
  pub printed_for_one : OneAnswer 𝓤 printed_for.ended (printed_for.clauses 𝓛 mem run)
  printed_for_one κs passed g r s x y = one_text 𝓤 r s _

  pub print_line_one : OneAnswerAndContent 𝓤 print_line.ended (print_line.clauses 𝓛 mem run)
      (λ κs x. x.1.0.now)
  print_line_one κs passed g r s x y = one_each 𝓤 r s _ _ _ _
