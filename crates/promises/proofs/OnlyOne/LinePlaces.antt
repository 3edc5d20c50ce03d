-- No second answer fits: the functions of crate `line_places`. Written by tools/only_one.py.
use seplogic.Ra.Ura.{Ura}
use base.Logic.{SProp}
use prog.Memory.{Memory}
use prog.Routine.{Routine}
use types.Logic.{Logic}
use contract.Monad.{Fun}
use Rattle.promises.specs.OfContracts.{OneAnswer, OneAnswerAndContent, one, one_each, one_content}
use Rattle.line_places.specs.contracts.answer_text as answer_text
use Rattle.line_places.specs.contracts.print_answer as print_answer
use Rattle.line_places.specs.contracts.command.command_of as command_of

module _ {M : Type 1} {𝓤 : Ura M} (𝓛 : Logic 𝓤) (mem : Memory → SProp 𝓤) (run : Routine → Fun 𝓤) where
  pub answer_text_one : OneAnswerAndContent 𝓤 answer_text.ended (answer_text.clauses 𝓛 mem run)
      (λ κs x. x.1.1.1.0.now.items)
  answer_text_one κs passed g r s x y = one_content 𝓤 r s _ _ _

  pub print_answer_one : OneAnswerAndContent 𝓤 print_answer.ended (print_answer.clauses 𝓛 mem run)
      (λ κs x. x.1.1.1.1.0.now)
  print_answer_one κs passed g r s x y = one_each 𝓤 r s _ _ _ _

  pub command_of_one : OneAnswer 𝓤 command_of.ended (command_of.clauses 𝓛 mem run)
  command_of_one κs passed g r s x y = one 𝓤 r s _
