-- No second answer fits: the functions of crate `list_bytes`. Written by tools/only_one.py.
use seplogic.Ra.Ura.{Ura}
use base.Logic.{SProp}
use prog.Memory.{Memory}
use prog.Routine.{Routine}
use types.Logic.{Logic}
use contract.Monad.{Fun}
use Rattle.promises.specs.OfContracts.{OneAnswer, OneAnswerAndContent, one, one_and, one_content}
use Rattle.list_bytes.specs.contracts.number_in as number_in
use Rattle.list_bytes.specs.contracts.word_in as word_in
use Rattle.list_bytes.specs.contracts.put_number as put_number

module _ {M : Type 1} {𝓤 : Ura M} (𝓛 : Logic 𝓤) (mem : Memory → SProp 𝓤) (run : Routine → Fun 𝓤) where
  pub number_in_one : OneAnswer 𝓤 number_in.ended (number_in.clauses 𝓛 mem run)
  number_in_one κs passed g r s x y = one_and 𝓤 r s _ _ _

  pub word_in_one : OneAnswer 𝓤 word_in.ended (word_in.clauses 𝓛 mem run)
  word_in_one κs passed g r s x y = one 𝓤 r s _

  pub put_number_one : OneAnswerAndContent 𝓤 put_number.ended (put_number.clauses 𝓛 mem run)
      (λ κs x. x.0.now)
  put_number_one κs passed g r s x y = one_content 𝓤 r s _ _ _
