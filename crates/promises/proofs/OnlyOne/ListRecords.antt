-- No second answer fits: the functions of crate `list_records`. Written by tools/only_one.py.
use seplogic.Ra.Ura.{Ura}
use base.Logic.{SProp}
use prog.Memory.{Memory}
use prog.Routine.{Routine}
use types.Logic.{Logic}
use contract.Monad.{Fun}
use Rattle.promises.specs.OfContracts.{OneAnswer, OneAnswerAndContent, one, one_content}
use Rattle.list_records.specs.contracts.file_length as file_length
use Rattle.list_records.specs.contracts.put_star as put_star
use Rattle.list_records.specs.contracts.put_record as put_record
use Rattle.list_records.specs.contracts.put_head as put_head

module _ {M : Type 1} {𝓤 : Ura M} (𝓛 : Logic 𝓤) (mem : Memory → SProp 𝓤) (run : Routine → Fun 𝓤) where
  pub file_length_one : OneAnswer 𝓤 file_length.ended (file_length.clauses 𝓛 mem run)
  file_length_one κs passed g r s x y = one 𝓤 r s _

  pub put_star_one : OneAnswerAndContent 𝓤 put_star.ended (put_star.clauses 𝓛 mem run)
      (λ κs x. x.0.now)
  put_star_one κs passed g r s x y = one_content 𝓤 r s _ _ _

  pub put_record_one : OneAnswerAndContent 𝓤 put_record.ended (put_record.clauses 𝓛 mem run)
      (λ κs x. x.0.now)
  put_record_one κs passed g r s x y = one_content 𝓤 r s _ _ _

  pub put_head_one : OneAnswerAndContent 𝓤 put_head.ended (put_head.clauses 𝓛 mem run)
      (λ κs x. x.0.now)
  put_head_one κs passed g r s x y = one_content 𝓤 r s _ _ _
