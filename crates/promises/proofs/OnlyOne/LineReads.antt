-- No second answer fits: the functions of crate `line_reads`. Written by tools/only_one.py.
use seplogic.Ra.Ura.{Ura}
use base.Logic.{SProp}
use prog.Memory.{Memory}
use prog.Routine.{Routine}
use types.Logic.{Logic}
use contract.Monad.{Fun}
use Rattle.promises.specs.OfContracts.{OneAnswerAndContent, OneShown, one_shown, one_each}
use Rattle.line_reads.specs.contracts.begin_text as begin_text
use Rattle.line_reads.specs.contracts.answer_text as answer_text
use Rattle.line_reads.specs.contracts.begin as begin
use Rattle.line_reads.specs.contracts.answer_read as answer_read
use Rattle.line_reads.specs.contracts.Program.name as name

module _ {M : Type 1} {𝓤 : Ura M} (𝓛 : Logic 𝓤) (mem : Memory → SProp 𝓤) (run : Routine → Fun 𝓤) where
  pub begin_text_one : OneAnswerAndContent 𝓤 begin_text.ended (begin_text.clauses 𝓛 mem run)
      (λ κs x. x.1.0.now.items)
  begin_text_one κs passed g r s x y = one_each 𝓤 r s _ _ _ _

  pub answer_text_one : OneAnswerAndContent 𝓤 answer_text.ended (answer_text.clauses 𝓛 mem run)
      (λ κs x. x.1.1.1.0.now.items)
  answer_text_one κs passed g r s x y = one_each 𝓤 r s _ _ _ _

  pub begin_one : OneAnswerAndContent 𝓤 begin.ended (begin.clauses 𝓛 mem run)
      (λ κs x. x.1.0.now)
  begin_one κs passed g r s x y = one_each 𝓤 r s _ _ _ _

  pub answer_read_one : OneAnswerAndContent 𝓤 answer_read.ended (answer_read.clauses 𝓛 mem run)
      (λ κs x. x.1.1.1.1.0.now)
  answer_read_one κs passed g r s x y = one_each 𝓤 r s _ _ _ _

  pub name_one : OneShown 𝓤 name.ended (name.clauses 𝓛 mem run) (λ κs r. r.now)
  name_one κs passed g r s x y = one_shown 𝓤 r s _
