-- No second answer fits: the functions of crate `decimals`. Written by tools/only_one.py.
use seplogic.Ra.Ura.{Ura}
use base.Logic.{SProp}
use prog.Memory.{Memory}
use prog.Routine.{Routine}
use types.Logic.{Logic}
use contract.Monad.{Fun}
use Rattle.promises.specs.OfContracts.{OneAnswer, OneAnswerAndContent, one_text, one_each, one_content, content_of_two}
use Rattle.decimals.specs.contracts.append_digits as append_digits
use Rattle.decimals.specs.contracts.put_marked as put_marked
use Rattle.decimals.specs.contracts.append as append
use Rattle.decimals.specs.contracts.put_text as put_text
use Rattle.decimals.specs.contracts.append_refused as append_refused
use Rattle.decimals.specs.contracts.refused as refused
use Rattle.decimals.specs.contracts.append_answer as append_answer
use Rattle.decimals.specs.contracts.put_front as put_front
use Rattle.decimals.specs.contracts.put_at as put_at
use Rattle.decimals.specs.contracts.put_digits as put_digits
use Rattle.decimals.specs.contracts.put as put
use Rattle.decimals.specs.contracts.put_refused as put_refused
use Rattle.decimals.specs.contracts.put_answer as put_answer

module _ {M : Type 1} {𝓤 : Ura M} (𝓛 : Logic 𝓤) (mem : Memory → SProp 𝓤) (run : Routine → Fun 𝓤) where
  pub append_digits_one : (N : _) → OneAnswerAndContent 𝓤 (append_digits.ended N) (append_digits.clauses N 𝓛 mem run)
      (λ κs x. x.1.1.0.now.items)
  append_digits_one N κs passed g r s x y = content_of_two 𝓤 r s _ _ _

  pub put_marked_one : (N : _) → OneAnswerAndContent 𝓤 (put_marked.ended N) (put_marked.clauses N 𝓛 mem run)
      (λ κs x. x.1.1.1.0.now.items)
  put_marked_one N κs passed g r s x y = content_of_two 𝓤 r s _ _ _

  pub append_one : (N : _) → OneAnswerAndContent 𝓤 (append.ended N) (append.clauses N 𝓛 mem run)
      (λ κs x. x.1.0.now.items)
  append_one N κs passed g r s x y = content_of_two 𝓤 r s _ _ _

  pub put_text_one : (N : _) → OneAnswerAndContent 𝓤 (put_text.ended N) (put_text.clauses N 𝓛 mem run)
      (λ κs x. x.1.0.now.items)
  put_text_one N κs passed g r s x y = content_of_two 𝓤 r s _ _ _

  pub append_refused_one : (N : _) → OneAnswerAndContent 𝓤 (append_refused.ended N) (append_refused.clauses N 𝓛 mem run)
      (λ κs x. x.1.0.now.items)
  append_refused_one N κs passed g r s x y = content_of_two 𝓤 r s _ _ _

  pub refused_one : OneAnswer 𝓤 refused.ended (refused.clauses 𝓛 mem run)
  refused_one κs passed g r s x y = one_text 𝓤 r s _

  pub append_answer_one : (N : _) → OneAnswerAndContent 𝓤 (append_answer.ended N) (append_answer.clauses N 𝓛 mem run)
      (λ κs x. x.1.1.1.0.now.items)
  append_answer_one N κs passed g r s x y = content_of_two 𝓤 r s _ _ _

  pub put_front_one : (N : _) → OneAnswerAndContent 𝓤 (put_front.ended N) (put_front.clauses N 𝓛 mem run)
      (λ κs x. x.1.0.now)
  put_front_one N κs passed g r s x y = one_each 𝓤 r s _ _ _ _

  pub put_at_one : OneAnswerAndContent 𝓤 put_at.ended (put_at.clauses 𝓛 mem run)
      (λ κs x. x.1.1.0.now)
  put_at_one κs passed g r s x y = one_each 𝓤 r s _ _ _ _

  pub put_digits_one : OneAnswerAndContent 𝓤 put_digits.ended (put_digits.clauses 𝓛 mem run)
      (λ κs x. x.1.1.1.0.now)
  put_digits_one κs passed g r s x y = one_content 𝓤 r s _ _ _

  pub put_one : OneAnswerAndContent 𝓤 put.ended (put.clauses 𝓛 mem run)
      (λ κs x. x.1.1.0.now)
  put_one κs passed g r s x y = one_each 𝓤 r s _ _ _ _

  pub put_refused_one : OneAnswerAndContent 𝓤 put_refused.ended (put_refused.clauses 𝓛 mem run)
      (λ κs x. x.1.0.now)
  put_refused_one κs passed g r s x y = one_each 𝓤 r s _ _ _ _

  pub put_answer_one : OneAnswerAndContent 𝓤 put_answer.ended (put_answer.clauses 𝓛 mem run)
      (λ κs x. x.1.1.1.0.now)
  put_answer_one κs passed g r s x y = one_each 𝓤 r s _ _ _ _
