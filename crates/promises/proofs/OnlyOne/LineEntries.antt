-- No second answer fits: the functions of crate `line_entries`. Written by tools/only_one.py.
use seplogic.Ra.Ura.{Ura}
use base.Logic.{SProp}
use prog.Memory.{Memory}
use prog.Routine.{Routine}
use types.Logic.{Logic}
use contract.Monad.{Fun}
use Rattle.promises.specs.OfContracts.{OneAnswerAndContent, one_each, content_of_two}
use Rattle.line_entries.specs.contracts.append_entry as append_entry
use Rattle.line_entries.specs.contracts.put_entry as put_entry
use Rattle.line_entries.specs.contracts.observed.append_observed as append_observed
use Rattle.line_entries.specs.contracts.observed.put_observed as put_observed

module _ {M : Type 1} {𝓤 : Ura M} (𝓛 : Logic 𝓤) (mem : Memory → SProp 𝓤) (run : Routine → Fun 𝓤) where
  pub append_entry_one : (N : _) → OneAnswerAndContent 𝓤 (append_entry.ended N) (append_entry.clauses N 𝓛 mem run)
      (λ κs x. x.1.1.1.0.now.items)
  append_entry_one N κs passed g r s x y = content_of_two 𝓤 r s _ _ _

  pub put_entry_one : OneAnswerAndContent 𝓤 put_entry.ended (put_entry.clauses 𝓛 mem run)
      (λ κs x. x.1.1.1.0.now)
  put_entry_one κs passed g r s x y = one_each 𝓤 r s _ _ _ _

  pub append_observed_one : (N : _) → OneAnswerAndContent 𝓤 (append_observed.ended N)
      (append_observed.clauses N 𝓛 mem run)
      (λ κs x. x.1.1.1.0.now.items)
  append_observed_one N κs passed g r s x y = content_of_two 𝓤 r s _ _ _

  pub put_observed_one : OneAnswerAndContent 𝓤 put_observed.ended (put_observed.clauses 𝓛 mem run)
      (λ κs x. x.1.1.1.1.1.0.now)
  put_observed_one κs passed g r s x y = one_each 𝓤 r s _ _ _ _
