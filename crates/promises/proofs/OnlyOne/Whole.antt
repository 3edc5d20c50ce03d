-- No second answer fits: the functions of crate `whole`. Written by tools/only_one.py.
use seplogic.Ra.Ura.{Ura}
use base.Logic.{SProp}
use prog.Memory.{Memory}
use prog.Routine.{Routine}
use types.Logic.{Logic}
use contract.Monad.{Fun}
use Rattle.promises.specs.OfContracts.{OneAnswer, one}
use Rattle.whole.specs.contracts.modulo_of as modulo_of
use Rattle.whole.specs.contracts.on_circle as on_circle
use Rattle.whole.specs.contracts.is_between as is_between
use Rattle.whole.specs.contracts.size_of as size_of

module _ {M : Type 1} {𝓤 : Ura M} (𝓛 : Logic 𝓤) (mem : Memory → SProp 𝓤) (run : Routine → Fun 𝓤) where
  pub modulo_of_one : OneAnswer 𝓤 modulo_of.ended (modulo_of.clauses 𝓛 mem run)
  modulo_of_one κs passed g r s x y = one 𝓤 r s _

  pub on_circle_one : OneAnswer 𝓤 on_circle.ended (on_circle.clauses 𝓛 mem run)
  on_circle_one κs passed g r s x y = one 𝓤 r s _

  pub is_between_one : OneAnswer 𝓤 is_between.ended (is_between.clauses 𝓛 mem run)
  is_between_one κs passed g r s x y = one 𝓤 r s _

  pub size_of_one : OneAnswer 𝓤 size_of.ended (size_of.clauses 𝓛 mem run)
  size_of_one κs passed g r s x y = one 𝓤 r s _
