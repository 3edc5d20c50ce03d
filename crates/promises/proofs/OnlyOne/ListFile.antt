-- No second answer fits: the functions of crate `list_file`. Written by tools/only_one.py.
use seplogic.Ra.Ura.{Ura}
use base.Logic.{SProp}
use prog.Memory.{Memory}
use prog.Routine.{Routine}
use types.Logic.{Logic}
use contract.Monad.{Fun}
use Rattle.promises.specs.OfContracts.{OneAnswer, one}
use Rattle.list_file.specs.contracts.star_in as star_in
use Rattle.list_file.specs.contracts.list_count as list_count
use Rattle.list_file.specs.contracts.list_star as list_star

module _ {M : Type 1} {𝓤 : Ura M} (𝓛 : Logic 𝓤) (mem : Memory → SProp 𝓤) (run : Routine → Fun 𝓤) where
  pub star_in_one : OneAnswer 𝓤 star_in.ended (star_in.clauses 𝓛 mem run)
  star_in_one κs passed g r s x y = one 𝓤 r s _

  pub list_count_one : OneAnswer 𝓤 list_count.ended (list_count.clauses 𝓛 mem run)
  list_count_one κs passed g r s x y = one 𝓤 r s _

  pub list_star_one : OneAnswer 𝓤 list_star.ended (list_star.clauses 𝓛 mem run)
  list_star_one κs passed g r s x y = one 𝓤 r s _
