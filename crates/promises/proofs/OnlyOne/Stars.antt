-- No second answer fits: the functions of crate `stars`. Written by tools/only_one.py.
use seplogic.Ra.Ura.{Ura}
use base.Logic.{SProp}
use prog.Memory.{Memory}
use prog.Routine.{Routine}
use types.Logic.{Logic}
use contract.Monad.{Fun}
use Rattle.promises.specs.OfContracts.{OneAnswer, one}
use Rattle.stars.specs.contracts.star_refused as star_refused
use Rattle.stars.specs.contracts.numbers_refused as numbers_refused
use Rattle.stars.specs.contracts.site_refused as site_refused

module _ {M : Type 1} {𝓤 : Ura M} (𝓛 : Logic 𝓤) (mem : Memory → SProp 𝓤) (run : Routine → Fun 𝓤) where
  pub star_refused_one : OneAnswer 𝓤 star_refused.ended (star_refused.clauses 𝓛 mem run)
  star_refused_one κs passed g r s x y = one 𝓤 r s _

  pub numbers_refused_one : OneAnswer 𝓤 numbers_refused.ended (numbers_refused.clauses 𝓛 mem run)
  numbers_refused_one κs passed g r s x y = one 𝓤 r s _

  pub site_refused_one : OneAnswer 𝓤 site_refused.ended (site_refused.clauses 𝓛 mem run)
  site_refused_one κs passed g r s x y = one 𝓤 r s _
