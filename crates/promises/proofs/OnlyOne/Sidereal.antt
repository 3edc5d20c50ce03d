-- No second answer fits: the functions of crate `sidereal`. Written by tools/only_one.py.
use seplogic.Ra.Ura.{Ura}
use base.Logic.{SProp}
use prog.Memory.{Memory}
use prog.Routine.{Routine}
use types.Logic.{Logic}
use contract.Monad.{Fun}
use Rattle.promises.specs.OfContracts.{OneAnswer, one}
use Rattle.sidereal.specs.contracts.sidereal_of as sidereal_of
use Rattle.sidereal.specs.contracts.sidereal_polynomial_of as sidereal_polynomial_of
use Rattle.sidereal.specs.contracts.sidereal as sidereal

module _ {M : Type 1} {𝓤 : Ura M} (𝓛 : Logic 𝓤) (mem : Memory → SProp 𝓤) (run : Routine → Fun 𝓤) where
  pub sidereal_of_one : OneAnswer 𝓤 sidereal_of.ended (sidereal_of.clauses 𝓛 mem run)
  sidereal_of_one κs passed g r s x y = one 𝓤 r s _

  pub sidereal_polynomial_of_one : OneAnswer 𝓤 sidereal_polynomial_of.ended (sidereal_polynomial_of.clauses 𝓛 mem run)
  sidereal_polynomial_of_one κs passed g r s x y = one 𝓤 r s _

  pub sidereal_one : OneAnswer 𝓤 sidereal.ended (sidereal.clauses 𝓛 mem run)
  sidereal_one κs passed g r s x y = one 𝓤 r s _
